use Rattle.std.proofs.Common.{sym, ap, ◌∙◌}
use Rattle.posix_defs.specs.World.{World, can_evict}
use Rattle.shared_trials.proofs.PairSteps.{pair_can}
use Rattle.shared_trials.proofs.pair.PairTurner.evictable.Goals as goal

pub returns : goal.returns
returns c = λ world is.
    c.can_lose.ensures ∙ sym (ap (λ (w : World). can_evict w.plain w.kept c.args.what) is ∙ pair_can c.args.self.now.scene c.args.self.now.cached c.args.what)
