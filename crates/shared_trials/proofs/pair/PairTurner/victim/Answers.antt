use Rattle.std.proofs.Common.{sym, ap, ◌∙◌}
use Rattle.posix_defs.specs.Victim.{victim_of}
use Rattle.posix_defs.specs.World.{World}
use Rattle.shared_trials.specs.Pair.{pair}
use Rattle.shared_trials.proofs.PairSteps.{pair_victim}
use Rattle.shared_trials.proofs.pair.PairTurner.victim.Goals as goal

pub returns : goal.returns
returns c = λ world is.
    c.victim_in.ensures ∙ sym (ap (λ (w : World). victim_of (pair c.args.self.now.heap).policy w.plain w.account) is ∙ pair_victim c.args.self.now.heap c.args.self.now.scene c.args.self.now.cached)
