use Rattle.std.proofs.Common.{sym, ap, ◌∙◌}
use Rattle.posix_defs.specs.Plain.{last_pid}
use Rattle.posix_defs.specs.World.{World}
use Rattle.shared_trials.proofs.PairSteps.{pair_last}
use Rattle.shared_trials.proofs.pair.PairTurner.last_pid.Goals as goal

pub returns : goal.returns
returns c = λ world is. c.last_in.ensures ∙ sym (ap (λ (w : World). last_pid w.plain) is ∙ pair_last c.args.self.now.scene c.args.self.now.cached)
