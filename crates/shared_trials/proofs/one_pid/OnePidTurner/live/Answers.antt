use Rattle.std.proofs.Common.{sym, ap, ◌∙◌}
use Rattle.posix_defs.specs.World.{live_of}
use Rattle.shared_trials.proofs.SampleSteps.{sample_live}
use Rattle.shared_trials.proofs.one_pid.OnePidTurner.live.Goals as goal

pub returns-clause-bytes : goal.returns-clause-bytes
returns-clause-bytes c = λ world is. c.taken.ensures ∙ sym (ap live_of is ∙ sample_live c.args.self.now.place c.args.self.now.lives)

pub returns-clause-rests : goal.returns-clause-rests
returns-clause-rests c = λ world is. ap live_of is ∙ sample_live c.args.self.now.place c.args.self.now.lives
