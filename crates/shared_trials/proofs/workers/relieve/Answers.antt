use Rattle.std.proofs.Common.{ap, ◌∙◌}
use Rattle.shared_trials.specs.Workers.{pid_of}
use Rattle.shared_trials.proofs.workers.relieve.Goals as goal

pub returns-clause-works : goal.returns-clause-works
returns-clause-works g c = record {
  rests = c.relieve.ensures.pass;
  same = c.relieve.ensures.given ∙ c.requires.same;
  holds = λ pid call some. c.relieve.ensures.holds pid call (c.requires.same ∙ ap pid_of some) (c.requires.holds pid call some);
}
