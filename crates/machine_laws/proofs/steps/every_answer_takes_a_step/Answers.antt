use Rattle.machine_laws.proofs.Stepping.{step_of}
use Rattle.machine_laws.proofs.steps.every_answer_takes_a_step.Goals as goal

pub returns : goal.returns
returns c = step_of
