use Rattle.tree_laws.proofs.RenameSteps.{over_steps, to_steps}
use Rattle.tree_laws.proofs.others.a_rename_goes_step_by_step.Goals as goal

pub returns-clause-over : goal.returns-clause-over
returns-clause-over c = over_steps

pub returns-clause-away : goal.returns-clause-away
returns-clause-away c = to_steps
