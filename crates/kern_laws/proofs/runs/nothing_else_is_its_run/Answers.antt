use Rattle.kern_laws.proofs.FirstRun.{no_other_pid, no_other_charge}
use Rattle.kern_laws.proofs.runs.nothing_else_is_its_run.Goals as goal

pub returns-clause-pid : goal.returns-clause-pid
returns-clause-pid c = no_other_pid

pub returns-clause-charged : goal.returns-clause-charged
returns-clause-charged c = no_other_charge
