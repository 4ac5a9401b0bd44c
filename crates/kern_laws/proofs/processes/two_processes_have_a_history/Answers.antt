use Rattle.kern_laws.proofs.TwoRun.{two_run}
use Rattle.kern_laws.proofs.processes.two_processes_have_a_history.Goals as goal

pub returns : goal.returns
returns c = two_run
