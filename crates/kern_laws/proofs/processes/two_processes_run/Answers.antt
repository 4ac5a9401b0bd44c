use Rattle.std.proofs.Common.{refl}
use Rattle.kern_laws.proofs.processes.two_processes_run.Goals as goal

pub returns : goal.returns
returns c = (_, _, _, _, refl, refl, refl, refl, refl, refl)
