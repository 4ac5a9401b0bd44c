use Rattle.proc_files.proofs.GoesOn.{names_on}
use Rattle.proc_files.proofs.laws.names_stay_with_the_machines.Goals as goal

pub returns : goal.returns
returns c = names_on
