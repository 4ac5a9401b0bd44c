use Rattle.proc_files.proofs.Bindings.{bound_on}
use Rattle.proc_files.proofs.holding_laws.a_table_of_names_goes_on.Goals as goal

pub returns : goal.returns
returns c = bound_on
