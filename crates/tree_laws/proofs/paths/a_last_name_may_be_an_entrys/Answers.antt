use Rattle.tree_laws.proofs.PathLeads.{last_is_entry_name}
use Rattle.tree_laws.proofs.paths.a_last_name_may_be_an_entrys.Goals as goal

pub returns : goal.returns
returns c = last_is_entry_name
