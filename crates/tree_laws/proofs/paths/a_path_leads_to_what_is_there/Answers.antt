use Rattle.tree_laws.proofs.PathLeads.{path_led}
use Rattle.tree_laws.proofs.paths.a_path_leads_to_what_is_there.Goals as goal

pub returns : goal.returns
returns c = path_led
