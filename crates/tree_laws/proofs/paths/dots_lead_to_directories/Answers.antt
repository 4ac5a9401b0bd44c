use Rattle.tree_laws.proofs.PathLeads.{root_up}
use Rattle.tree_laws.proofs.paths.dots_lead_to_directories.Goals as goal

pub returns-clause-root : goal.returns-clause-root
returns-clause-root c = root_up
