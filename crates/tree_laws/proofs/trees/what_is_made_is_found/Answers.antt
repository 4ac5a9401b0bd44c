use Rattle.tree_laws.proofs.FoundAfter.{made_found}
use Rattle.tree_laws.proofs.TreeKeeps.{make_keeps}
use Rattle.tree_laws.proofs.trees.what_is_made_is_found.Goals as goal

pub returns-clause-found : goal.returns-clause-found
returns-clause-found c = made_found

pub returns-clause-kept : goal.returns-clause-kept
returns-clause-kept c = make_keeps
