use Rattle.tree_laws.proofs.FoundAfter.{to_found}
use Rattle.tree_laws.proofs.TreeRenames.{rename_to_keeps}
use Rattle.tree_laws.proofs.trees.a_rename_to_a_new_name_moves_the_node.Goals as goal

pub returns-clause-found : goal.returns-clause-found
returns-clause-found c = to_found

pub returns-clause-kept : goal.returns-clause-kept
returns-clause-kept c = λ tree dir name number to new is at is_to free valid takes off. rename_to_keeps tree dir name number to new is at is_to free valid takes (λ d steps e. off d (steps, e))
