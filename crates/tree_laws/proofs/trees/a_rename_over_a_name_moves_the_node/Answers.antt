use Rattle.tree_laws.proofs.FoundAfter.{over_found, over_free}
use Rattle.tree_laws.proofs.TreeRenames.{rename_over_keeps}
use Rattle.tree_laws.proofs.trees.a_rename_over_a_name_moves_the_node.Goals as goal

pub returns-clause-found : goal.returns-clause-found
returns-clause-found c = over_found

pub returns-clause-free : goal.returns-clause-free
returns-clause-free c = over_free

pub returns-clause-kept : goal.returns-clause-kept
returns-clause-kept c = λ tree dir name number to new replaced opened is at at_new other empty unopened off. rename_over_keeps tree dir name number to new replaced opened is at at_new other empty unopened (λ d steps e. off d (steps, e))
