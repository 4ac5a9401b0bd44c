use Rattle.tree_laws.proofs.NewTree.{new_is_tree}
use Rattle.tree_laws.proofs.trees.a_new_root_is_a_tree.Goals as goal

pub returns : goal.returns
returns c = new_is_tree
