use Rattle.tree_laws.proofs.FileKeeps.{link_keeps}
use Rattle.tree_laws.proofs.trees.a_further_name_leaves_a_tree.Goals as goal

pub returns : goal.returns
returns c = link_keeps
