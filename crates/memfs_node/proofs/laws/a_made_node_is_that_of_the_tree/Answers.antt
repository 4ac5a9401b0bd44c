use Rattle.memfs_node.proofs.OnTree.{made_in_tree, freed_in_tree}
use Rattle.memfs_node.proofs.laws.a_made_node_is_that_of_the_tree.Goals as goal

pub returns-clause-made : goal.returns-clause-made
returns-clause-made c = made_in_tree

pub returns-clause-freed : goal.returns-clause-freed
returns-clause-freed c = freed_in_tree
