use Rattle.disk_laws.proofs.DiskNodes.{inode_of_node, node_of_inode}
use Rattle.disk_laws.proofs.disk_trees.nodes_of_the_disk_are_those_of_the_tree.Goals as goal

pub returns-clause-inode : goal.returns-clause-inode
returns-clause-inode c = inode_of_node

pub returns-clause-node : goal.returns-clause-node
returns-clause-node c = node_of_inode
