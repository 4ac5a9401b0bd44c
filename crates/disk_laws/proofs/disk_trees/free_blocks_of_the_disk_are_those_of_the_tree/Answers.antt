use Rattle.disk_laws.proofs.DiskStands.{free_in_tree}
use Rattle.disk_laws.proofs.disk_trees.free_blocks_of_the_disk_are_those_of_the_tree.Goals as goal

pub returns : goal.returns
returns c = free_in_tree
