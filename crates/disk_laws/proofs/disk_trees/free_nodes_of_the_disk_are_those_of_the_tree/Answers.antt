use Rattle.disk_laws.proofs.DiskFreeNodes.{lowest_free, no_free}
use Rattle.disk_laws.proofs.DiskNodes.{lowest_in_tree, none_in_tree, free_in_the_tree, free_on_the_disk}
use Rattle.disk_laws.proofs.disk_trees.free_nodes_of_the_disk_are_those_of_the_tree.Goals as goal

pub returns-clause-lowest : goal.returns-clause-lowest
returns-clause-lowest c = lowest_free

pub returns-clause-none : goal.returns-clause-none
returns-clause-none c = no_free

pub returns-clause-next : goal.returns-clause-next
returns-clause-next c = lowest_in_tree

pub returns-clause-full : goal.returns-clause-full
returns-clause-full c = none_in_tree

pub returns-clause-free : goal.returns-clause-free
returns-clause-free c = free_in_the_tree

pub returns-clause-there : goal.returns-clause-there
returns-clause-there c = free_on_the_disk
