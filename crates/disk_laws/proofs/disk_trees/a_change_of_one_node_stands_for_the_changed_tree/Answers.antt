use Rattle.disk_laws.proofs.DiskStands.{changed_stands}
use Rattle.disk_laws.proofs.disk_trees.a_change_of_one_node_stands_for_the_changed_tree.Goals as goal

pub returns : goal.returns
returns c = changed_stands
