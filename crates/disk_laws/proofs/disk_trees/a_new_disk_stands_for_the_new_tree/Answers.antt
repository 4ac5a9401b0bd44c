use Rattle.disk_laws.proofs.DiskStands.{formatted_stands}
use Rattle.disk_laws.proofs.disk_trees.a_new_disk_stands_for_the_new_tree.Goals as goal

pub returns : goal.returns
returns c = formatted_stands
