use Rattle.disk_laws.proofs.DiskNodes.{one_tree}
use Rattle.disk_laws.proofs.disk_trees.a_disk_stands_for_one_tree.Goals as goal

pub returns : goal.returns
returns c = one_tree
