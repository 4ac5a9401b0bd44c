use Rattle.disk_laws.proofs.DiskNames.{names_agree}
use Rattle.disk_laws.proofs.disk_trees.names_of_the_disk_are_those_of_the_tree.Goals as goal

pub returns : goal.returns
returns c = names_agree
