use Rattle.memfs_dir.proofs.InTree.{found_on_disk, missing_on_disk}
use Rattle.memfs_dir.proofs.laws.a_look_finds_the_names_of_the_tree.Goals as goal

pub returns-clause-found : goal.returns-clause-found
returns-clause-found c = found_on_disk

pub returns-clause-missing : goal.returns-clause-missing
returns-clause-missing c = missing_on_disk
