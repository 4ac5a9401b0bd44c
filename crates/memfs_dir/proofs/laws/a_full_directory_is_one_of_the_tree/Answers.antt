use Rattle.memfs_dir.proofs.Room.{full_in_tree, full_beside}
use Rattle.memfs_dir.proofs.laws.a_full_directory_is_one_of_the_tree.Goals as goal

pub returns-clause-beside : goal.returns-clause-beside
returns-clause-beside c = full_beside

pub returns-clause-alone : goal.returns-clause-alone
returns-clause-alone c = full_in_tree
