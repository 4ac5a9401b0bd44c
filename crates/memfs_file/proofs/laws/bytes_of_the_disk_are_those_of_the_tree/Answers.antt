use Rattle.memfs_file.proofs.OnTree.{its_bytes}
use Rattle.memfs_file.proofs.laws.bytes_of_the_disk_are_those_of_the_tree.Goals as goal

pub returns : goal.returns
returns c = λ disk tree number links bytes inode stands there has. its_bytes disk tree number links bytes inode (record { stands = stands; there = there; has = has })
