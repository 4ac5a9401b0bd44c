use Rattle.disk_layout.proofs.OldInodes.{old_is_one, old_bytes}
use Rattle.disk_layout.proofs.laws.an_old_inode_is_one_without_a_double_block.Goals as goal

pub returns : goal.returns
returns c = λ blocks old is. (old_is_one blocks old is, old_bytes old)
