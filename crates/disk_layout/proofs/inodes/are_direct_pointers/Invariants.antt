use Rattle.std.proofs.Common.{ℕ, ◌*◌, ◌<◌, get_or}
use Rattle.std.specs.Prelude.{nat_lt}
use Rattle.posix_defs.specs.DiskFormat.{block_size, IsPointer}
use Rattle.disk_layout.proofs.inodes.are_direct_pointers.Given as goal

abbrev pub invariant-loop-k : goal.invariant-loop-k
invariant-loop-k l = (j : ℕ) → j < l.k → IsPointer l.blocks (nat_lt (j * block_size) l.inode.size) (get_or l.inode.direct j 0)
