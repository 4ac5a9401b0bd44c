-- A block of the table: 16 slots, each with an inode.
use Rattle.std.specs.Prelude.{ℕ, ◌<◌, ◌≡◌, List}
use Rattle.kabi_types.specs.declared.inodes.Inode.{Inode}
use Rattle.posix_defs.specs.DiskFormat.{inodes_in_block, IsInode, inode_bytes}
use Rattle.posix_defs.specs.SoundDisk.{slot_bytes}

-- a slot has this inode
pub record HasSlot (blocks : ℕ) (block : List ℕ) (slot : ℕ) (inode : Inode) : Type 0 where
  pub within : slot < inodes_in_block
  pub valid : IsInode blocks inode
  pub bytes : slot_bytes block slot ≡ inode_bytes inode
