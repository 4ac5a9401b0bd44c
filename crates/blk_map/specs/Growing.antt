-- Growth of a node whose caller writes some of the new blocks itself.
use Rattle.std.specs.Prelude.{ℕ, ◌<◌, ◌≤◌, ◌≡◌, ◌⊎◌, List}
use Rattle.kabi_types.specs.declared.inodes.Inode.{Inode}
use Rattle.posix_defs.specs.DiskFormat.{block_size, data_blocks}
use Rattle.posix_defs.specs.SoundDisk.{block_bytes, IsMarked, IsFreeBlock}
use Rattle.posix_defs.specs.DiskContents.{data_block, zeros}
use Rattle.posix_defs.specs.NodeChange.{Resizes}

-- it grows: its new blocks are the lowest of those that were free, and they are zeros but for those from one up to another, which have any bytes
pub record GrowsBut (from to number : ℕ) (before : List (List ℕ)) (old : Inode) (size : ℕ) (after : List (List ℕ)) (new : Inode) : Type 0 where
  pub resizes : Resizes number before old size after new
  pub zero : (index : ℕ) → data_blocks old.size ≤ index → index < data_blocks size → (index < from) ⊎ (to ≤ index) → block_bytes after (data_block after new index) ≡ zeros block_size
  pub lowest : (block other : ℕ) → IsFreeBlock before block → IsMarked after block → IsFreeBlock after other → block < other
