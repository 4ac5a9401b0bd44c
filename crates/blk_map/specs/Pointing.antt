-- The blocks of pointers of a node that gets another size.
use Rattle.std.specs.Prelude.{ℕ, ◌-◌, ◌<◌, ◌≤◌, ◌≡◌, ◌≢◌, List, slice_index}
use Rattle.kabi_types.specs.declared.inodes.Inode.{Inode}
use Rattle.posix_defs.specs.DiskFormat.{direct_pointers, block_pointers, near_blocks, data_blocks, pointer_blocks, leads_to}
use Rattle.posix_defs.specs.SoundDisk.{block_bytes, pointer_at, pointer_block}

-- it has those that it had, as far as both sizes go, and behind them those of a list; and what the size doesn't need is not named
pub record Repoints (before : List (List ℕ)) (old : Inode) (size : ℕ) (more : List ℕ) (after : List (List ℕ)) (new : Inode) : Type 0 where
  pub kept : (block : ℕ) → block < pointer_blocks old.size → block < pointer_blocks size → pointer_block after new block ≡ pointer_block before old block
  pub added : (block : ℕ) → pointer_blocks old.size ≤ block → block < pointer_blocks size → pointer_block after new block ≡ slice_index more (block - pointer_blocks old.size)
  pub none : (data_blocks size ≤ direct_pointers → new.indirect ≡ 0) × (data_blocks size ≤ near_blocks → new.double ≡ 0)
  pub rest : (at : ℕ) → near_blocks < data_blocks size → at < block_pointers → data_blocks size ≤ leads_to 1 at → pointer_at (block_bytes after new.double) at ≡ 0

-- but for blocks of pointers it is the same inode
pub record SameBeside (old new : Inode) : Type 0 where
  pub kind : new.kind ≡ old.kind
  pub nlink : new.nlink ≡ old.nlink
  pub size : new.size ≡ old.size
  pub direct : new.direct ≡ old.direct

-- nothing is written but the double block that the node has for that size
abbrev pub WritesDouble : List (List ℕ) → ℕ → List (List ℕ) → Inode → Type 0
WritesDouble before size after new = (block : ℕ) → (near_blocks < data_blocks size → block ≢ new.double) → block_bytes after block ≡ block_bytes before block
