-- Free nodes, as the table shows them without its inodes being read.
use Rattle.std.specs.Prelude.{ℕ, ◌+◌, ◌*◌, ◌<◌, ◌≤◌, ◌≡◌, ◌≢◌, List, length, slice_index}
use Rattle.posix_defs.specs.DiskFormat.{inode_size, inodes_in_block, table_end}
use Rattle.posix_defs.specs.SoundDisk.{bit_of, block_bytes, IsFreeNode}

-- the kind that a slot of a block of the table has: the first of its bytes
abbrev pub kind_in : List ℕ → ℕ → ℕ
kind_in block slot = slice_index block (inode_size * slot)

-- no node of a block of the table is free
abbrev pub HasNoneFree : List ℕ → Type 0
HasNoneFree block = (slot : ℕ) → slot < inodes_in_block → kind_in block slot ≢ 0

-- the nodes of the first blocks of the table are in use
abbrev pub NoneFreeIn : List (List ℕ) → ℕ → Type 0
NoneFreeIn disk blocks = (number : ℕ) → number ≤ inodes_in_block * blocks → ¬ (IsFreeNode disk number)

-- A map and a table, the blocks 1 and on of the front of a disk, and what is noted of the table: that blocks of it are full,
-- a bit each.
pub record IsNoted (full : List ℕ) (front behind : List (List ℕ)) : Type 0 where
  pub count : length front ≡ table_end (length front + length behind) + 1
  pub none : (index : ℕ) → bit_of full index ≡ 1 → HasNoneFree (block_bytes front (1 + index))
