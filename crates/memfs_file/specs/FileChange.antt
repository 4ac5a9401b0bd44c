-- What a call leaves of a disk on which it writes a file.
use Rattle.std.specs.Prelude.{ℕ, ◌+◌, ◌-◌, ◌*◌, ◌/◌, ◌<◌, ◌≤◌, ◌≡◌, ◌⊎◌, List, length, slice_index}
use Rattle.kabi_types.specs.declared.inodes.Inode.{Inode}
use Rattle.posix_defs.specs.DiskFormat.{block_size, data_blocks, blocks_of}
use Rattle.posix_defs.specs.SoundDisk.{block_bytes, HasInode, HasNode, free_in_map, Place, HasPlace, named_at}
use Rattle.posix_defs.specs.DiskContents.{byte_at, node_bytes}
use Rattle.posix_defs.specs.DiskTree.{ChangesNode}

-- the inode is that of a node in use
abbrev pub IsInUse : List (List ℕ) → Inode → Type 0
IsInUse disk inode = (number : ℕ) × HasNode disk number inode

-- the blocks that a node has or could have
abbrev pub blocks_for : List (List ℕ) → Inode → ℕ
blocks_for disk inode = blocks_of inode.size + free_in_map disk

-- a file alone changes: it has these bytes, and so many blocks are free as the sizes leave
pub record Rewrites (number : ℕ) (before : List (List ℕ)) (old : Inode) (bytes : List ℕ) (after : List (List ℕ)) (new : Inode) : Type 0 where
  pub changes : ChangesNode before after number
  pub has : HasInode after number new
  pub fields : (new.kind ≡ old.kind) × (new.nlink ≡ old.nlink) × (new.size ≡ length bytes)
  pub holds : node_bytes after new ≡ bytes
  pub free : free_in_map after + blocks_of new.size ≡ free_in_map before + blocks_of old.size

-- a node alone changes, and of it the bytes from a place on; it has the inode that it had
pub record Puts (number : ℕ) (before : List (List ℕ)) (inode : Inode) (at : ℕ) (bytes : List ℕ) (after : List (List ℕ)) : Type 0 where
  pub changes : ChangesNode before after number
  pub has : HasInode after number inode
  pub map : block_bytes after 0 ≡ block_bytes before 0
  pub free : free_in_map after ≡ free_in_map before
  pub new : (place : ℕ) → at ≤ place → place < at + length bytes → byte_at after inode place ≡ slice_index bytes (place - at)
  pub rest : (place : ℕ) → place < inode.size → (place < at) ⊎ (at + length bytes ≤ place) → byte_at after inode place ≡ byte_at before inode place

-- the same of what such a range has in the node's blocks from one up to another, and it names the blocks that it named
pub record PutsPart (number : ℕ) (before : List (List ℕ)) (inode : Inode) (at : ℕ) (bytes : List ℕ) (from to : ℕ) (after : List (List ℕ)) : Type 0 where
  pub changes : ChangesNode before after number
  pub has : HasInode after number inode
  pub names : (place : Place) → HasPlace inode.size place → named_at after inode place ≡ named_at before inode place
  pub map : block_bytes after 0 ≡ block_bytes before 0
  pub free : free_in_map after ≡ free_in_map before
  pub new : (place : ℕ) → at ≤ place → place < at + length bytes → from ≤ place / block_size → place / block_size < to → byte_at after inode place ≡ slice_index bytes (place - at)
  pub rest : (place : ℕ) → place < inode.size → ((place < at) ⊎ (at + length bytes ≤ place)) ⊎ ((place / block_size < from) ⊎ (to ≤ place / block_size)) → byte_at after inode place ≡ byte_at before inode place

-- a node alone changes, and of it what stands behind the bytes of a smaller size: zeros up to a place, as far as the last block of that size goes
pub record Clears (number : ℕ) (before : List (List ℕ)) (inode : Inode) (from to : ℕ) (after : List (List ℕ)) : Type 0 where
  pub changes : ChangesNode before after number
  pub has : HasInode after number inode
  pub map : block_bytes after 0 ≡ block_bytes before 0
  pub free : free_in_map after ≡ free_in_map before
  pub zero : (place : ℕ) → from ≤ place → place < to → place < block_size * data_blocks from → byte_at after inode place ≡ 0
  pub rest : (place : ℕ) → place < inode.size → (place < from) ⊎ ((to ≤ place) ⊎ (block_size * data_blocks from ≤ place)) → byte_at after inode place ≡ byte_at before inode place
