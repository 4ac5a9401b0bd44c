-- A directory as the list of its entries, and what a call leaves of a disk that gives a directory another list.
use Rattle.std.specs.Prelude.{ℕ, ◌+◌, ◌-◌, ◌*◌, ◌<◌, ◌≤◌, ◌≡◌, ◌≢◌, ◌⊎◌, List, Option, slice_index, slice_index_or}
use Rattle.std.specs.List.{AllPairs, position}
use Rattle.kabi_types.specs.declared.inodes.Inode.{Inode}
use Rattle.kabi_types.specs.declared.inodes.DirEntry.{DirEntry}
use Rattle.posix_defs.specs.DiskFormat.{greatest_size, blocks_of, entry_bytes}
use Rattle.posix_defs.specs.SoundDisk.{block_bytes, HasNode, Sound, free_in_map}
use Rattle.posix_defs.specs.DiskContents.{byte_at, HasEntries}
use Rattle.posix_defs.specs.DiskTree.{ChangesNode}
use Rattle.posix_defs.specs.Tree.{has_name}
use Rattle.posix_defs.specs.TreeChanges.{no_entry}
use Rattle.memfs_dir.specs.Slots.{entry_size}

-- the inode is that of a directory
abbrev pub IsDirectory : List (List ℕ) → Inode → Type 0
IsDirectory disk inode = (entries : List DirEntry) × HasEntries disk inode entries

-- it is that of a node in use
abbrev pub IsInUse : List (List ℕ) → Inode → Type 0
IsInUse disk inode = (number : ℕ) × HasNode disk number inode

-- a directory of a sound disk has this number and this inode
abbrev pub HasDirectory : List (List ℕ) → ℕ → Inode → Type 0
HasDirectory disk number inode = Sound disk × HasNode disk number inode × IsDirectory disk inode

-- the entry at a place
abbrev pub at_place : List DirEntry → ℕ → DirEntry
at_place entries place = slice_index_or entries place no_entry

-- no two entries have one name
abbrev pub AreDistinct : List DirEntry → Type 0
AreDistinct entries = AllPairs (λ one other. one.name ≢ other.name) entries

-- the place of the first entry with this name
abbrev pub place_called : List ℕ → List DirEntry → Option ℕ
place_called name entries = position (has_name name) entries

-- no entry more fits: the directory has the greatest size, or its growth takes more blocks than are free
abbrev pub IsFull : List (List ℕ) → Inode → Type 0
IsFull disk inode = (inode.size ≡ greatest_size) ⊎ (free_in_map disk < blocks_of (inode.size + entry_size) - blocks_of inode.size)

-- the same where so many blocks are to be left beside the growth
abbrev pub IsFullBeside : List (List ℕ) → Inode → ℕ → Type 0
IsFullBeside disk inode beside = (inode.size ≡ greatest_size) ⊎ (free_in_map disk < blocks_of (inode.size + entry_size) - blocks_of inode.size + beside)

-- a directory alone changes: of its entries it has what the change makes of them, and so many blocks are free as the sizes leave
pub record Relists (number : ℕ) (before : List (List ℕ)) (old : Inode) (change : List DirEntry → List DirEntry) (after : List (List ℕ)) (new : Inode) : Type 0 where
  pub changes : ChangesNode before after number
  pub has : HasNode after number new
  pub links : new.nlink ≡ old.nlink
  pub list : (entries : List DirEntry) → HasEntries before old entries → HasEntries after new (change entries)
  pub free : free_in_map after + blocks_of new.size ≡ free_in_map before + blocks_of old.size

-- an entry is written at a place of a directory: nothing else of its bytes changes, and nothing else of the disk
pub record PutsEntry (number : ℕ) (before : List (List ℕ)) (inode : Inode) (place : ℕ) (entry : DirEntry) (after : List (List ℕ)) : Type 0 where
  pub changes : ChangesNode before after number
  pub has : HasNode after number inode
  pub map : block_bytes after 0 ≡ block_bytes before 0
  pub free : free_in_map after ≡ free_in_map before
  pub this : (j : ℕ) → j < entry_size → byte_at after inode (entry_size * place + j) ≡ slice_index (entry_bytes entry) j
  pub others : (at : ℕ) → at < inode.size → (at < entry_size * place) ⊎ (entry_size * place + entry_size ≤ at) → byte_at after inode at ≡ byte_at before inode at
