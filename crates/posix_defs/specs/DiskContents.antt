-- What a node of a disk holds: its bytes, the entries of a directory, and the disk of a new root.
use Rattle.std.specs.Prelude.{ℕ, ◌+◌, ◌-◌, ◌*◌, ◌/◌, ◌%◌, ◌^◌, ◌<◌, ◌≡◌, ◌≢◌, ◌⊎◌, min, List, [], ◌∷◌, ◌++◌, map, length, replicate, slice_index}
use Rattle.std.specs.List.{range_with_len, flat_map, AllByRecursion}
use Rattle.kabi_types.specs.declared.inodes.Inode.{Inode}
use Rattle.kabi_types.specs.declared.inodes.DirEntry.{DirEntry}
use Rattle.posix_defs.specs.DiskFormat.{block_size, inode_size, direct_pointers, table_end, IsEntry, inode_bytes, entry_bytes}
use Rattle.posix_defs.specs.SoundDisk.{block_bytes, HasInode, Data, named_at}
use Rattle.posix_defs.specs.Tree.{directory}

-- a free inode, without links, bytes and pointers
abbrev pub blank_inode : Inode
blank_inode = record { kind = 0; nlink = 0; size = 0; direct = replicate direct_pointers 0; indirect = 0; double = 0 }

-- the block that holds the bytes of a node from `index` blocks on
abbrev pub data_block : List (List ℕ) → Inode → ℕ → ℕ
data_block disk inode index = named_at disk inode (Data index)

-- the byte of a node at a place
abbrev pub byte_at : List (List ℕ) → Inode → ℕ → ℕ
byte_at disk inode place = slice_index (block_bytes disk (data_block disk inode (place / block_size))) (place % block_size)

-- all bytes of a node
unfoldable pub node_bytes : List (List ℕ) → Inode → List ℕ
node_bytes disk inode = map (λ place. byte_at disk inode place) (range_with_len 0 inode.size)

-- the entries of a directory, in their order
pub record HasEntries (disk : List (List ℕ)) (inode : Inode) (entries : List DirEntry) : Type 0 where
  pub kind : inode.kind ≡ directory
  pub each : AllByRecursion IsEntry entries
  pub bytes : node_bytes disk inode ≡ flat_map entry_bytes entries

-- a look for a name among entries finds this node: that of the first entry with the name
abbrev pub Finds : List DirEntry → List ℕ → ℕ → Type 0
Finds [] name node = ⊥
Finds (entry ∷ entries) name node = ((entry.name ≡ name) × (entry.node ≡ node)) ⊎ ((entry.name ≢ name) × Finds entries name node)

-- the entry by which a directory names a node
abbrev pub entry_for : ℕ → List ℕ → DirEntry
entry_for node name = record { node = node; name = name }

-- `.`
abbrev pub own_name : List ℕ
own_name = 46 ∷ []

-- `..`
abbrev pub parent_name : List ℕ
parent_name = 46 ∷ 46 ∷ []

-- the node is a directory with this parent, which has these entries behind `.` and `..`
pub record IsDirectoryOf (disk : List (List ℕ)) (node parent : ℕ) (entries : List DirEntry) : Type 0 where
  pub inode : Inode
  pub has : HasInode disk node inode
  pub list : HasEntries disk inode (entry_for node own_name ∷ entry_for parent parent_name ∷ entries)

-- so many zero bytes
unfoldable pub zeros : ℕ → List ℕ
zeros count = replicate count 0

-- a byte of a map in which the first blocks are in use, and no other
abbrev pub first_marked : ℕ → ℕ → ℕ
first_marked used place = 2 ^ min 8 (used - 8 * place) - 1

-- the root of a new disk: a directory of its two entries, in the first block that is left for files
abbrev pub new_root : ℕ → Inode
new_root blocks = record blank_inode { kind = directory; nlink = 1; size = 64; direct = (table_end blocks + 1) ∷ replicate (direct_pointers - 1) 0 }

-- the bytes of its two entries, which name the root
abbrev pub new_entries : List ℕ
new_entries = entry_bytes (entry_for 1 own_name) ++ entry_bytes (entry_for 1 parent_name)

-- a disk whose root has `.` and `..` alone
pub record IsFormatted (blocks : ℕ) (disk : List (List ℕ)) : Type 0 where
  pub count : length disk ≡ blocks
  pub map_len : length (block_bytes disk 0) ≡ block_size
  pub map : (place : ℕ) → place < block_size → slice_index (block_bytes disk 0) place ≡ first_marked (table_end blocks + 2) place
  pub table : block_bytes disk 1 ≡ inode_bytes (new_root blocks) ++ zeros (block_size - inode_size)
  pub entries : block_bytes disk (table_end blocks + 1) ≡ new_entries ++ zeros (block_size - 64)
  pub others : (number : ℕ) → 1 < number → number ≢ table_end blocks + 1 → number < blocks → block_bytes disk number ≡ zeros block_size
