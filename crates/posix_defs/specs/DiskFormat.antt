-- How a disk is divided, and how an inode and a directory entry are spelled there. Numbers are big-endian.
use Rattle.std.specs.Prelude.{ℕ, zero, suc, ◌+◌, ◌-◌, ◌*◌, ◌/◌, ◌%◌, ◌^◌, ◌<◌, ◌≤◌, ◌≡◌, ◌≢◌, Bool, true, false, List, ◌∷◌, ◌++◌, length, min, replicate, slice_index, nat_lt}
use Rattle.std.specs.Int.{w16, w32, to_be_bytes}
use Rattle.std.specs.List.{flat_map}
use Rattle.kabi_types.specs.declared.inodes.Inode.{Inode}
use Rattle.kabi_types.specs.declared.inodes.DirEntry.{DirEntry}

-- the bytes of a block
abbrev pub block_size : ℕ
block_size = 1024

-- the bytes of an inode
abbrev pub inode_size : ℕ
inode_size = 64

-- how many inodes a block of the table has
abbrev pub inodes_in_block : ℕ
inodes_in_block = block_size / inode_size

-- how many blocks an inode names itself
abbrev pub direct_pointers : ℕ
direct_pointers = 10

-- how many blocks a block of pointers names
abbrev pub block_pointers : ℕ
block_pointers = 256

-- how many blocks of bytes a node can name itself and in the one block of pointers that its inode names
abbrev pub near_blocks : ℕ
near_blocks = direct_pointers + block_pointers

-- how many it can name at all: behind these each pointer of its double block names a block of pointers
abbrev pub most_blocks : ℕ
most_blocks = near_blocks + block_pointers * block_pointers

-- the greatest size of a node
abbrev pub greatest_size : ℕ
greatest_size = block_size * most_blocks

-- the bytes at the end of an inode that are kept zero, behind 8 bytes of numbers and the pointers
abbrev pub spare_bytes : ℕ
spare_bytes = inode_size - (8 + 4 * (direct_pointers + 2))

-- the last block of the table of inodes, which begins at block 1: it takes a sixteenth of the disk
abbrev pub table_end : ℕ → ℕ
table_end blocks = blocks / 16

-- how many nodes the table has
abbrev pub table_nodes : ℕ → ℕ
table_nodes blocks = inodes_in_block * table_end blocks

-- a block that is left for files
abbrev pub IsForFiles : ℕ → ℕ → Type 0
IsForFiles blocks number = (table_end blocks < number) × (number < blocks)

-- how many blocks hold the bytes of a node of this size
abbrev pub data_blocks : ℕ → ℕ
data_blocks size = (size + (block_size - 1)) / block_size

-- how many blocks of pointers go with so many blocks of bytes: one for each 256 behind those that the inode names itself, the last of
-- them for what is left, and where there is more than one the double block
abbrev pub pointers_beside : ℕ → ℕ
pointers_beside blocks = (blocks + (block_pointers - 1 - direct_pointers)) / block_pointers + min 1 (blocks / (near_blocks + 1))

-- how many blocks of pointers a node of this size has
abbrev pub pointer_blocks : ℕ → ℕ
pointer_blocks size = pointers_beside (data_blocks size)

-- the first block of bytes that the pointer at a place of a block of pointers leads to. The blocks of pointers are counted from 0: that
-- which the inode names, the double block, and those that the double block names
abbrev pub leads_to : ℕ → ℕ → ℕ
leads_to zero at = direct_pointers + at
leads_to (suc zero) at = direct_pointers + block_pointers * (at + 1)
leads_to (suc (suc block)) at = direct_pointers + block_pointers * (block + 1) + at

-- whether a node of this size needs that pointer
abbrev pub needs_pointer : ℕ → ℕ → ℕ → Bool
needs_pointer size block at = nat_lt (leads_to block at * block_size) size

-- how many blocks it takes
abbrev pub blocks_of : ℕ → ℕ
blocks_of size = data_blocks size + pointer_blocks size

-- a pointer that is needed names a block for files, and every other is 0
abbrev pub IsPointer : ℕ → Bool → ℕ → Type 0
IsPointer blocks true pointer = IsForFiles blocks pointer
IsPointer blocks false pointer = pointer ≡ 0

-- each field fits its bytes
pub record Fits (inode : Inode) : Type 0 where
  pub kind : inode.kind < 2 ^ 8
  pub nlink : inode.nlink < 2 ^ 16
  pub size : inode.size < 2 ^ 32
  pub count : length inode.direct ≡ direct_pointers
  pub direct : (k : ℕ) → slice_index inode.direct k < 2 ^ 32
  pub indirect : inode.indirect < 2 ^ 32
  pub double : inode.double < 2 ^ 32

-- the kind (0 free, 1 a file, 2 a directory, 3 a socket's name, 4 a FIFO), the links and the size go together
pub record IsOfKind (inode : Inode) : Type 0 where
  pub kind : inode.kind ≤ 4
  pub links : inode.nlink ≤ 127
  pub size : inode.size ≤ greatest_size
  pub free : inode.kind ≡ 0 → (inode.nlink ≡ 0) × (inode.size ≡ 0)
  pub entries : inode.kind ≡ 2 → inode.size % 32 ≡ 0
  pub name : inode.kind ≡ 3 → inode.size ≡ 0
  pub fifo : inode.kind ≡ 4 → inode.size ≡ 0

-- just the pointers that the size needs are there
pub record HasPointers (blocks : ℕ) (inode : Inode) : Type 0 where
  pub direct : (k : ℕ) → k < direct_pointers → IsPointer blocks (nat_lt (k * block_size) inode.size) (slice_index inode.direct k)
  pub indirect : IsPointer blocks (nat_lt (direct_pointers * block_size) inode.size) inode.indirect
  pub double : IsPointer blocks (nat_lt (near_blocks * block_size) inode.size) inode.double

-- an inode of a disk of so many blocks
pub record IsInode (blocks : ℕ) (inode : Inode) : Type 0 where
  pub fits : Fits inode
  pub kind : IsOfKind inode
  pub pointers : HasPointers blocks inode

-- the 64 bytes of an inode
unfoldable pub inode_bytes : Inode → List ℕ
inode_bytes inode =
    inode.kind ∷ 0 ∷ (to_be_bytes w16 inode.nlink ++ (to_be_bytes w32 inode.size
    ++ (flat_map (to_be_bytes w32) inode.direct ++ (to_be_bytes w32 inode.indirect ++ (to_be_bytes w32 inode.double ++ replicate spare_bytes 0)))))

-- a name of an entry: 1 to 27 bytes, none of them zero or a slash
pub record IsName (name : List ℕ) : Type 0 where
  pub len : (0 < length name) × (length name ≤ 27)
  pub fits : (k : ℕ) → slice_index name k < 2 ^ 8
  pub chars : (k : ℕ) → k < length name → (slice_index name k ≢ 0) × (slice_index name k ≢ 47)

-- an entry that names a node
pub record IsEntry (entry : DirEntry) : Type 0 where
  pub node : (0 < entry.node) × (entry.node < 2 ^ 32)
  pub name : IsName entry.name

-- the 32 bytes of an entry
unfoldable pub entry_bytes : DirEntry → List ℕ
entry_bytes entry =
    to_be_bytes w32 entry.node ++ (length entry.name ∷ (entry.name ++ replicate (27 - length entry.name) 0))
