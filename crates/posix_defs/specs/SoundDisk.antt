-- What the blocks of a disk say: its map, its table of inodes, which blocks a node names, and when all of it goes together.
use Rattle.std.specs.Prelude.{ℕ, zero, suc, ◌+◌, ◌-◌, ◌*◌, ◌/◌, ◌%◌, ◌<◌, ◌≤◌, ◌≡◌, ◌≢◌, ◌⊎◌, ◌↔◌, not, if◌then◌else◌, List, [], ◌∷◌, length, take, drop, slice_index, slice_index_or, Option, None, Some, nat_lt, nat_eq}
use Rattle.std.specs.Int.{w32, from_be_bytes, bit_at}
use Rattle.std.specs.List.{range_with_len, sum_by, count_by}
use Rattle.kabi_types.specs.declared.inodes.Inode.{Inode}
use Rattle.posix_defs.specs.DiskFormat.{block_size, inode_size, inodes_in_block, direct_pointers, block_pointers, table_end, table_nodes, data_blocks, pointer_blocks, blocks_of, needs_pointer, IsPointer, IsInode, inode_bytes}

-- the bytes of a block
abbrev pub block_bytes : List (List ℕ) → ℕ → List ℕ
block_bytes disk number = slice_index_or disk number []

-- the block of the table that has a node's inode; nodes are numbered from 1
abbrev pub table_block : ℕ → ℕ
table_block node = 1 + (node - 1) / inodes_in_block

-- its slot there
abbrev pub table_slot : ℕ → ℕ
table_slot node = (node - 1) % inodes_in_block

-- the bytes of a slot of such a block
abbrev pub slot_bytes : List ℕ → ℕ → List ℕ
slot_bytes block slot = take inode_size (drop (inode_size * slot) block)

-- the bytes that the table has of a node
unfoldable pub table_bytes : List (List ℕ) → ℕ → List ℕ
table_bytes disk node = slot_bytes (block_bytes disk (table_block node)) (table_slot node)

-- this is the node's inode
pub record HasInode (disk : List (List ℕ)) (node : ℕ) (inode : Inode) : Type 0 where
  pub number : (0 < node) × (node ≤ table_nodes (length disk))
  pub valid : IsInode (length disk) inode
  pub bytes : table_bytes disk node ≡ inode_bytes inode

-- the node is in use, and this is its inode
abbrev pub HasNode : List (List ℕ) → ℕ → Inode → Type 0
HasNode disk node inode = HasInode disk node inode × (inode.kind ≢ 0)

-- a pointer of a block of pointers
abbrev pub pointer_at : List ℕ → ℕ → ℕ
pointer_at block place = from_be_bytes w32 (take 4 (drop (4 * place) block))

-- what a node takes a block for: its bytes, or the pointers that the inode has no room for; the blocks of either are counted from 0
pub data Place : Type 0 where
  Data : ℕ → Place
  Pointers : ℕ → Place

-- a node of this size takes a block for this
abbrev pub HasPlace : ℕ → Place → Type 0
HasPlace size (Data index) = index < data_blocks size
HasPlace size (Pointers block) = block < pointer_blocks size

-- where a pointer stands: in which of a node's blocks of pointers, and at which place of it
pub record Way : Type 0 where
  pub block : ℕ
  pub at : ℕ

-- which block of pointers has a run of 256 pointers behind the direct ones, these runs counted from 0; the double block has none
abbrev pub block_of_run : ℕ → ℕ
block_of_run zero = 0
block_of_run (suc run) = suc (suc run)

-- the run that the pointer to a block of bytes is in; those that the inode names itself go with the first
abbrev pub run_of : ℕ → ℕ
run_of index = (index - direct_pointers) / block_pointers

-- the way to a block of bytes; None where the inode names it itself
abbrev pub way_to : ℕ → Option Way
way_to index =
    if nat_lt index direct_pointers then None
    else Some (record { block = block_of_run (run_of index); at = (index - direct_pointers) % block_pointers })

-- the block that a node has for pointers: two are named by the inode, all others by the second of these, the double block
abbrev pub pointer_block : List (List ℕ) → Inode → ℕ → ℕ
pointer_block disk inode zero = inode.indirect
pointer_block disk inode (suc zero) = inode.double
pointer_block disk inode (suc (suc block)) = pointer_at (block_bytes disk inode.double) block

-- the blocks of pointers on the way to a run of pointers: that which has it, and before it the double block where that one names it
abbrev pub on_way : ℕ → List Place
on_way zero = Pointers 0 ∷ []
on_way (suc run) = Pointers 1 ∷ Pointers (suc (suc run)) ∷ []

-- the block of bytes that a way leads to
abbrev pub led_to : List (List ℕ) → Inode → ℕ → Option Way → ℕ
led_to disk inode index None = slice_index inode.direct index
led_to disk inode index (Some way) = pointer_at (block_bytes disk (pointer_block disk inode way.block)) way.at

-- the block that a node names for this: the first blocks of bytes in its inode, those behind them in its blocks of pointers
abbrev pub named_at : List (List ℕ) → Inode → Place → ℕ
named_at disk inode (Data index) = led_to disk inode index (way_to index)
named_at disk inode (Pointers block) = pointer_block disk inode block

-- a node names this block
pub record IsNamed (disk : List (List ℕ)) (number : ℕ) : Type 0 where
  pub node : ℕ
  pub inode : Inode
  pub place : Place
  pub has : HasInode disk node inode
  pub within : HasPlace inode.size place
  pub same : number ≡ named_at disk inode place

-- the bit of a block in the bytes of a map
abbrev pub bit_of : List ℕ → ℕ → ℕ
bit_of map number = bit_at (slice_index map (number / 8)) (number % 8)

-- the bit that the disk's map has of a block
abbrev pub map_bit : List (List ℕ) → ℕ → ℕ
map_bit disk number = bit_of (block_bytes disk 0) number

-- the map has this block as in use
abbrev pub IsMarked : List (List ℕ) → ℕ → Type 0
IsMarked disk number = map_bit disk number ≡ 1

-- a disk has 16 to 4096 blocks; each inode is one, each block of pointers has just those that the size needs, no block is named twice,
-- and the map says which are in use
pub record Sound (disk : List (List ℕ)) : Type 0 where
  pub size : (16 ≤ length disk) × (length disk ≤ 4096)
  pub table : (node : ℕ) → 0 < node → node ≤ table_nodes (length disk) → (inode : Inode) × HasInode disk node inode
  pub pointers : (node : ℕ) (inode : Inode) (block at : ℕ) → HasInode disk node inode → block < pointer_blocks inode.size → at < block_pointers
      → IsPointer (length disk) (needs_pointer inode.size block at) (pointer_at (block_bytes disk (pointer_block disk inode block)) at)
  pub once : (first second : ℕ) (one other : Inode) (i j : Place) → HasInode disk first one → HasInode disk second other → HasPlace one.size i → HasPlace other.size j
      → named_at disk one i ≡ named_at disk other j → (first ≡ second) × (i ≡ j)
  pub map : (number : ℕ) → number < length disk → IsMarked disk number ↔ ((number ≤ table_end (length disk)) ⊎ IsNamed disk number)
  pub rest : (number : ℕ) → length disk ≤ number → number < 8 * block_size → ¬ (IsMarked disk number)

-- a block that the map has as free
abbrev pub IsFreeBlock : List (List ℕ) → ℕ → Type 0
IsFreeBlock disk number = (number < length disk) × ¬ (IsMarked disk number)

-- the free block that a node gets next
pub record IsLowestFreeBlock (disk : List (List ℕ)) (number : ℕ) : Type 0 where
  pub free : IsFreeBlock disk number
  pub lowest : (other : ℕ) → other < number → IsMarked disk other

-- how many blocks the map has as free
abbrev pub free_in_map : List (List ℕ) → ℕ
free_in_map disk = count_by (λ number. not (nat_eq (map_bit disk number) 1)) (range_with_len 0 (length disk))

-- these are the inodes of the table, that of node 1 first
pub record IsTable (disk : List (List ℕ)) (inodes : List Inode) : Type 0 where
  pub count : length inodes ≡ table_nodes (length disk)
  pub each : (place : ℕ) (none : Inode) → place < length inodes → HasInode disk (place + 1) (slice_index_or inodes place none)

-- the free blocks of a disk that has these inodes
abbrev pub free_blocks : ℕ → List Inode → ℕ
free_blocks blocks inodes = blocks - 1 - table_end blocks - sum_by (λ inode. blocks_of inode.size) inodes

-- how many of these inodes are free
abbrev pub free_inodes : List Inode → ℕ
free_inodes inodes = count_by (λ inode. nat_eq inode.kind 0) inodes

-- a node that is free
abbrev pub IsFreeNode : List (List ℕ) → ℕ → Type 0
IsFreeNode disk node = (inode : Inode) × HasInode disk node inode × (inode.kind ≡ 0)

-- the free node that is made next
pub record IsLowestFreeNode (disk : List (List ℕ)) (node : ℕ) : Type 0 where
  pub free : IsFreeNode disk node
  pub lowest : (other : ℕ) → other < node → ¬ (IsFreeNode disk other)
