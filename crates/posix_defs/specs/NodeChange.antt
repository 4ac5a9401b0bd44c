-- What a call leaves of a disk that changes one node: its inode, the blocks that it names, and the map with them.
use Rattle.std.specs.Prelude.{ℕ, ◌+◌, ◌*◌, ◌<◌, ◌≤◌, ◌≡◌, ◌≢◌, ◌⊎◌, List, length}
use Rattle.kabi_types.specs.declared.inodes.Inode.{Inode}
use Rattle.posix_defs.specs.DiskFormat.{block_size, block_pointers, table_end, table_nodes, data_blocks, pointer_blocks, blocks_of, needs_pointer, IsPointer, IsInode, inode_bytes}
use Rattle.posix_defs.specs.SoundDisk.{block_bytes, table_bytes, HasInode, pointer_at, pointer_block, Place, HasPlace, named_at, IsMarked, IsFreeBlock, free_in_map}
use Rattle.posix_defs.specs.DiskContents.{data_block, zeros}
use Rattle.posix_defs.specs.DiskTree.{ChangesNode}

-- a node with this inode names the block
pub record Names (disk : List (List ℕ)) (inode : Inode) (block : ℕ) : Type 0 where
  pub place : Place
  pub within : HasPlace inode.size place
  pub same : block ≡ named_at disk inode place

-- one node has another inode; what it named and names no more is free, what it names now was its own or free, and nothing that others name is touched
pub record Replaces (number : ℕ) (before : List (List ℕ)) (old : Inode) (after : List (List ℕ)) (new : Inode) : Type 0 where
  pub count : length after ≡ length before
  pub had : HasInode before number old
  pub inode : IsInode (length before) new
  pub slot : table_bytes after number ≡ inode_bytes new
  pub slots : (node : ℕ) → 0 < node → node ≤ table_nodes (length before) → node ≢ number → table_bytes after node ≡ table_bytes before node
  pub pointers : (block at : ℕ) → block < pointer_blocks new.size → at < block_pointers
      → IsPointer (length before) (needs_pointer new.size block at) (pointer_at (block_bytes after (pointer_block after new block)) at)
  pub once : (i j : Place) → HasPlace new.size i → HasPlace new.size j → named_at after new i ≡ named_at after new j → i ≡ j
  pub taken : (place : Place) → HasPlace new.size place → Names before old (named_at after new place) ⊎ IsFreeBlock before (named_at after new place)
  pub untouched : (block : ℕ) → table_end (length before) < block → block < length before → IsMarked before block → ¬ (Names before old block)
      → block_bytes after block ≡ block_bytes before block
  pub marked : (block : ℕ) → block < length before → IsMarked after block → Names after new block ⊎ IsMarked before block
  pub freed : (block : ℕ) → block < length before → IsMarked after block → Names before old block → Names after new block
  pub stays : (block : ℕ) → block < length before → IsMarked before block → ¬ (Names before old block) → IsMarked after block
  pub takes : (place : Place) → HasPlace new.size place → IsMarked after (named_at after new place)
  pub rest : (block : ℕ) → length before ≤ block → block < 8 * block_size → ¬ (IsMarked after block)

-- a node alone changes, and has another size: its blocks are those that it had, as far as both sizes go, with their bytes, and so many are free as the sizes leave
pub record Resizes (number : ℕ) (before : List (List ℕ)) (old : Inode) (size : ℕ) (after : List (List ℕ)) (new : Inode) : Type 0 where
  pub changes : ChangesNode before after number
  pub has : HasInode after number new
  pub fields : (new.kind ≡ old.kind) × (new.nlink ≡ old.nlink) × (new.size ≡ size)
  pub kept : (index : ℕ) → index < data_blocks old.size → index < data_blocks size
      → (data_block after new index ≡ data_block before old index) × (block_bytes after (data_block before old index) ≡ block_bytes before (data_block before old index))
  pub free : free_in_map after + blocks_of size ≡ free_in_map before + blocks_of old.size

-- it grows: its new blocks are zeros, and they are the lowest of those that were free
pub record Grows (number : ℕ) (before : List (List ℕ)) (old : Inode) (size : ℕ) (after : List (List ℕ)) (new : Inode) : Type 0 where
  pub resizes : Resizes number before old size after new
  pub zero : (index : ℕ) → data_blocks old.size ≤ index → index < data_blocks size → block_bytes after (data_block after new index) ≡ zeros block_size
  pub lowest : (block other : ℕ) → IsFreeBlock before block → IsMarked after block → IsFreeBlock after other → block < other

-- a node alone changes, and of it the bytes of one block: it has the inode that it had, and names the blocks that it named
pub record WritesBlock (number : ℕ) (before : List (List ℕ)) (inode : Inode) (index : ℕ) (bytes : List ℕ) (after : List (List ℕ)) : Type 0 where
  pub changes : ChangesNode before after number
  pub has : HasInode after number inode
  pub names : (place : Place) → HasPlace inode.size place → named_at after inode place ≡ named_at before inode place
  pub this : block_bytes after (data_block before inode index) ≡ bytes
  pub others : (other : ℕ) → other < data_blocks inode.size → other ≢ index → block_bytes after (data_block before inode other) ≡ block_bytes before (data_block before inode other)
  pub free : free_in_map after ≡ free_in_map before
