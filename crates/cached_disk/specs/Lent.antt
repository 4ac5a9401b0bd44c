-- What a call lends to reach a disk through a cache of its blocks, and what becomes of it.
use Rattle.std.specs.Prelude.{◌≡◌, ℕ, ◌+◌, ◌/◌, ◌<◌, ◌≤◌, List, length, min, slice_get, MatchOption, Option, Some, IsSome, nat_eq}
use Rattle.kabi_types.specs.Class.{size}
use Rattle.kabi_types.specs.declared.classes.Class.TheVariants as class
use Rattle.kheap_slabs.specs.Objects.{object}
use Rattle.kheap_slabs.specs.Purse.{Purse}
use Rattle.kheap_slabs.specs.declared.objects.Block.{Block}
use Rattle.kheap_slabs.specs.Heap.{Heap}
use Rattle.kheap_slabs.specs.Paid.{CanPay, IsPaid}
use Rattle.lru_index.specs.Order.{Order, order, touched}
use Rattle.block_cache.specs.Blocks.{block, block_slot, cached_block, KeepsBlocks, TrueToDisk, HasBlockFills, with_blocks, BlockFilled}
use Rattle.disk_layout.specs.Disk.{Disk, IsRead}

-- a heap, a purse, the order of use of a cache of blocks, and the disk below it
pub record Parts : Type 0 where
  pub heap : Heap
  pub purse : Purse
  pub cache : Order ℕ
  pub disk : Disk

abbrev pub parts : Heap → Purse → Order ℕ → Disk → Parts
parts heap purse cache disk = record { heap = heap; purse = purse; cache = cache; disk = disk }

-- The cache keeps just the Blocks of the heap, each of which has the bytes of the disk. The heap has room for what the
-- purse has left, which is a Block or has filled one that may go; the cache has room for as many as the heap and the disk
-- have.
pub record AreLent (heap : Heap) (purse : Purse) (cache : Order ℕ) (disk : Disk) : Type 0 where
  pub keeps : KeepsBlocks heap.blocks cache
  pub true_blocks : TrueToDisk disk.blocks heap.blocks
  pub pays : CanPay heap purse
  pub fills : HasBlockFills heap purse
  pub few : purse.need.block ≤ 4
  pub some : 0 < purse.left.block + length purse.blocks
  pub room : min (heap.heap / size class.Block) (length disk.blocks) ≤ cache.capacity

-- Calls in a row lead from the first to the second: of the heap the Blocks alone are other, of the purse its counts and
-- fills of Blocks, and each Block that it has no more left it has filled; what was made is paid for, and no read is taken
-- back.
pub record GoesOn (before after : Parts) : Type 0 where
  pub heap : after.heap ≡ record before.heap { blocks = after.heap.blocks; high = after.heap.high }
  pub purse : after.purse ≡ with_blocks before.purse after.purse.left.block after.purse.blocks
  pub filled : after.purse.left.block + length after.purse.blocks ≡ before.purse.left.block + length before.purse.blocks
  pub paid : IsPaid before.heap before.purse after.heap after.purse
  pub capacity : after.cache.capacity ≡ before.cache.capacity
  pub reads : before.disk.reads ≤ after.disk.reads

-- At most the order of use is other.
pub record IsReordered (before after : Parts) : Type 0 where
  pub heap : after.heap ≡ before.heap
  pub purse : after.purse ≡ before.purse
  pub disk : after.disk ≡ before.disk
  pub capacity : after.cache.capacity ≡ before.cache.capacity
  pub same : (number : ℕ) → block_slot after.cache number ≡ block_slot before.cache number

-- A block that is cached was asked for: it is the warmest, and nothing else is other.
pub record IsFound (number : ℕ) (before after : Parts) : Type 0 where
  pub rest : IsReordered before after
  pub used : after.cache ≡ order (touched (nat_eq number) before.cache.pairs) before.cache.capacity

-- A block that isn't cached was asked for: it is read from the disk and filled.
pub record IsFetched (number : ℕ) (before after : Parts) : Type 0 where
  pub bytes : List ℕ
  pub there : slice_get before.disk.blocks number ≡ Some bytes
  pub read : IsRead before.disk after.disk
  pub filled : BlockFilled (block number bytes) before.heap after.heap before.purse after.purse before.cache after.cache
  pub cached : cached_block after.heap.blocks after.cache number ≡ Some bytes

-- a block was asked for
abbrev pub Asked : Parts → ℕ → Parts → Type 0
Asked before number after = MatchOption (block_slot before.cache number) (IsFetched number before after) (λ _. IsFound number before after)

-- a block is cached
abbrev pub IsCached : Order ℕ → ℕ → Type 0
IsCached cache number = IsSome (block_slot cache number)

-- a slot has a Block with the bytes that the disk has of a block
abbrev pub HasBytes : List (Option Block) → ℕ → List (List ℕ) → ℕ → Type 0
HasBytes objects slot disk number = (made : Block) × (object objects slot ≡ Some made) × (slice_get disk number ≡ Some made.bytes)
