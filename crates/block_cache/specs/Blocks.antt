-- The cache of blocks over the heap's Blocks, and what a fill, a removal and an eviction do.
use Rattle.std.specs.Prelude.{◌≡◌, ◌⊎◌, ℕ, ◌+◌, ◌-◌, ◌<◌, List, [], ◌∷◌, ◌++◌, Option, None, Some, length, nat_eq, remove, slice_get, slice_index_or}
use Rattle.std.specs.Map.{remove_entry}
use Rattle.kabi_types.specs.declared.classes.Class.TheVariants as class
use Rattle.kabi_types.specs.Counts.{with_count}
use Rattle.kheap_slabs.specs.Objects.{object, put, without}
use Rattle.kheap_slabs.specs.Purse.{Purse}
use Rattle.kheap_slabs.specs.declared.objects.Block.{Block}
use Rattle.kheap_slabs.specs.Heap.{Heap}
use Rattle.kheap_slabs.specs.Paid.{AreFills}
use Rattle.lru_index.specs.Order.{Order, order}
use Rattle.cache_laws.specs.Caches.{slot_of, Keeps, cached, AreTrue, first_fill, fills_kept, left_kept, objects_kept, pairs_kept, objects_without, pairs_without, IsAt}

abbrev pub block : ℕ → List ℕ → Block
block number bytes = record { number = number; bytes = bytes }

-- where a block is cached
abbrev pub block_slot : Order ℕ → ℕ → Option ℕ
block_slot = slot_of nat_eq

-- the bytes that are cached of a block
abbrev pub cached_block : List (Option Block) → Order ℕ → ℕ → Option (List ℕ)
cached_block = cached nat_eq (λ b. b.bytes)

-- the cache keeps just the Blocks of the heap, by their numbers
abbrev pub KeepsBlocks : List (Option Block) → Order ℕ → Type 0
KeepsBlocks = Keeps nat_eq (λ b. b.number)

-- each Block has the bytes that the disk has at its number
abbrev pub TrueToDisk : List (List ℕ) → List (Option Block) → Type 0
TrueToDisk disk = AreTrue (λ b. slice_get disk b.number ≡ Some b.bytes)

-- what the purse keeps of Blocks is in use and was spent
abbrev pub HasBlockFills : Heap → Purse → Type 0
HasBlockFills heap purse = AreFills heap.blocks purse.blocks purse.left.block purse.need.block

-- a Block may be filled: one is left and there is room for its pair, or none is left and one was filled
abbrev pub MayFill : Order ℕ → Purse → Type 0
MayFill cache purse = ((0 < purse.left.block) × (length cache.pairs < cache.capacity)) ⊎ ((purse.left.block ≡ 0) × (0 < length purse.blocks))

-- the slot of the Block that goes first, where none is left
abbrev pub block_dropped : Purse → Option ℕ
block_dropped purse = first_fill purse.left.block purse.blocks

-- the same purse, with other counts and fills of Blocks
abbrev pub with_blocks : Purse → ℕ → List ℕ → Purse
with_blocks purse left fills = record purse { left = with_count purse.left class.Block left; blocks = fills }

-- The Block that was filled at this place has gone from the heap, the purse and the order of use, and the purse has one
-- more left.
pub record FillDropped (at : ℕ) (old new : Heap) (before after : Purse) (had has : Order ℕ) : Type 0 where
  pub heap : new ≡ record old { blocks = without old.blocks (slice_index_or before.blocks at 0) }
  pub purse : after ≡ with_blocks before (before.left.block + 1) (remove before.blocks at)
  pub cache : has ≡ order (pairs_kept nat_eq (λ b. b.number) old.blocks (Some (slice_index_or before.blocks at 0)) had.pairs) had.capacity

-- All that were filled have gone, and the purse has as many more left.
pub record AllDropped (old new : Heap) (before after : Purse) (had has : Order ℕ) : Type 0 where
  pub heap : new ≡ record old { blocks = objects_without before.blocks old.blocks }
  pub purse : after ≡ with_blocks before (before.left.block + length before.blocks) []
  pub cache : has ≡ order (pairs_without nat_eq (λ b. b.number) before.blocks old.blocks had.pairs) had.capacity

-- There is room for a Block: where none was left, the one that was filled first has gone from the heap, the purse and
-- the order of use, and all else is as before.
pub record RoomMade (old new : Heap) (before after : Purse) (had has : Order ℕ) : Type 0 where
  pub heap : new ≡ record old { blocks = objects_kept (block_dropped before) old.blocks }
  pub purse : after ≡ with_blocks before (left_kept before.left.block) (fills_kept before.left.block before.blocks)
  pub cache : has ≡ order (pairs_kept nat_eq (λ b. b.number) old.blocks (block_dropped before) had.pairs) had.capacity

-- A Block is filled, at this slot that was free, as the warmest and as the last that was filled.
pub record BlockAdded (made : Block) (old new : Heap) (before after : Purse) (had has : Order ℕ) (slot : ℕ) : Type 0 where
  pub vacant : object old.blocks slot ≡ None
  pub heap : new ≡ record old { blocks = put old.blocks slot made; high = new.high }
  pub purse : after ≡ with_blocks before (before.left.block - 1) (before.blocks ++ slot ∷ [])
  pub cache : has ≡ order (had.pairs ++ (made.number, slot) ∷ []) had.capacity

-- Room is made, and then the Block is filled.
pub record BlockFilled (made : Block) (old new : Heap) (before after : Purse) (had has : Order ℕ) : Type 0 where
  pub between : Heap
  pub purse : Purse
  pub cache : Order ℕ
  pub slot : ℕ
  pub room : RoomMade old between before purse had cache
  pub added : BlockAdded made between new purse after cache has slot

-- The Block of a slot and its pair go, and all else stays.
pub record BlockGone (number slot : ℕ) (old new : Heap) (had has : Order ℕ) : Type 0 where
  pub there : block_slot had number ≡ Some slot
  pub heap : new ≡ record old { blocks = without old.blocks slot }
  pub cache : has ≡ order (remove_entry (nat_eq number) had.pairs) had.capacity

-- The coldest Block goes.
pub record ColdestGone (slot : ℕ) (old new : Heap) (had has : Order ℕ) : Type 0 where
  pub number : ℕ
  pub coldest : had.pairs ≡ (number, slot) ∷ has.pairs
  pub capacity : has.capacity ≡ had.capacity
  pub heap : new ≡ record old { blocks = without old.blocks slot }

-- nothing changes
pub record Unchanged (old new : Heap) (had has : Order ℕ) : Type 0 where
  pub heap : new ≡ old
  pub cache : has ≡ had

-- What was filled at a slot goes back to the purse, which has one more left; where nothing was, the purse stays.
abbrev pub TakenBack : ℕ → Purse → Purse → Type 0
TakenBack slot before after = ((at : ℕ) × IsAt before.blocks slot at × (after ≡ with_blocks before (before.left.block + 1) (remove before.blocks at))) ⊎ (((at : ℕ) → IsAt before.blocks slot at → ⊥) × (after ≡ before))
