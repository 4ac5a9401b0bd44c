-- The cache of names over the heap's Names, and what a fill, a removal and an eviction do.
use Rattle.std.specs.Prelude.{◌≡◌, ◌⊎◌, ℕ, ◌+◌, ◌-◌, ◌<◌, Bool, ◌&&◌, ◌==◌, List, [], ◌∷◌, ◌++◌, Option, None, Some, length, remove, slice_index_or, take}
use Rattle.std.specs.Cmp.Lexicographic.{pointwise}
use Rattle.std.specs.Map.{remove_entry}
use Rattle.kabi_types.specs.declared.classes.Class.TheVariants as class
use Rattle.kabi_types.specs.Counts.{with_count}
use Rattle.kheap_slabs.specs.Objects.{object, put, without}
use Rattle.kheap_slabs.specs.Purse.{Purse}
use Rattle.kheap_slabs.specs.declared.objects.Name.{Name}
use Rattle.kheap_slabs.specs.Heap.{Heap}
use Rattle.kheap_slabs.specs.Paid.{AreFills}
use Rattle.lru_index.specs.NameKeys.{name_key}
use Rattle.lru_index.specs.Order.{Order, order}
use Rattle.lru_index.specs.declared.keys.NameKey.{NameKey}
use Rattle.cache_laws.specs.Caches.{slot_of, Keeps, cached, AreTrue, first_fill, fills_kept, left_kept, objects_kept, pairs_kept, objects_without, pairs_without, IsAt}

-- keys are equal where directory, length and bytes are
abbrev pub same_key : NameKey → NameKey → Bool
same_key a b = (a.dir == b.dir) && ((a.len == b.len) && pointwise (λ x y. x == y) a.name b.name)

-- the key of a Name
abbrev pub key_of : Name → NameKey
key_of name = name_key name.dir name.name

-- the Name of a key, for a node
abbrev pub name_of : NameKey → ℕ → Name
name_of key node = record { dir = key.dir; name = take key.len key.name; node = node }

-- the key of a name: behind its bytes there are zeros
abbrev pub IsNameKey : NameKey → Type 0
IsNameKey key = name_key key.dir (take key.len key.name) ≡ key

-- where a name is cached
abbrev pub name_slot : Order NameKey → NameKey → Option ℕ
name_slot = slot_of same_key

-- the node that is cached of a name
abbrev pub cached_node : List (Option Name) → Order NameKey → NameKey → Option ℕ
cached_node = cached same_key (λ n. n.node)

-- the cache keeps just the Names of the heap, by their keys
abbrev pub KeepsNames : List (Option Name) → Order NameKey → Type 0
KeepsNames = Keeps same_key key_of

-- each Name has the node that is found under it in its directory
abbrev pub TrueNames : (ℕ → List ℕ → Option ℕ) → List (Option Name) → Type 0
TrueNames found = AreTrue (λ n. found n.dir n.name ≡ Some n.node)

-- What is found under one name is all that may become other.
abbrev pub AgreesElsewhere : NameKey → (ℕ → List ℕ → Option ℕ) → (ℕ → List ℕ → Option ℕ) → Type 0
AgreesElsewhere key found next = (dir : ℕ) (name : List ℕ) → (name_key dir name ≡ key → ⊥) → next dir name ≡ found dir name

-- what the purse keeps of Names is in use and was spent
abbrev pub HasNameFills : Heap → Purse → Type 0
HasNameFills heap purse = AreFills heap.names purse.names purse.left.name purse.need.name

-- a Name may be filled: one is left and there is room for its pair, or none is left and one was filled
abbrev pub MayFill : Order NameKey → Purse → Type 0
MayFill cache purse = ((0 < purse.left.name) × (length cache.pairs < cache.capacity)) ⊎ ((purse.left.name ≡ 0) × (0 < length purse.names))

-- the slot of the Name that goes first, where none is left
abbrev pub name_dropped : Purse → Option ℕ
name_dropped purse = first_fill purse.left.name purse.names

-- the same purse, with other counts and fills of Names
abbrev pub with_names : Purse → ℕ → List ℕ → Purse
with_names purse left fills = record purse { left = with_count purse.left class.Name left; names = fills }

-- The Name that was filled at this place has gone from the heap, the purse and the order of use, and the purse has one
-- more left.
pub record FillDropped (at : ℕ) (old new : Heap) (before after : Purse) (had has : Order NameKey) : Type 0 where
  pub heap : new ≡ record old { names = without old.names (slice_index_or before.names at 0) }
  pub purse : after ≡ with_names before (before.left.name + 1) (remove before.names at)
  pub cache : has ≡ order (pairs_kept same_key key_of old.names (Some (slice_index_or before.names at 0)) had.pairs) had.capacity

-- All that were filled have gone, and the purse has as many more left.
pub record AllDropped (old new : Heap) (before after : Purse) (had has : Order NameKey) : Type 0 where
  pub heap : new ≡ record old { names = objects_without before.names old.names }
  pub purse : after ≡ with_names before (before.left.name + length before.names) []
  pub cache : has ≡ order (pairs_without same_key key_of before.names old.names had.pairs) had.capacity

-- There is room for a Name: where none was left, the one that was filled first has gone from the heap, the purse and
-- the order of use, and all else is as before.
pub record RoomMade (old new : Heap) (before after : Purse) (had has : Order NameKey) : Type 0 where
  pub heap : new ≡ record old { names = objects_kept (name_dropped before) old.names }
  pub purse : after ≡ with_names before (left_kept before.left.name) (fills_kept before.left.name before.names)
  pub cache : has ≡ order (pairs_kept same_key key_of old.names (name_dropped before) had.pairs) had.capacity

-- A Name is filled, at this slot that was free, as the warmest and as the last that was filled.
pub record NameAdded (made : Name) (old new : Heap) (before after : Purse) (had has : Order NameKey) (slot : ℕ) : Type 0 where
  pub vacant : object old.names slot ≡ None
  pub heap : new ≡ record old { names = put old.names slot made; high = new.high }
  pub purse : after ≡ with_names before (before.left.name - 1) (before.names ++ slot ∷ [])
  pub cache : has ≡ order (had.pairs ++ (key_of made, slot) ∷ []) had.capacity

-- Room is made, and then the Name is filled.
pub record NameFilled (made : Name) (old new : Heap) (before after : Purse) (had has : Order NameKey) : Type 0 where
  pub between : Heap
  pub purse : Purse
  pub cache : Order NameKey
  pub slot : ℕ
  pub room : RoomMade old between before purse had cache
  pub added : NameAdded made between new purse after cache has slot

-- The Name of a slot and its pair go, and all else stays.
pub record NameGone (key : NameKey) (slot : ℕ) (old new : Heap) (had has : Order NameKey) : Type 0 where
  pub there : name_slot had key ≡ Some slot
  pub heap : new ≡ record old { names = without old.names slot }
  pub cache : has ≡ order (remove_entry (same_key key) had.pairs) had.capacity

-- The coldest Name goes.
pub record ColdestGone (slot : ℕ) (old new : Heap) (had has : Order NameKey) : Type 0 where
  pub key : NameKey
  pub coldest : had.pairs ≡ (key, slot) ∷ has.pairs
  pub capacity : has.capacity ≡ had.capacity
  pub heap : new ≡ record old { names = without old.names slot }

-- nothing changes
pub record Unchanged (old new : Heap) (had has : Order NameKey) : Type 0 where
  pub heap : new ≡ old
  pub cache : has ≡ had

-- What was filled at a slot goes back to the purse, which has one more left; where nothing was, the purse stays.
abbrev pub TakenBack : ℕ → Purse → Purse → Type 0
TakenBack slot before after = ((at : ℕ) × IsAt before.names slot at × (after ≡ with_names before (before.left.name + 1) (remove before.names at))) ⊎ (((at : ℕ) → IsAt before.names slot at → ⊥) × (after ≡ before))
