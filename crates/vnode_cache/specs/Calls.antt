-- What a fill, a removal, an eviction and a pin do.
use Rattle.std.specs.Prelude.{◌≡◌, ◌⊎◌, ℕ, ◌+◌, ◌-◌, ◌<◌, List, [], ◌∷◌, ◌++◌, Option, None, Some, length, nat_eq, remove, slice_index_or}
use Rattle.std.specs.Map.{remove_entry}
use Rattle.kabi_types.specs.declared.classes.Class.TheVariants as class
use Rattle.kabi_types.specs.declared.inodes.Inode.{Inode}
use Rattle.kabi_types.specs.Counts.{with_count}
use Rattle.kheap_slabs.specs.Objects.{object, put, without}
use Rattle.kheap_slabs.specs.Purse.{Purse}
use Rattle.kheap_slabs.specs.declared.objects.Vnode.{Vnode}
use Rattle.kheap_slabs.specs.Heap.{Heap}
use Rattle.kheap_slabs.specs.Paid.{AreFills}
use Rattle.cache_laws.specs.Caches.{pairs_kept, objects_without, pairs_without, IsAt}
use Rattle.vnode_cache.specs.Nodes.{Nodes, nodes, node_slot, SomeLoose, IsFirstLoose, IsColdestLoose, StaysBut}

-- a Vnode that no one holds yet
abbrev pub new_vnode : ℕ → Inode → Vnode
new_vnode number inode = record { number = number; inode = inode; pins = 0 }

-- what the purse keeps of Vnodes is in use and was spent
abbrev pub HasNodeFills : Heap → Purse → Type 0
HasNodeFills heap purse = AreFills heap.vnodes purse.vnodes purse.left.vnode purse.need.vnode

-- a Vnode may be filled: one is left and there is room for its pair, or none is left and no one holds one of those
-- that were filled
abbrev pub MayFill : Heap → Nodes → Purse → Type 0
MayFill heap cache purse = ((0 < purse.left.vnode) × (length cache.order.pairs < cache.order.capacity)) ⊎ ((purse.left.vnode ≡ 0) × SomeLoose heap.vnodes purse.vnodes)

-- the same purse, with other counts and fills of Vnodes
abbrev pub with_vnodes : Purse → ℕ → List ℕ → Purse
with_vnodes purse left fills = record purse { left = with_count purse.left class.Vnode left; vnodes = fills }

-- The Vnode that was filled at this place has gone from the heap, the purse and the order of use, and the purse has one
-- more left.
pub record FillDropped (at : ℕ) (old new : Heap) (before after : Purse) (had has : Nodes) : Type 0 where
  pub heap : new ≡ record old { vnodes = without old.vnodes (slice_index_or before.vnodes at 0) }
  pub purse : after ≡ with_vnodes before (before.left.vnode + 1) (remove before.vnodes at)
  pub cache : has ≡ nodes (pairs_kept nat_eq (λ v. v.number) old.vnodes (Some (slice_index_or before.vnodes at 0)) had.order.pairs) had.order.capacity (had.loose - 1)

-- All that were filled have gone, and the purse has as many more left.
pub record AllDropped (old new : Heap) (before after : Purse) (had has : Nodes) : Type 0 where
  pub heap : new ≡ record old { vnodes = objects_without before.vnodes old.vnodes }
  pub purse : after ≡ with_vnodes before (before.left.vnode + length before.vnodes) []
  pub cache : has ≡ nodes (pairs_without nat_eq (λ v. v.number) before.vnodes old.vnodes had.order.pairs) had.order.capacity (had.loose - length before.vnodes)

-- nothing changes
pub record Unchanged (old new : Heap) (had has : Nodes) : Type 0 where
  pub heap : new ≡ old
  pub cache : has ≡ had

-- There is room for a Vnode: where none was left, the first of those that were filled and that no one holds has gone,
-- and else all is as before.
pub record RoomMade (old new : Heap) (before after : Purse) (had has : Nodes) : Type 0 where
  pub enough : (before.left.vnode ≡ 0 → ⊥) → Unchanged old new had has × (after ≡ before)
  pub none : before.left.vnode ≡ 0 → (at : ℕ) × IsFirstLoose old.vnodes before.vnodes at × FillDropped at old new before after had has

-- A Vnode is filled, at this slot that was free, as the warmest and as the last that was filled.
pub record NodeAdded (made : Vnode) (old new : Heap) (before after : Purse) (had has : Nodes) (slot : ℕ) : Type 0 where
  pub vacant : object old.vnodes slot ≡ None
  pub heap : new ≡ record old { vnodes = put old.vnodes slot made; high = new.high }
  pub purse : after ≡ with_vnodes before (before.left.vnode - 1) (before.vnodes ++ slot ∷ [])
  pub cache : has ≡ nodes (had.order.pairs ++ (made.number, slot) ∷ []) had.order.capacity (had.loose + 1)

-- Room is made, and then the Vnode is filled.
pub record NodeFilled (made : Vnode) (old new : Heap) (before after : Purse) (had has : Nodes) : Type 0 where
  pub between : Heap
  pub purse : Purse
  pub cache : Nodes
  pub slot : ℕ
  pub room : RoomMade old between before purse had cache
  pub added : NodeAdded made between new purse after cache has slot

-- The Vnode of a slot and its pair go, and all else stays.
pub record NodeGone (number slot : ℕ) (old new : Heap) (had has : Nodes) : Type 0 where
  pub there : node_slot had number ≡ Some slot
  pub heap : new ≡ record old { vnodes = without old.vnodes slot }
  pub cache : has ≡ nodes (remove_entry (nat_eq number) had.order.pairs) had.order.capacity (had.loose - 1)

-- The coldest Vnode that no one holds goes.
pub record ColdestGone (slot : ℕ) (old new : Heap) (had has : Nodes) : Type 0 where
  pub number : ℕ
  pub coldest : IsColdestLoose old.vnodes had.order number
  pub gone : NodeGone number slot old new had has

-- The Vnode of a cached node becomes another, and the order of use stays.
abbrev pub NodeSet : ℕ → (Vnode → Vnode) → Heap → Heap → Nodes → Nodes → Type 0
NodeSet number change old new had has = (slot : ℕ) (was : Vnode) → node_slot had number ≡ Some slot → object old.vnodes slot ≡ Some was → new ≡ record old { vnodes = put old.vnodes slot (change was) }

-- What was filled at a slot goes back to the purse, which has one more left; where nothing was, the purse stays.
abbrev pub TakenBack : ℕ → Purse → Purse → Type 0
TakenBack slot before after = ((at : ℕ) × IsAt before.vnodes slot at × (after ≡ with_vnodes before (before.left.vnode + 1) (remove before.vnodes at))) ⊎ (((at : ℕ) → IsAt before.vnodes slot at → ⊥) × (after ≡ before))

-- Steps from some Vnodes on, each with how many pins it takes off this node at most, and the Vnodes after it.
abbrev pub AreSteps : ℕ → List (Option Vnode) → List (ℕ × List (Option Vnode)) → Type 0
AreSteps number first [] = Unit {0}
AreSteps number first (step ∷ steps) = StaysBut step.0 number first step.1 × AreSteps number step.1 steps

-- how many pins the steps take off together
abbrev pub taken_off : List (ℕ × List (Option Vnode)) → ℕ
taken_off [] = 0
taken_off (step ∷ steps) = step.0 + taken_off steps

-- the Vnodes after the last of them
abbrev pub last_of : List (Option Vnode) → List (ℕ × List (Option Vnode)) → List (Option Vnode)
last_of first [] = first
last_of first (step ∷ steps) = last_of step.1 steps
