-- The cache of inodes over the heap's Vnodes, and which of these may go.
use Rattle.std.specs.Prelude.{◌≡◌, ℕ, ◌+◌, ◌<◌, ◌≤◌, Bool, true, false, List, [], ◌∷◌, ◌++◌, Option, None, Some, count_by, length, nat_eq, slice_index_or}
use Rattle.std.specs.List.{Contains}
use Rattle.std.specs.Option.{option_and_then}
use Rattle.kabi_types.specs.declared.inodes.Inode.{Inode}
use Rattle.kheap_slabs.specs.Objects.{object}
use Rattle.kheap_slabs.specs.declared.objects.Vnode.{Vnode}
use Rattle.lru_index.specs.Order.{Order, order}
use Rattle.cache_laws.specs.Caches.{slot_of, Keeps, cached, AreTrue}

-- its order of use, by the nodes' numbers, and how many of its Vnodes no one holds
pub record Nodes : Type 0 where
  pub order : Order ℕ
  pub loose : ℕ

abbrev pub nodes : List (ℕ × ℕ) → ℕ → ℕ → Nodes
nodes pairs capacity loose = record { order = order pairs capacity; loose = loose }

-- whether there is a Vnode that no one holds
abbrev pub is_loose : Option Vnode → Bool
is_loose None = false
is_loose (Some v) = nat_eq v.pins 0

-- the Vnode of a slot is there, and no one holds it
abbrev pub IsLoose : List (Option Vnode) → ℕ → Type 0
IsLoose objects slot = is_loose (object objects slot) ≡ true

-- the Vnodes of these slots are there, and no one holds any
abbrev pub AreLoose : List (Option Vnode) → List ℕ → Type 0
AreLoose objects slots = (slot : ℕ) → Contains slots slot → IsLoose objects slot

-- how many Vnodes no one holds
abbrev pub loose_count : List (Option Vnode) → ℕ
loose_count objects = count_by is_loose objects

-- where a node is cached
abbrev pub node_slot : Nodes → ℕ → Option ℕ
node_slot cache = slot_of nat_eq cache.order

-- the inode, and the pins, that are cached of a node
abbrev pub cached_inode : List (Option Vnode) → Nodes → ℕ → Option Inode
cached_inode objects cache = cached nat_eq (λ v. v.inode) objects cache.order

abbrev pub cached_pins : List (Option Vnode) → Nodes → ℕ → Option ℕ
cached_pins objects cache = cached nat_eq (λ v. v.pins) objects cache.order

-- the cache keeps just the Vnodes of the heap, by their numbers, and counts those that no one holds
pub record KeepsNodes (objects : List (Option Vnode)) (cache : Nodes) : Type 0 where
  pub kept : Keeps nat_eq (λ v. v.number) objects cache.order
  pub loose : cache.loose ≡ loose_count objects

-- each Vnode has the inode that its node has
abbrev pub TrueNodes : (ℕ → Inode → Type 0) → List (Option Vnode) → Type 0
TrueNodes HasNode = AreTrue (λ v. HasNode v.number v.inode)

-- the first of some slots whose Vnode no one holds stands at this place
pub record IsFirstLoose (objects : List (Option Vnode)) (slots : List ℕ) (at : ℕ) : Type 0 where
  pub within : at < length slots
  pub loose : IsLoose objects (slice_index_or slots at 0)
  pub before : (i : ℕ) → i < at → is_loose (object objects (slice_index_or slots i 0)) ≡ false

-- some Vnode of these slots no one holds
abbrev pub SomeLoose : List (Option Vnode) → List ℕ → Type 0
SomeLoose objects slots = (at : ℕ) × (at < length slots) × IsLoose objects (slice_index_or slots at 0)

-- whether a cached node is one that no one holds
abbrev pub node_is_loose : List (Option Vnode) → Order ℕ → ℕ → Bool
node_is_loose objects o number = is_loose (option_and_then (object objects) (slot_of nat_eq o number))

-- each of these pairs has a node that is held
abbrev pub AreHeld : List (Option Vnode) → Order ℕ → List (ℕ × ℕ) → Type 0
AreHeld objects o [] = Unit {0}
AreHeld objects o (p ∷ ps) = (node_is_loose objects o p.0 ≡ false) × AreHeld objects o ps

-- No one holds this node, and each that is colder is held.
pub record IsColdestLoose (objects : List (Option Vnode)) (o : Order ℕ) (number : ℕ) : Type 0 where
  pub front : List (ℕ × ℕ)
  pub back : List (ℕ × ℕ)
  pub slot : ℕ
  pub pairs : o.pairs ≡ front ++ (number, slot) ∷ back
  pub held : AreHeld objects o front
  pub loose : node_is_loose objects o number ≡ true

-- A node that is held stays in its slot, with as many pins or more.
abbrev pub StaysHeld : ℕ → List (Option Vnode) → List (Option Vnode) → Type 0
StaysHeld number old new = (slot : ℕ) (v : Vnode) → object old slot ≡ Some v → v.number ≡ number → 0 < v.pins → (w : Vnode) × (object new slot ≡ Some w) × (w.number ≡ number) × (v.pins ≤ w.pins)

-- A node that has more pins than are taken off stays in its slot, and has all the others.
abbrev pub StaysBut : ℕ → ℕ → List (Option Vnode) → List (Option Vnode) → Type 0
StaysBut off number old new = (slot : ℕ) (v : Vnode) → object old slot ≡ Some v → v.number ≡ number → off < v.pins → (w : Vnode) × (object new slot ≡ Some w) × (w.number ≡ number) × (v.pins ≤ w.pins + off)

-- Each Vnode has the inode that a table of nodes has at its number.
abbrev pub TrueToTable : (ℕ → Option Inode) → List (Option Vnode) → Type 0
TrueToTable table = TrueNodes (λ number inode. table number ≡ Some inode)

-- What a table has of one node is all that may become other.
abbrev pub AgreesElsewhere : ℕ → (ℕ → Option Inode) → (ℕ → Option Inode) → Type 0
AgreesElsewhere number table next = (other : ℕ) → (other ≡ number → ⊥) → next other ≡ table other
