-- What a call pays from its purse, and what it has filled.
use Rattle.std.specs.Prelude.{◌≡◌, ℕ, ◌+◌, ◌≤◌, List, Option, length, max}
use Rattle.std.specs.List.{Contains}
use Rattle.kabi_types.specs.declared.classes.Class.{Class}
use Rattle.kabi_types.specs.Counts.{counted}
use Rattle.kheap_slabs.specs.Objects.{InUse}
use Rattle.kheap_slabs.specs.Purse.{Purse, left_bytes}
use Rattle.kheap_slabs.specs.Heap.{Heap, counts_of, live_bytes}
use Rattle.kheap_slabs.specs.Keys.{IsOnce}

-- the heap has room for all that the purse has left
abbrev pub CanPay : Heap → Purse → Type 0
CanPay h purse = live_bytes h + left_bytes purse ≤ h.heap

-- a call that pays from its purse: of each class, the objects that are there and those that the purse has left are
-- together no more than they were; at no moment were more bytes taken than at its start with all that it could spend; it
-- makes no mark, so what high was it still counts
pub record IsPaid (old : Heap) (before : Purse) (new : Heap) (after : Purse) : Type 0 where
  pub counts : (class : Class) → counted (counts_of new) class + counted after.left class ≤ counted (counts_of old) class + counted before.left class
  pub need : after.need ≡ before.need
  pub high : new.high ≤ max old.high (live_bytes old + left_bytes before)
  pub rises : old.high ≤ new.high
  pub heap : new.heap ≡ old.heap
  pub marks : new.marks ≡ old.marks

-- of a class exactly those are paid for that are made: what is there and what the purse has left make up what they were
abbrev pub PaysExactly : Class → Heap → Purse → Heap → Purse → Type 0
PaysExactly class old before new after = counted (counts_of new) class + counted after.left class ≡ counted (counts_of old) class + counted before.left class

-- a call without a purse: of no class are more objects there than before, and high stays what it was
pub record TakesNothing (old new : Heap) : Type 0 where
  pub counts : (class : Class) → counted (counts_of new) class ≤ counted (counts_of old) class
  pub high : new.high ≡ old.high
  pub heap : new.heap ≡ old.heap
  pub marks : new.marks ≡ old.marks

-- the keys that a purse keeps of a class are in use, each stands once, and no more are kept than were spent
pub record AreFills {X : Type 0} (objects : List (Option X)) (keys : List ℕ) (left need : ℕ) : Type 0 where
  pub used : (key : ℕ) → Contains keys key → InUse objects key
  pub once : IsOnce keys
  pub spent : length keys + left ≤ need

-- all that the purse keeps as filled is there and was spent
pub record HasFills (h : Heap) (purse : Purse) : Type 0 where
  pub vnodes : AreFills h.vnodes purse.vnodes purse.left.vnode purse.need.vnode
  pub names : AreFills h.names purse.names purse.left.name purse.need.name
  pub blocks : AreFills h.blocks purse.blocks purse.left.block purse.need.block
