-- The locks of files as a chain of the heap.
use Rattle.std.specs.Prelude.{◌≡◌, ℕ, List, [], ◌∷◌, Option, None, Some}
use Rattle.kheap_slabs.specs.Keys.{AreKeysOf}
use Rattle.kheap_slabs.specs.Objects.{object}
use Rattle.kheap_slabs.specs.declared.objects.Lock.{Lock as HeldLock}
use Rattle.kabi_types.specs.Ranges.{IsCanonical}
use Rattle.posix_defs.specs.Locks.{Lock, Locks, ranges_of}
use Rattle.lock_table.specs.Reordered.{IsReordered}

-- a lock as the heap has it, before the one of that key
abbrev pub held_of : Lock → Option ℕ → HeldLock
held_of lock next = record { pid = lock.pid; node = lock.node; range = lock.range; next = next }

-- the lock that it stands for
abbrev pub plain_of : HeldLock → Lock
plain_of held = record { pid = held.pid; node = held.node; range = held.range }

-- from the first one these keys, each before the next, are those of these locks, and there are no more
abbrev pub Chained : List (Option HeldLock) → Option ℕ → List ℕ → Locks → Type 0
Chained objects first [] [] = first ≡ None
Chained objects first [] (lock ∷ locks) = ⊥
Chained objects first (key ∷ keys) [] = ⊥
Chained objects first (key ∷ keys) (lock ∷ locks) =
    (first ≡ Some key) × (next : Option ℕ) × (object objects key ≡ Some (held_of lock next)) × Chained objects next keys locks

-- Every lock of the heap stands once in the chain that begins so, and they are these in their order.
pub record IsLockChain (objects : List (Option HeldLock)) (first : Option ℕ) (locks : Locks) : Type 0 where
  pub keys : List ℕ
  pub chained : Chained objects first keys locks
  pub are : AreKeysOf objects keys

-- The chain stands for some locks, whose order may be another. What a process holds of a file lies apart, none that touch have one
-- kind, and it stands by rising start.
pub record HoldsLocks (objects : List (Option HeldLock)) (first : Option ℕ) (locks : Locks) : Type 0 where
  pub held : Locks
  pub chain : IsLockChain objects first held
  pub same : IsReordered held locks
  pub canonical : (pid node : ℕ) → IsCanonical (ranges_of locks pid node)

-- it stands for some
abbrev pub IsLockTable : List (Option HeldLock) → Option ℕ → Type 0
IsLockTable objects first = (locks : Locks) × HoldsLocks objects first locks

-- the locks in the order of the chain
abbrev pub HasLocks : List (Option HeldLock) → Option ℕ → Type 0
HasLocks objects first = (locks : Locks) × IsLockChain objects first locks
