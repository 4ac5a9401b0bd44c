-- The chain of locks while it is walked, and while it is made anew.
use Rattle.std.specs.Prelude.{◌≡◌, ℕ, zero, suc, ◌≤◌, List, [], ◌++◌, Option, None, Some, length}
use Rattle.kheap_slabs.specs.Keys.{AreKeysOf}
use Rattle.kheap_slabs.specs.Objects.{object, count, put, without}
use Rattle.kheap_slabs.specs.declared.objects.Lock.{Lock as HeldLock}
use Rattle.kabi_types.specs.declared.ranges.Range.{Range}
use Rattle.posix_defs.specs.Locks.{Locks}
use Rattle.lock_table.specs.Chain.{Chained}
use Rattle.lock_table.specs.Setting.{cut, over}

-- the key of the next one
abbrev pub next_of : Option HeldLock → Option ℕ
next_of None = None
next_of (Some lock) = lock.next

-- how many stand in the chain from this one on, of at most so many
unfoldable pub chain_left : ℕ → List (Option HeldLock) → Option ℕ → ℕ
chain_left zero objects at = 0
chain_left (suc n) objects None = 0
chain_left (suc n) objects (Some key) = suc (chain_left n objects (next_of (object objects key)))

-- of the locks that stand here and behind this is so
pub record Walks (objects : List (Option HeldLock)) (at : Option ℕ) (P : Locks → Type 0) : Type 0 where
  pub keys : List ℕ
  pub rest : Locks
  pub chained : Chained objects at keys rest
  pub few : length keys ≤ count objects
  pub so : P rest

-- Those that stayed are chained anew, and those that stand here and behind still as they were, of which there are no more than that;
-- what becomes of all is what becomes of these from here on.
pub record Cuts (objects : List (Option HeldLock)) (most : ℕ) (first at : Option ℕ) (left : Option Range) (pid node start last : ℕ) (locks : Locks) : Type 0 where
  pub done_keys : List ℕ
  pub done : Locks
  pub anew : Chained objects first done_keys done
  pub keys : List ℕ
  pub rest : Locks
  pub chained : Chained objects at keys rest
  pub are : AreKeysOf objects (done_keys ++ keys)
  pub few : length keys ≤ most
  pub cut_is : cut pid node start last done rest ≡ cut pid node start last [] locks
  pub over_is : over pid node start last left rest ≡ over pid node start last None locks

-- ---- one lock of the chain

-- a lock stays with a range, before the first of those that stayed, or is freed
abbrev pub chained_again : List (Option HeldLock) → ℕ → HeldLock → Option ℕ → Option Range → List (Option HeldLock)
chained_again objects key lock first None = without objects key
chained_again objects key lock first (Some range) = put objects key (record lock { range = range; next = first })

-- the first of those that stayed
abbrev pub first_again : ℕ → Option ℕ → Option Range → Option ℕ
first_again key first None = first
first_again key first (Some range) = Some key
