-- Places of a file have been set, or weren't.
use Rattle.std.specs.Prelude.{ℕ, ℤ, pos, ◌≡◌, Bool, true, false, Result, Ok, Err}
use Rattle.kabi_types.specs.declared.errnos.Errno.{Errno}
use Rattle.kabi_types.specs.declared.errnos.Errno.TheVariants.{EAGAIN, EDEADLK}
use Rattle.kabi_types.specs.declared.replies.Reply.{Reply}
use Rattle.kabi_types.specs.declared.replies.Reply.TheVariants.{Fail, Val}
use Rattle.lock_table.specs.Chain.{HoldsLocks}
use Rattle.posix_defs.specs.Calls.OnLocks.{is_clear, lock_told}
use Rattle.posix_defs.specs.Calls.Opened.{opened_at}
use Rattle.posix_defs.specs.Locks.{Locks, Request, after_set, first_in_way}
use Rattle.posix_defs.specs.Plain.{Plain}
use Rattle.posix_defs.specs.declared.turner.Turned.{Turned}
use Rattle.posix_defs.specs.declared.turner.Turned.TheVariants as turned
use Rattle.store_objects.specs.declared.objects.Objects.{Objects}
use Rattle.lock_calls.specs.Claiming.{claimed_by}

-- what setlk tells
abbrev pub told_of : Result Bool Errno → Reply
told_of (Ok true) = Val (pos 0)
told_of (Ok false) = Fail EAGAIN
told_of (Err errno) = Fail errno

-- the locks once places are set, if they are
abbrev pub locks_after : Locks → ℕ → ℕ → Request → Bool → Locks
locks_after locks pid number asked true = after_set locks pid number asked
locks_after locks pid number asked false = locks

-- Of the objects locks alone are others, and what of the tree was used last.
pub record ChangesLocks (old new : Objects) : Type 0 where
  pub heap : new.heap ≡ record old.heap { locks = new.heap.locks; high = new.heap.high }
  pub beside : new ≡ record old { heap = new.heap; tree = new.tree; locks = new.locks }

-- A process has asked for places of a file, in a machine whose locks these were: it is told why it may not, or whether they were set.
abbrev pub HasTried : Objects → Objects → Plain → ℕ → ℤ → Request → Result Bool Errno → Type 0
HasTried old new plain pid fd asked (Err errno) =
    (claimed_by plain.files asked.kind (opened_at plain.files pid fd) ≡ Err errno) × HoldsLocks new.heap.locks new.locks plain.files.locks
HasTried old new plain pid fd asked (Ok set) =
    (number : ℕ) × (claimed_by plain.files asked.kind (opened_at plain.files pid fd) ≡ Ok number) × (set ≡ is_clear plain.files.locks pid number asked)
    × HoldsLocks new.heap.locks new.locks (locks_after plain.files.locks pid number asked set)

-- a process sleeps, or is told that it would wait for itself
abbrev pub wait_told : Bool → Turned
wait_told true = turned.Done (Fail EDEADLK)
wait_told false = turned.Sleep

-- ---- getlk

-- what is told of the first lock in the way in a file, or why it isn't looked at
abbrev pub first_told : Locks → ℕ → Request → Result ℕ Errno → Reply
first_told locks pid asked (Ok number) = lock_told (first_in_way locks pid number asked)
first_told locks pid asked (Err errno) = Fail errno
