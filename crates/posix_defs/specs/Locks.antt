-- The record locks of files: which places each process holds of a file, and what is in the way of whom.
use Rattle.std.specs.Prelude.{ℕ, ◌==◌, ◌&&◌, ◌||◌, not, nat_le, nat_lt, Bool, if◌then◌else◌, List, [], ◌∷◌, ◌++◌, map, Option, None, Some}
use Rattle.std.specs.List.{filter, list_any}
use Rattle.kabi_types.specs.Ranges.{clashes, set}
use Rattle.kabi_types.specs.declared.ranges.Kind.{Kind}
use Rattle.kabi_types.specs.declared.ranges.Range.{Range}

-- places of a file that a process holds with a kind
pub record Lock : Type 0 where
  pub pid : ℕ
  pub node : ℕ
  pub range : Range

-- all locks; of one process and one file they stand by rising start
abbrev pub Locks : Type 0
Locks = List Lock

-- ---- what a process holds of a file

-- the lock is this process's, of this file
abbrev pub is_of : ℕ → ℕ → Lock → Bool
is_of pid node lock = lock.pid == pid && lock.node == node

-- the ranges that a process holds of a file
abbrev pub ranges_of : Locks → ℕ → ℕ → List Range
ranges_of locks pid node = map (λ lock. lock.range) (filter (is_of pid node) locks)

-- the locks without those of a process of a file
abbrev pub without : Locks → ℕ → ℕ → Locks
without locks pid node = filter (λ lock. not (is_of pid node lock)) locks

-- a range as a lock of a process, of a file
abbrev pub lock_of : ℕ → ℕ → Range → Lock
lock_of pid node range = record { pid = pid; node = node; range = range }

-- the process holds just these ranges of the file
abbrev pub with_ranges : Locks → ℕ → ℕ → List Range → Locks
with_ranges locks pid node ranges = without locks pid node ++ map (lock_of pid node) ranges

-- What is asked for: the places from a start to a last one, to be held with a kind, or let go.
pub record Request : Type 0 where
  pub kind : Option Kind
  pub start : ℕ
  pub last : ℕ

-- at each place that is asked for the process's kind is the one asked for, elsewhere what it was (POSIX fcntl, F_SETLK)
abbrev pub after_set : Locks → ℕ → ℕ → Request → Locks
after_set locks pid node asked = with_ranges locks pid node (set (ranges_of locks pid node) asked.kind asked.start asked.last)

-- ---- what is in the way

-- the range and the request share a place, which two can't hold so
abbrev pub meets : Range → Request → Bool
meets range asked = (nat_le range.start asked.last && nat_le asked.start range.last) && clashes (Some range.kind) asked.kind

-- the lock is another process's, of the same file, and in the way of what this process asks for
abbrev pub is_in_way : ℕ → ℕ → Request → Lock → Bool
is_in_way pid node asked lock = not (lock.pid == pid) && (lock.node == node && meets lock.range asked)

-- by start, then by pid
abbrev pub comes_first : Lock → Lock → Bool
comes_first lock other = nat_lt lock.range.start other.range.start || (lock.range.start == other.range.start && nat_le lock.pid other.pid)

-- the first of two, if there are two
abbrev pub first_with : Lock → Option Lock → Option Lock
first_with lock None = Some lock
first_with lock (Some other) = if comes_first lock other then Some lock else Some other

-- the first of some locks
abbrev pub first_of : Locks → Option Lock
first_of [] = None
first_of (lock ∷ locks) = first_with lock (first_of locks)

-- of the locks in the way that of least start, and of these that of the lowest pid
abbrev pub first_in_way : Locks → ℕ → ℕ → Request → Option Lock
first_in_way locks pid node asked = first_of (filter (is_in_way pid node asked) locks)

-- this other process holds a lock that is in the way
abbrev pub stops : Locks → ℕ → ℕ → Request → ℕ → Bool
stops locks pid node asked by = list_any (λ lock. lock.pid == by && is_in_way pid node asked lock) locks
