-- What is asked for and what is told, as the calls of the table have them, and the first lock in the way.
use Rattle.std.specs.Prelude.{◌≤◌, ℕ, if◌then◌else◌, [], ◌∷◌, Option, None, Some}
use Rattle.kabi_types.specs.Ranges.{greatest}
use Rattle.posix_defs.specs.Calls.OnLocks.{kind_asked, kind_told}
use Rattle.posix_defs.specs.Locks.{Lock, Locks, Request, comes_first, is_in_way}
use Rattle.lock_table.specs.declared.locks.LockInfo.{LockInfo}
use Rattle.lock_table.specs.declared.locks.LockRange.{LockRange}

-- the kind is F_RDLCK, F_WRLCK or F_UNLCK, and there are places from the start to the last one
pub record IsAsked (range : LockRange) : Type 0 where
  pub kind : range.kind ≤ 2
  pub order : range.start ≤ range.last
  pub places : range.last ≤ greatest

-- what is asked for
abbrev pub asked_by : LockRange → Request
asked_by range = record { kind = kind_asked range.kind; start = range.start; last = range.last }

-- what is told of a lock
abbrev pub info_of : Lock → LockInfo
info_of lock = record { pid = lock.pid; kind = kind_told lock.range.kind; start = lock.range.start; last = lock.range.last }

-- the first of those that were met and one more
abbrev pub sooner : Option Lock → Lock → Lock
sooner None lock = lock
sooner (Some first) lock = if comes_first first lock then first else lock

-- the first in the way of those that were met, and of one more
abbrev pub earlier : ℕ → ℕ → Request → Option Lock → Lock → Option Lock
earlier pid node asked first lock = if is_in_way pid node asked lock then Some (sooner first lock) else first

-- and of these, one after the other
abbrev pub earliest : ℕ → ℕ → Request → Option Lock → Locks → Option Lock
earliest pid node asked first [] = first
earliest pid node asked first (lock ∷ locks) = earliest pid node asked (earlier pid node asked first lock) locks
