-- The number that a call has, what the paths of a call are, and what it moves bytes of.
use Rattle.std.specs.Prelude.{ℕ, ℤ, ◌≡◌, ◌<◌, Bool, true, false, Option, None, Some}
use Rattle.std.specs.List.{AllByRecursion}
use Rattle.kabi_types.specs.declared.calls.Call.{Call}
use Rattle.kabi_types.specs.declared.calls.Call.TheVariants as call
use Rattle.kheap_slabs.specs.Heap.{Heap}
use Rattle.machine_laws.specs.Texts.{ArePathBytes}
use Rattle.posix_defs.specs.Calls.Opened.{opened_at}
use Rattle.posix_defs.specs.Files.State.{Files, opening_at}
use Rattle.posix_defs.specs.Files.Whole.{is_queue_in}
use Rattle.posix_defs.specs.Reaching.{paths_of}
use Rattle.proc_numbers.specs.Found.{IsOffNodes, IsOnNode}
use Rattle.proc_table.specs.Table.{TableView}

-- no path that a call names has a zero byte
abbrev pub HasPaths : Call → Type 0
HasPaths which = AllByRecursion ArePathBytes (paths_of which)

-- the calls that move bytes of whatever is open
abbrev pub is_moving : Call → Bool
is_moving (call.Read fd addr n) = true
is_moving (call.Write fd addr n done) = true
is_moving _ = false

-- the number of a descriptor that a call has; of a dup2 that of the one that is copied
abbrev pub number_of : Call → Option ℤ
number_of (call.Close fd) = Some fd
number_of (call.Dup fd) = Some fd
number_of (call.Dup2 fd to) = Some fd
number_of (call.Fcntl fd cmd arg) = Some fd
number_of (call.Read fd addr n) = Some fd
number_of (call.Write fd addr n done) = Some fd
number_of (call.Pread fd addr n at) = Some fd
number_of (call.Pwrite fd addr n at) = Some fd
number_of (call.Lseek fd offset whence) = Some fd
number_of (call.Readdir fd addr n) = Some fd
number_of (call.Ftruncate fd length) = Some fd
number_of (call.Fstat fd) = Some fd
number_of (call.Bind fd path) = Some fd
number_of (call.Listen fd) = Some fd
number_of (call.Connect fd path) = Some fd
number_of (call.Accept fd) = Some fd
number_of (call.Shutdown fd how) = Some fd
number_of (call.Setlk fd kind start length) = Some fd
number_of (call.Setlkw fd kind start length) = Some fd
number_of (call.Getlk fd kind start length) = Some fd
number_of _ = None

-- a call that moves bytes moves those of a file or a directory
abbrev pub IsOnFile : Heap → TableView → ℕ → Call → Type 0
IsOnFile h kept pid (call.Read fd addr n) = IsOnNode h kept pid fd
IsOnFile h kept pid (call.Write fd addr n done) = IsOnNode h kept pid fd
IsOnFile h kept pid _ = Unit {0}

-- a call that moves bytes moves those of a pipe or a socket
abbrev pub IsOffFiles : Heap → TableView → ℕ → Call → Type 0
IsOffFiles h kept pid (call.Read fd addr n) = IsOffNodes h kept pid fd
IsOffFiles h kept pid (call.Write fd addr n done) = IsOffNodes h kept pid fd
IsOffFiles h kept pid _ = Unit {0}

-- nothing is moved before the call runs, as far as it counts
abbrev pub IsFresh : Call → Type 0
IsFresh (call.Write fd addr n done) = done ≡ 0
IsFresh _ = Unit {0}

-- Of what is open as the call says a write to a queue alone has moved a part before; and an open that has made its end of a FIFO
-- alone has done so much.
abbrev pub HasHalf : Files → ℕ → Call → ℕ → Type 0
HasHalf files pid (call.Write fd addr n done) moved = 0 < done → is_queue_in (opened_at files pid fd) ≡ true
HasHalf files pid (call.OpenFile path flags) moved = opening_at files pid ≡ None → moved ≡ 0
HasHalf files pid _ moved = Unit {0}

-- so many bytes of a call are moved before it runs, which of all calls a write alone counts
abbrev pub HasDone : Call → ℕ → Type 0
HasDone (call.Write fd addr n done) moved = moved ≡ done
HasDone _ moved = Unit {0}
