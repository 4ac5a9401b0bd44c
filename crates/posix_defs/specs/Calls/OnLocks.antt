-- The calls on record locks, `setlk`, `setlkw` and `getlk`, and who waits for whom.
use Rattle.std.specs.Prelude.{ℕ, zero, suc, ℤ, pos, ◌+◌, ◌&&◌, ◌||◌, Bool, true, false, if◌then◌else◌, List, [], ◌∷◌, Option, None, Some, is_none, Result, Ok, Err}
use Rattle.std.specs.List.{range_with_len}
use Rattle.kabi_types.specs.Arguments.{argument_fault, count_of, last_place}
use Rattle.kabi_types.specs.declared.calls.Call.{Call}
use Rattle.kabi_types.specs.declared.calls.Call.TheVariants as call
use Rattle.kabi_types.specs.declared.errnos.Errno.{Errno}
use Rattle.kabi_types.specs.declared.errnos.Errno.TheVariants.{EAGAIN, EBADF, EDEADLK, EINVAL}
use Rattle.kabi_types.specs.declared.replies.Reply.{Reply}
use Rattle.kabi_types.specs.declared.replies.Reply.TheVariants.{Val, Pair}
use Rattle.kabi_types.specs.declared.scripts.Script.{Script}
use Rattle.kabi_types.specs.declared.ranges.Kind.{Kind}
use Rattle.kabi_types.specs.declared.ranges.Kind.TheVariants.{Shared, Exclusive}
use Rattle.posix_defs.specs.Locks.{Lock, Locks, Request, after_set, first_in_way, stops}
use Rattle.posix_defs.specs.Tree.{Tree, is_directory}
use Rattle.posix_defs.specs.Process.{is_alive}
use Rattle.posix_defs.specs.Plain.{Plain, call_of, last_pid, with_files}
use Rattle.posix_defs.specs.Answer.{Answer, Blocked, failed, replied}
use Rattle.posix_defs.specs.Files.Descriptions.{Target, OnNode, OnPipe, OnSocket, Access, may_read, may_write}
use Rattle.posix_defs.specs.Files.State.{Files, with_locks}
use Rattle.posix_defs.specs.Calls.Opened.{Opened, on_open, opened_at}

-- ---- what is asked for

-- the kind of an operand: F_RDLCK 0, F_WRLCK 1, and of F_UNLCK 2 none, which lets go
abbrev pub kind_asked : ℕ → Option Kind
kind_asked zero = Some Shared
kind_asked (suc zero) = Some Exclusive
kind_asked (suc (suc _)) = None

-- the number of a kind
abbrev pub kind_told : Kind → ℕ
kind_told Shared = 0
kind_told Exclusive = 1

-- what the operands of a call ask for
abbrev pub request_of : ℤ → ℤ → ℤ → Request
request_of kind start length =
    record { kind = kind_asked (count_of kind); start = count_of start; last = last_place (count_of start) (count_of length) }

-- the node of a regular file; None of what is none
abbrev pub file_of : Tree → Target → Option ℕ
file_of tree (OnNode number) = if is_directory tree number then None else Some number
file_of tree (OnPipe place) = None
file_of tree (OnSocket place) = None

-- who may read may hold places with others, who may write alone; to let go takes neither
abbrev pub may_hold : Access → Option Kind → Bool
may_hold access None = true
may_hold access (Some Shared) = may_read access
may_hold access (Some Exclusive) = may_write access

-- the file of a request, or why it is refused: EINVAL of what is no regular file, EBADF where it isn't open for that
abbrev pub claim_of : Access → Option Kind → Option ℕ → Result ℕ Errno
claim_of access kind None = Err EINVAL
claim_of access kind (Some number) = if may_hold access kind then Ok number else Err EBADF

-- the same by what is open
abbrev pub claimed : Files → Opened → Option Kind → Result ℕ Errno
claimed files opened kind = claim_of opened.is.access kind (file_of files.tree opened.is.target)

-- ---- setlk

-- the process has the kind that it asks for at each place that it asks for
abbrev pub granted : Script → Plain → ℕ → ℕ → Request → Answer
granted script plain pid number asked =
    replied script (with_files plain (with_locks plain.files (after_set plain.files.locks pid number asked))) pid (Val (pos 0))

-- no lock of another is in the way of a request
abbrev pub is_clear : Locks → ℕ → ℕ → Request → Bool
is_clear locks pid number asked = is_none (first_in_way locks pid number asked)

-- a request is granted where nothing is in its way; else there is another answer
abbrev pub granted_or : Script → Plain → ℕ → Request → Answer → Result ℕ Errno → Answer
granted_or script plain pid asked stopped (Err errno) = failed script plain pid errno
granted_or script plain pid asked stopped (Ok number) =
    if is_clear plain.files.locks pid number asked then granted script plain pid number asked else stopped

-- EAGAIN where a lock of another is in the way (POSIX fcntl, F_SETLK)
unfoldable pub setlk : Script → Plain → ℕ → ℤ → ℤ → ℤ → ℤ → Answer
setlk script plain pid fd kind start length =
    let asked = request_of kind start length in
    on_open script plain pid fd (λ opened. granted_or script plain pid asked (failed script plain pid EAGAIN) (claimed plain.files opened asked.kind))

-- ---- who waits for whom

-- the file and the places for which a process would wait
pub record Wanted : Type 0 where
  pub node : ℕ
  pub asked : Request

-- the same of a request that isn't refused
abbrev pub wanted_of : Request → Result ℕ Errno → Option Wanted
wanted_of asked (Err errno) = None
wanted_of asked (Ok number) = Some (record { node = number; asked = asked })

-- the same of what is open
abbrev pub wanted_on : Files → Request → Option Opened → Option Wanted
wanted_on files asked None = None
wanted_on files asked (Some opened) = wanted_of asked (claimed files opened asked.kind)

-- what a process's call asks for, if it is one that waits for it and isn't refused before
abbrev pub wanted_by : Files → ℕ → Call → Option Wanted
wanted_by files pid (call.Setlkw fd kind start length) =
    if is_none (argument_fault (call.Setlkw fd kind start length)) then wanted_on files (request_of kind start length) (opened_at files pid fd) else None
wanted_by files pid _ = None

-- another process holds what is in the way of that
abbrev pub is_stopped_by : Locks → ℕ → ℕ → Option Wanted → Bool
is_stopped_by locks pid other None = false
is_stopped_by locks pid other (Some wanted) = stops locks pid wanted.node wanted.asked other

-- a process that is alive stands at a `setlkw`, and another holds what is in its way
unfoldable pub waits_for : Script → Plain → ℕ → ℕ → Bool
waits_for script plain pid other =
    is_alive plain.table pid && is_stopped_by plain.files.locks pid other (wanted_by plain.files pid (call_of script plain pid))

-- a chain of one wait or more leads from one to another, and whoever stands between them is one of these
abbrev pub leads : (ℕ → ℕ → Bool) → List ℕ → ℕ → ℕ → Bool
leads waits [] pid other = waits pid other
leads waits (between ∷ others) pid other =
    leads waits others pid other || (leads waits others pid between && leads waits others between other)

-- a chain of waits leads from a process back to itself
unfoldable pub circles : Script → Plain → ℕ → Bool
circles script plain pid = leads (waits_for script plain) (range_with_len 1 (last_pid plain)) pid pid

-- ---- setlkw

-- EDEADLK where who waits would wait for itself, through whomever; else the call blocks while a lock of another is in the way (POSIX
-- fcntl, F_SETLKW)
unfoldable pub setlkw : Script → Plain → ℕ → ℤ → ℤ → ℤ → ℤ → Answer
setlkw script plain pid fd kind start length =
    let asked = request_of kind start length in
    on_open script plain pid fd (λ opened.
    granted_or script plain pid asked (if circles script plain pid then failed script plain pid EDEADLK else Blocked) (claimed plain.files opened asked.kind))

-- ---- getlk

-- who holds the lock that is told, and with which kind; 0 and F_UNLCK where there is none
abbrev pub lock_told : Option Lock → Reply
lock_told None = Pair 0 2
lock_told (Some lock) = Pair lock.pid (kind_told lock.range.kind)

-- of a regular file the first lock that is in the way of a request; EINVAL of all else
abbrev pub told_of : Script → Plain → ℕ → Request → Option ℕ → Answer
told_of script plain pid asked None = failed script plain pid EINVAL
told_of script plain pid asked (Some number) = replied script plain pid (lock_told (first_in_way plain.files.locks pid number asked))

-- which lock of another is in the way (POSIX fcntl, F_GETLK)
unfoldable pub getlk : Script → Plain → ℕ → ℤ → ℤ → ℤ → ℤ → Answer
getlk script plain pid fd kind start length =
    on_open script plain pid fd (λ opened. told_of script plain pid (request_of kind start length) (file_of plain.files.tree opened.is.target))
