-- Which turns leave another process's call as likely to block as it was.
use Rattle.std.specs.Prelude.{ℕ, ◌≡◌, ◌==◌, ◌&&◌, ℤ, not, Bool, true, false, List, [], ◌∷◌, length, map, Option, None, Some}
use Rattle.std.specs.List.{list_any}
use Rattle.std.specs.Option.{option_map}
use Rattle.kabi_types.specs.declared.calls.Call.{Call}
use Rattle.kabi_types.specs.declared.calls.Call.TheVariants as call
use Rattle.kabi_types.specs.declared.replies.Reply.{Reply}
use Rattle.kabi_types.specs.declared.replies.Reply.TheVariants as reply
use Rattle.kabi_types.specs.declared.scripts.Script.{Script}
use Rattle.posix_defs.specs.Calls.Opened.{opened_at}
use Rattle.posix_defs.specs.Files.Descriptions.{Target, OnPipe, OnSocket}
use Rattle.posix_defs.specs.Files.State.{Files}
use Rattle.posix_defs.specs.Machine.{would_block}
use Rattle.posix_defs.specs.Pipe.{Pipe}
use Rattle.posix_defs.specs.Plain.{Plain, call_of}
use Rattle.posix_defs.specs.Process.{is_alive}
use Rattle.posix_defs.specs.declared.turner.Turned.{Turned}
use Rattle.posix_defs.specs.declared.turner.Turned.TheVariants as turned

-- the pipe of a FIFO
abbrev pub is_fifos : Option Pipe → Bool
is_fifos None = false
is_fifos (Some pipe) = not (pipe.node == 0)

-- no FIFO is open
abbrev pub no_fifo : Files → Bool
no_fifo files = not (list_any is_fifos files.pipes)

-- nobody holds a lock
abbrev pub no_lock : Files → Bool
no_lock files = length files.locks == 0

-- The calls that change nothing that another process's call may wait for: no queue, no child that is there, and of a description nothing but
-- its offset. An open may have opened a FIFO, unless none is open behind it.
abbrev pub wakes_nobody : Bool → Call → Bool
wakes_nobody no_fifo call.Getpid = true
wakes_nobody no_fifo call.Getppid = true
wakes_nobody no_fifo call.SchedYield = true
wakes_nobody no_fifo call.Fork = true
wakes_nobody no_fifo (call.Mmap length) = true
wakes_nobody no_fifo (call.Munmap addr length) = true
wakes_nobody no_fifo (call.Store addr bytes) = true
wakes_nobody no_fifo (call.Load addr n) = true
wakes_nobody no_fifo (call.OpenFile path flags) = no_fifo
wakes_nobody no_fifo (call.Dup fd) = true
wakes_nobody no_fifo (call.Pread fd addr n at) = true
wakes_nobody no_fifo (call.Pwrite fd addr n at) = true
wakes_nobody no_fifo (call.Lseek fd offset whence) = true
wakes_nobody no_fifo (call.Readdir fd addr n) = true
wakes_nobody no_fifo (call.Ftruncate fd length) = true
wakes_nobody no_fifo (call.Fstat fd) = true
wakes_nobody no_fifo (call.Stat path) = true
wakes_nobody no_fifo (call.Chdir path) = true
wakes_nobody no_fifo (call.Mkdir path) = true
wakes_nobody no_fifo (call.Rmdir path) = true
wakes_nobody no_fifo (call.Unlink path) = true
wakes_nobody no_fifo (call.Link old new) = true
wakes_nobody no_fifo (call.Rename old new) = true
wakes_nobody no_fifo call.Pipe = true
wakes_nobody no_fifo call.Socket = true
wakes_nobody no_fifo (call.Bind fd path) = true
wakes_nobody no_fifo (call.Poll timeout entries) = true
wakes_nobody no_fifo (call.Signal signal disposition) = true
wakes_nobody no_fifo (call.Mkfifo path) = true
wakes_nobody no_fifo (call.Getlk fd kind start size) = true
wakes_nobody no_fifo _ = false

-- what a call that failed was told
abbrev pub is_failure : Reply → Bool
is_failure (reply.Fail errno) = true
is_failure _ = false

-- A turn that came to this wakes nobody: it did nothing, it failed, or its call is one that changes nothing of the kind. It counts whether
-- a FIFO is open behind it, and whether a lock is held: who waits for one waits by what others call next, so each that goes on may wake it.
abbrev pub passes_by : Bool → Bool → Call → Turned → Bool
passes_by no_fifo no_lock which turned.Sleep = true
passes_by no_fifo no_lock which turned.Gone = true
passes_by no_fifo no_lock which (turned.Done (reply.Fail errno)) = no_lock
passes_by no_fifo no_lock which (turned.Done told) = no_lock && wakes_nobody no_fifo which
passes_by no_fifo no_lock which _ = false

-- the call didn't end its caller
abbrev pub Lasts : Turned → Type 0
Lasts told = (status : ℕ) → told ≡ turned.Ended status → ⊥

-- of these the calls that give their caller a number
abbrev pub gives_number : Call → Bool
gives_number (call.OpenFile path flags) = true
gives_number (call.Dup fd) = true
gives_number call.Pipe = true
gives_number call.Socket = true
gives_number _ = false

-- the number through which a call moves bytes, of a file or of a queue
abbrev pub moves_through : Call → Option ℤ
moves_through (call.Read fd addr n) = Some fd
moves_through (call.Write fd addr n done) = Some fd
moves_through _ = None

-- ---- what a process waits for

-- what a number of a process is open on; None where it isn't
abbrev pub target_at : Files → ℕ → ℤ → Option Target
target_at files pid fd = option_map (λ opened. opened.is.target) (opened_at files pid fd)

-- the numbers of which it depends whether a call blocks
abbrev pub awaited : Call → List ℤ
awaited (call.Read fd addr n) = fd ∷ []
awaited (call.Write fd addr n done) = fd ∷ []
awaited (call.Accept fd) = fd ∷ []
awaited (call.Poll timeout entries) = map (λ entry. entry.fd) entries
awaited _ = []

-- To move bytes of the one may change what is told of the other: both are the same pipe, or they are sockets.
abbrev pub meet : Option Target → Option Target → Bool
meet (Some (OnPipe place)) (Some (OnPipe other)) = place == other
meet (Some (OnSocket place)) (Some (OnSocket other)) = true
meet _ _ = false

-- what a process's next call waits for has nothing to do with what a number of another is open on
abbrev pub is_apart : Script → Plain → ℕ → ℕ → ℤ → Bool
is_apart script plain who pid fd =
    not (list_any (λ other. meet (target_at plain.files pid fd) (target_at plain.files who other)) (awaited (call_of script plain who)))

-- ---- what a turn leaves of another process

-- It is alive still, makes the same call next, and has its numbers open on what they were open on.
pub record StaysItself (script : Script) (who : ℕ) (old new : Plain) : Type 0 where
  pub lives : is_alive new.table who ≡ is_alive old.table who
  pub asks : call_of script new who ≡ call_of script old who
  pub opens : (fd : ℤ) → target_at new.files who fd ≡ target_at old.files who fd

-- The same, and its next call would block exactly where it would have before.
pub record StaysAsItWas (script : Script) (who : ℕ) (old new : Plain) : Type 0 where
  pub itself : StaysItself script who old new
  pub waits : would_block script new who ≡ would_block script old who
