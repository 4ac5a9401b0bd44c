-- What every machine that is reached keeps of files.
use Rattle.std.specs.Prelude.{ℕ, ◌+◌, ◌<◌, ◌≤◌, ◌^◌, ◌≡◌, ◌≢◌, ◌==◌, ◌&&◌, ◌||◌, pos, Bool, true, false, not, List, [], ◌∷◌, length, Option, None, Some, is_some}
use Rattle.std.specs.List.{All, count_by, list_any}
use Rattle.kabi_types.specs.Arguments.{most_descriptors}
use Rattle.kabi_types.specs.declared.calls.Call.{Call}
use Rattle.kabi_types.specs.declared.calls.Call.TheVariants as call
use Rattle.kabi_types.specs.declared.scripts.Script.{Script}
use Rattle.kabi_types.specs.Ranges.{AreApart, IsCanonical}
use Rattle.posix_defs.specs.Locks.{ranges_of}
use Rattle.posix_defs.specs.Pipe.{Pipe, capacity, opens_of}
use Rattle.posix_defs.specs.SocketLinks.{AreLinked, AreHeld, NoneTwice}
use Rattle.posix_defs.specs.Sockets.{sock_at, socket_at}
use Rattle.posix_defs.specs.Tree.{is_in_use, is_directory, links_at}
use Rattle.posix_defs.specs.IsTree.{IsTree}
use Rattle.posix_defs.specs.PathCalls.{is_fifo, is_socket}
use Rattle.posix_defs.specs.Process.{is_alive, directory_of}
use Rattle.posix_defs.specs.Plain.{Plain, call_of, control_of, last_pid}
use Rattle.posix_defs.specs.Files.Descriptors.{Descriptor, is_named, none_open}
use Rattle.posix_defs.specs.Files.Descriptions.{Target, OnNode, OnPipe, OnSocket, Access, ReadOnly, ReadWrite, Description, Descriptions, description_at, may_read, may_write}
use Rattle.posix_defs.specs.Files.State.{Files, HalfOpen, beside, descriptors_of, is_number, opened_file, opening_at, opens, pipe_at, pipe_there}
use Rattle.posix_defs.specs.Calls.Opened.{Opened, opened_at}

-- ---- ends of pipes

-- it is an end of the pipe of this place
abbrev pub is_pipe : ℕ → Target → Bool
is_pipe place (OnNode number) = false
is_pipe place (OnPipe other) = other == place
is_pipe place (OnSocket other) = false

-- the description is open on a pipe's read end
abbrev pub is_read_end : ℕ → Option Description → Bool
is_read_end place None = false
is_read_end place (Some description) = is_pipe place description.target && may_read description.access

-- the description is open on a pipe's write end
abbrev pub is_write_end : ℕ → Option Description → Bool
is_write_end place None = false
is_write_end place (Some description) = is_pipe place description.target && may_write description.access

-- A pipe that is there has as many readers and writers as descriptions are open on its ends, and some of them.
pub record IsPipeOf (descriptions : Descriptions) (place : ℕ) (pipe : Pipe) : Type 0 where
  pub readers : pipe.readers ≡ count_by (is_read_end place) descriptions
  pub writers : pipe.writers ≡ count_by (is_write_end place) descriptions
  pub some_end : 0 < pipe.readers + pipe.writers
  pub room : length pipe.bytes ≤ capacity
  pub bytes : All (λ byte. byte < 2 ^ 8) pipe.bytes
  -- the bytes that nobody can read are dropped
  pub unread : pipe.readers ≡ 0 → pipe.bytes ≡ []

-- ---- targets

-- What a description is open on is there: a file, or a directory for reading alone; one end of a pipe, a FIFO's too; a socket.
abbrev pub IsTarget : Files → Access → Target → Type 0
IsTarget files access (OnNode number) =
    (is_in_use files.tree number ≡ true) × (is_socket files.tree number ≡ false) × (is_fifo files.tree number ≡ false)
    × (is_directory files.tree number ≡ true → access ≡ ReadOnly)
IsTarget files access (OnPipe place) = (is_some (pipe_there files place) ≡ true) × (access ≢ ReadWrite)
IsTarget files access (OnSocket place) = (is_some (sock_at files.sockets place) ≡ true) × (access ≡ ReadWrite)

-- the place of the socket that a target is, if it is one
abbrev pub socket_of : Target → Option ℕ
socket_of (OnNode number) = None
socket_of (OnPipe place) = None
socket_of (OnSocket place) = Some place

-- the place of the socket that a description is open on, if it is open on one
abbrev pub socket_in : Option Description → Option ℕ
socket_in None = None
socket_in (Some description) = socket_of description.target

-- the sockets that descriptions name
abbrev pub named_sockets : Descriptions → List ℕ
named_sockets [] = []
named_sockets (description ∷ descriptions) = beside (socket_in description) (named_sockets descriptions)

-- ---- FIFOs

-- Of FIFOs: a pipe that is one's is that of a FIFO in use, and of no other pipe's.
pub record AreFifos (files : Files) : Type 0 where
  pub nodes : (place : ℕ) (pipe : Pipe) → pipe_there files place ≡ Some pipe → pipe.node ≢ 0 → is_fifo files.tree pipe.node ≡ true
  pub alone : (place other : ℕ) (pipe second : Pipe) → pipe_there files place ≡ Some pipe → pipe_there files other ≡ Some second → pipe.node ≢ 0
      → pipe.node ≡ second.node → place ≡ other

-- the call is an `open`
abbrev pub is_open : Call → Bool
is_open (call.OpenFile path flags) = true
is_open _ = false

-- the call is an `open` of a process that has made its end of a FIFO already
abbrev pub is_half_open : Files → ℕ → Call → Bool
is_half_open files pid call = is_open call && is_some (opening_at files pid)

-- Who waits for the other side of a FIFO has its descriptor open on an end of that FIFO's pipe, whose other side was opened as often
-- as before, or more often.
pub record IsHalfOpen (files : Files) (pid : ℕ) (opening : HalfOpen) : Type 0 where
  pub opened : Opened
  pub named : opened_at files pid (pos opening.fd) ≡ Some opened
  pub place : ℕ
  pub target : opened.is.target ≡ OnPipe place
  pub fifo : (pipe_at files place).node ≢ 0
  pub seen : opening.seen ≤ opens_of (pipe_at files place) (not (may_write opened.is.access))

-- ---- record locks

-- the descriptor is open on this file
abbrev pub opens_by : Files → ℕ → Option Descriptor → Bool
opens_by files number None = false
opens_by files number (Some descriptor) = is_number number (opened_file (description_at files.descriptions descriptor.description))

-- a process has this file open
abbrev pub has_open : Files → ℕ → ℕ → Bool
has_open files pid number = list_any (opens_by files number) (descriptors_of files pid)

-- Of locks: what a process holds of a file lies apart, and is one range where it touches; no two processes hold a place that they can't
-- both hold so; who holds some of a file has it open, and it is no directory.
pub record AreLocks (held : Files) : Type 0 where
  pub canonical : (pid number : ℕ) → IsCanonical (ranges_of held.locks pid number)
  pub apart : (pid other number : ℕ) → pid ≢ other → AreApart (ranges_of held.locks pid number) (ranges_of held.locks other number)
  pub opened : (pid number : ℕ) → ranges_of held.locks pid number ≢ [] → has_open held pid number ≡ true
  pub files : (pid number : ℕ) → ranges_of held.locks pid number ≢ [] → is_directory held.tree number ≡ false

-- ---- half-done writes

-- it is a pipe or a socket, in which a write may put a part
abbrev pub is_queue : Target → Bool
is_queue (OnNode number) = false
is_queue (OnPipe place) = true
is_queue (OnSocket place) = true

-- something is open, and it is a pipe or a socket
abbrev pub is_queue_in : Option Opened → Bool
is_queue_in None = false
is_queue_in (Some opened) = is_queue opened.is.target

-- the call is a `write` by a descriptor that the process has open on a pipe or a socket
abbrev pub is_write_of : Files → ℕ → Call → Bool
is_write_of files pid (call.Write fd addr n done) = is_queue_in (opened_at files pid fd)
is_write_of files pid _ = false

-- ---- all of it

-- Of the numbers of descriptors: each process has as many; those of one that has ended are closed, and it waits for no other side.
pub record HasPlaces (plain : Plain) : Type 0 where
  pub counted : length plain.files.descriptors ≡ last_pid plain
  pub places : (pid : ℕ) → length (descriptors_of plain.files pid) ≡ most_descriptors
  pub ended : (pid : ℕ) → is_alive plain.table pid ≡ false → descriptors_of plain.files pid ≡ none_open
  pub openings : length plain.files.openings ≡ last_pid plain

-- Of descriptions: what is named is there, what is there is named, and what it is open on is there.
pub record AreNamed (files : Files) : Type 0 where
  pub named : (place : ℕ) → is_named files.descriptors place ≡ true → is_some (description_at files.descriptions place) ≡ true
  pub there : (place : ℕ) → is_some (description_at files.descriptions place) ≡ true → is_named files.descriptors place ≡ true
  pub targets : (place : ℕ) (description : Description) → description_at files.descriptions place ≡ Some description
      → IsTarget files description.access description.target

-- Of sockets: they are linked; each is named by one description or waits; and who is bound is bound to a socket's name, which
-- nobody else is bound to.
pub record AreSockets (files : Files) : Type 0 where
  pub linked : AreLinked files.sockets
  pub held : AreHeld files.sockets (named_sockets files.descriptions)
  pub once : NoneTwice (named_sockets files.descriptions)
  pub bound : (place number : ℕ) → (socket_at files.sockets place).node ≡ Some number → is_socket files.tree number ≡ true
  pub alone : (place other number : ℕ) → (socket_at files.sockets place).node ≡ Some number → (socket_at files.sockets other).node ≡ Some number → place ≡ other

-- All that is open, pipes, sockets, the tree and the working directories of a machine that is reached go together.
pub record IsWhole (script : Script) (plain : Plain) : Type 0 where
  pub places : HasPlaces plain
  pub named : AreNamed plain.files
  pub pipes : (place : ℕ) (pipe : Pipe) → pipe_there plain.files place ≡ Some pipe → IsPipeOf plain.files.descriptions place pipe
  pub sockets : AreSockets plain.files
  pub fifos : AreFifos plain.files
  pub locks : AreLocks plain.files
  -- who stands at an open that it has begun waits for the other side
  pub openings : (pid : ℕ) (opening : HalfOpen) → is_alive plain.table pid ≡ true → 0 < (control_of plain pid).done
      → is_open (call_of script plain pid) ≡ true → opening_at plain.files pid ≡ Some opening → IsHalfOpen plain.files pid opening
  pub tree : IsTree plain.files.tree
  -- a node without links is a file or a FIFO that some description opens
  pub unlinked : (number : ℕ) → is_in_use plain.files.tree number ≡ true → links_at plain.files.tree number ≡ 0 → opens plain.files number ≡ true
  -- who is alive works in a directory that is there
  pub directories : (pid : ℕ) → is_alive plain.table pid ≡ true → is_directory plain.files.tree (directory_of plain.table pid) ≡ true
  -- who has done a part of a call stands at a write to a pipe or a socket, or at the open of a FIFO that has made its end
  pub half_done : (pid : ℕ) → is_alive plain.table pid ≡ true → 0 < (control_of plain pid).done
      → (is_write_of plain.files pid (call_of script plain pid) || is_half_open plain.files pid (call_of script plain pid)) ≡ true
