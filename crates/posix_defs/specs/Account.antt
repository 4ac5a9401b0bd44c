-- What memory and queues take of the kernel heap, which the plain machine doesn't tell.
use Rattle.std.specs.Prelude.{ℕ, ◌+◌, ◌-◌, ◌*◌, ◌%◌, ◌==◌, nat_lt, Bool, if◌then◌else◌, List, [], ◌∷◌, drop, map, length, Option, None, Some, is_some, slice_index, take}
use Rattle.std.specs.List.{count_by, list_any, range_with_len, sum, sum_by}
use Rattle.kabi_types.specs.Class.{size}
use Rattle.kabi_types.specs.declared.classes.Class.TheVariants as class
use Rattle.posix_defs.specs.QueuePlace.{chunks_of}
use Rattle.posix_defs.specs.Memory.{Frames, boot_frames, frames_named, nodes_named, without_dead}
use Rattle.posix_defs.specs.Pipe.{Pipe}
use Rattle.posix_defs.specs.Socket.{Socket}
use Rattle.posix_defs.specs.Process.{is_alive, how_many}
use Rattle.posix_defs.specs.Plain.{Plain}
use Rattle.posix_defs.specs.Files.Descriptors.{Descriptors}
use Rattle.posix_defs.specs.Files.State.{Files}

-- the frames that pages name, and by their places the front of each pipe's and each socket's queue: where in its chunk of 512
-- bytes the first unread byte stands
pub record Account : Type 0 where
  pub frames : Frames
  pub pipes : List ℕ
  pub sockets : List ℕ

-- the first process has mapped nothing yet, and there is no queue
abbrev pub no_account : Account
no_account = record { frames = boot_frames; pipes = []; sockets = [] }

-- the account with other frames
abbrev pub with_frames : Account → Frames → Account
with_frames account frames = record account { frames = frames }

-- ---- queues

-- how many bytes of a pipe are unread; 0 where the pipe is gone
abbrev pub unread_in_pipe : Option Pipe → ℕ
unread_in_pipe None = 0
unread_in_pipe (Some pipe) = length pipe.bytes

-- how many bytes are unread in each pipe
abbrev pub pipe_lengths : Files → List ℕ
pipe_lengths files = map unread_in_pipe files.pipes

-- how many bytes a socket has still to read; 0 where the socket is gone
abbrev pub unread_in_socket : Option Socket → ℕ
unread_in_socket None = 0
unread_in_socket (Some socket) = length socket.bytes

-- how many bytes are unread in each socket
abbrev pub socket_lengths : Files → List ℕ
socket_lengths files = map unread_in_socket files.sockets

-- The front of a queue that had so many unread bytes and has so many now. An empty queue has its front at 0; one that is
-- shorter was read from, and its front has moved on within a chunk of 512; else it stays.
abbrev pub front_after : ℕ → ℕ → ℕ → ℕ
front_after old new front = if new == 0 then 0 else (if nat_lt new old then (front + (old - new)) % 512 else front)

-- the fronts of all queues, by their lengths before and after
abbrev pub fronts_after : List ℕ → List ℕ → List ℕ → List ℕ
fronts_after old new fronts =
    map (λ place. front_after (slice_index old place) (slice_index new place) (slice_index fronts place)) (range_with_len 0 (length new))

-- how many chunks queues of these lengths take, with these fronts
abbrev pub chunks_taken : List ℕ → List ℕ → ℕ
chunks_taken lengths fronts =
    sum (map (λ place. chunks_of (record { place = slice_index fronts place; len = slice_index lengths place })) (range_with_len 0 (length lengths)))

-- ---- going on

-- the frames without what processes held that have ended
abbrev pub forget_dead : Plain → Frames → Frames
forget_dead plain frames = without_dead (is_alive plain.table) frames

-- the account after the machine has gone on: processes that have ended hold no frame, and fronts follow from lengths
abbrev pub account_on : Plain → Plain → Account → Account
account_on old new account = record {
  frames = forget_dead new account.frames;
  pipes = fronts_after (pipe_lengths old.files) (pipe_lengths new.files) account.pipes;
  sockets = fronts_after (socket_lengths old.files) (socket_lengths new.files) account.sockets;
}

-- ---- the heap that is taken

-- by processes and their memory
abbrev pub memory_base : Plain → Frames → ℕ
memory_base plain frames =
    how_many plain.table * size class.Proc + nodes_named frames * size class.Node + frames_named frames * size class.Page

-- of 32 numbers from one on some is open
abbrev pub has_leaf : Descriptors → ℕ → Bool
has_leaf descriptors from = list_any is_some (take 32 (drop from descriptors))

-- The first 32 numbers of a process take no object of their own. Of those behind them each 32 take a Leaf where one is open.
abbrev pub leaves_of : Descriptors → ℕ
leaves_of descriptors = count_by (has_leaf descriptors) (32 ∷ 64 ∷ 96 ∷ [])

-- how many Leaves all processes take
abbrev pub leaves_open : Files → ℕ
leaves_open files = sum_by leaves_of files.descriptors

-- by descriptors, locks, descriptions, pipes, sockets and their queues
abbrev pub files_base : Files → Account → ℕ
files_base files account =
    leaves_open files * size class.Leaf + length files.locks * size class.Lock + count_by is_some files.descriptions * size class.Desc + count_by is_some files.pipes * size class.Pipe
    + count_by is_some files.sockets * size class.Sock
    + (chunks_taken (pipe_lengths files) account.pipes + chunks_taken (socket_lengths files) account.sockets) * size class.Chunk

-- by all of these
abbrev pub base : Plain → Account → ℕ
base plain account = memory_base plain account.frames + files_base plain.files account
