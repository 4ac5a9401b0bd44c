-- When a pipe of the heap stands for a plain one, and what a call on it leaves as it was.
use Rattle.std.specs.Prelude.{◌≡◌, ◌≢◌, ◌==◌, ℕ, ◌<◌, ◌≤◌, Bool, List, [], ◌∷◌, Some, length, if◌then◌else◌}
use Rattle.posix_defs.specs.Pipe.{Pipe, capacity}
pub use Rattle.posix_defs.specs.Pipe.{ends_of}
use Rattle.posix_defs.specs.QueuePlace.{QueuePlace}
use Rattle.kheap_slabs.specs.Objects.{object}
use Rattle.kheap_slabs.specs.declared.objects.Pipe.{Pipe as HeldPipe}
use Rattle.kheap_slabs.specs.Heap.{Heap}
use Rattle.kheap_slabs.specs.Outside.{KeepsOutside}
use Rattle.chunk_queue.specs.Chained.{place_of}
use Rattle.chunk_queue.specs.Held.{HasBytes, KeepsChunksBut, PipeKeepsBytes, SockKeepsBytes, PipeTurns}

-- the pipe of a key stands for a plain one whose first unread byte is at this place of its chunk
pub record StandsFor (h : Heap) (key : ℕ) (pipe : Pipe) (at : ℕ) : Type 0 where
  pub held : HeldPipe
  pub there : object h.pipes key ≡ Some held
  pub bytes : HasBytes h held.queue pipe.bytes
  pub len : held.queue.len ≡ length pipe.bytes
  pub place : held.queue.place ≡ at
  pub readers : held.readers ≡ pipe.readers
  pub writers : held.writers ≡ pipe.writers
  pub node : held.node ≡ pipe.node
  pub read_opens : held.read_opens ≡ pipe.read_opens
  pub write_opens : held.write_opens ≡ pipe.write_opens
  pub within : length pipe.bytes ≤ capacity

-- the key is a pipe's
abbrev pub IsPipeAt : Heap → ℕ → Type 0
IsPipeAt h key = (pipe : Pipe) × (at : ℕ) × StandsFor h key pipe at

-- the account of a pipe's queue
abbrev pub account : Pipe → ℕ → QueuePlace
account pipe at = record { place = at; len = length pipe.bytes }

-- a queue without bytes begins at its chunk's front
abbrev pub place_with : List ℕ → ℕ → ℕ
place_with bytes at = if length bytes == 0 then 0 else at

-- and has an end of this side
abbrev pub HasEndAt : Heap → ℕ → Bool → Type 0
HasEndAt h key writing = (pipe : Pipe) × (at : ℕ) × StandsFor h key pipe at × (0 < ends_of pipe writing)

-- Nothing but this pipe and its chunks is other than before, and every other pipe and socket has the bytes that it had.
pub record LeavesOthers (old new : Heap) (key : ℕ) : Type 0 where
  pub kept : new ≡ record old { pipes = new.pipes; chunks = new.chunks; high = new.high }
  pub objects : KeepsOutside (key ∷ []) old.pipes new.pipes
  pub pipes : (other : ℕ) → other ≢ key → PipeKeepsBytes old new other
  pub socks : (other : ℕ) → SockKeepsBytes old new other
  pub chunks : (held : HeldPipe) → object old.pipes key ≡ Some held → KeepsChunksBut old.chunks new.chunks held.queue

-- The pipe of a key has another queue and other counts of its ends now. The bytes are made of those that it had.
pub record Turned (old new : Heap) (key : ℕ) (pipe : HeldPipe) (next : List ℕ → List ℕ) (place : QueuePlace) (readers writers : ℕ) : Type 0 where
  pub now : HeldPipe
  pub stored : object new.pipes key ≡ Some now
  pub place_is : place_of now.queue ≡ place
  pub readers_are : now.readers ≡ readers
  pub writers_are : now.writers ≡ writers
  pub fifo : now ≡ record pipe { queue = now.queue; readers = now.readers; writers = now.writers }
  pub turns : PipeTurns old new key pipe.queue now.queue next
  pub kept : new ≡ record old { pipes = new.pipes; chunks = new.chunks; high = new.high }
  pub objects : KeepsOutside (key ∷ []) old.pipes new.pipes
