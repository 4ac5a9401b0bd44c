-- The bytes of the queues that pipes and sockets of a heap have, and what a change of one leaves to the others.
use Rattle.std.specs.Prelude.{◌≡◌, ◌≢◌, ℕ, List, Option, Some}
use Rattle.std.specs.List.{Contains}
use Rattle.kheap_slabs.specs.Objects.{object, InUse}
use Rattle.kheap_slabs.specs.declared.objects.Chunk.{Chunk}
use Rattle.kheap_slabs.specs.declared.objects.Pipe.{Pipe}
use Rattle.kheap_slabs.specs.declared.objects.QueueParts.{QueueParts}
use Rattle.kheap_slabs.specs.declared.objects.Sock.{Sock}
use Rattle.kheap_slabs.specs.Heap.{Heap}
use Rattle.kheap_slabs.specs.Owners.{OwnsItsObjects}
use Rattle.kheap_slabs.specs.Queues.{OwnsChunks}
use Rattle.chunk_queue.specs.Chained.{owned, unread}

-- the queue of these parts has these unread bytes in the heap's chunks
pub record HasBytes (h : Heap) (parts : QueueParts) (bytes : List ℕ) : Type 0 where
  pub keys : List ℕ
  pub owns : OwnsChunks h.chunks (owned parts keys)
  pub has : unread h.chunks (owned parts keys) ≡ bytes

-- a pipe of the one heap has in the other the bytes that it had
abbrev pub PipeKeepsBytes : Heap → Heap → ℕ → Type 0
PipeKeepsBytes old new key = (pipe : Pipe) (bytes : List ℕ) → object old.pipes key ≡ Some pipe → HasBytes old pipe.queue bytes → HasBytes new pipe.queue bytes

-- and so a socket
abbrev pub SockKeepsBytes : Heap → Heap → ℕ → Type 0
SockKeepsBytes old new key = (sock : Sock) (bytes : List ℕ) → object old.socks key ≡ Some sock → HasBytes old sock.queue bytes → HasBytes new sock.queue bytes

-- whatever the queue's chunks are, every other chunk is as it was
abbrev pub KeepsChunksBut : List (Option Chunk) → List (Option Chunk) → QueueParts → Type 0
KeepsChunksBut old new queue =
    (keys : List ℕ) → OwnsChunks old (owned queue keys) → (key : ℕ) → InUse old key → (Contains keys key → ⊥) → object new key ≡ object old key

-- The pipe of a key has another queue now, whose bytes are made of those that it had. The heap's objects own what they
-- should, and all other queues have the bytes that they had.
pub record PipeTurns (old new : Heap) (key : ℕ) (queue now : QueueParts) (next : List ℕ → List ℕ) : Type 0 where
  pub owns : OwnsItsObjects new
  pub bytes : (bytes : List ℕ) → HasBytes old queue bytes → HasBytes new now (next bytes)
  pub chunks : KeepsChunksBut old.chunks new.chunks queue
  pub pipes : (other : ℕ) → other ≢ key → PipeKeepsBytes old new other
  pub socks : (other : ℕ) → SockKeepsBytes old new other

-- the same of a socket
pub record SockTurns (old new : Heap) (key : ℕ) (queue now : QueueParts) (next : List ℕ → List ℕ) : Type 0 where
  pub owns : OwnsItsObjects new
  pub bytes : (bytes : List ℕ) → HasBytes old queue bytes → HasBytes new now (next bytes)
  pub chunks : KeepsChunksBut old.chunks new.chunks queue
  pub pipes : (other : ℕ) → PipeKeepsBytes old new other
  pub socks : (other : ℕ) → other ≢ key → SockKeepsBytes old new other

-- The pipe of a key is gone with its queue. The heap's objects own what they should, and all other queues have the bytes
-- that they had.
pub record PipeGoes (old new : Heap) (key : ℕ) (queue : QueueParts) : Type 0 where
  pub owns : OwnsItsObjects new
  pub chunks : KeepsChunksBut old.chunks new.chunks queue
  pub pipes : (other : ℕ) → other ≢ key → PipeKeepsBytes old new other
  pub socks : (other : ℕ) → SockKeepsBytes old new other

-- the same of a socket
pub record SockGoes (old new : Heap) (key : ℕ) (queue : QueueParts) : Type 0 where
  pub owns : OwnsItsObjects new
  pub chunks : KeepsChunksBut old.chunks new.chunks queue
  pub pipes : (other : ℕ) → PipeKeepsBytes old new other
  pub socks : (other : ℕ) → other ≢ key → SockKeepsBytes old new other
