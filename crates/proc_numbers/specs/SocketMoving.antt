-- What a read and a write of a socket leave.
use Rattle.std.specs.Prelude.{ℕ, ◌≡◌, ◌≤◌, List, [], Option, take}
use Rattle.kheap_slabs.specs.Purse.{Purse}
use Rattle.kheap_slabs.specs.Heap.{Heap}
use Rattle.kheap_slabs.specs.Paid.{TakesNothing}
use Rattle.page_space.specs.Putting.{Puts}
use Rattle.posix_defs.specs.QueuePlace.{after_take}
use Rattle.posix_defs.specs.Sockets.{Sockets, after_read, after_write, socket_at}
use Rattle.usock_core.specs.Standing.{OtherQueuesStay, StandsFor as SocketsStandFor, queue_at}
use Rattle.proc_numbers.specs.Owning.{SocketsChange}

-- The first k bytes that a socket was to read were taken out of its queue, and then put in memory.
pub record ReadsSocket (old : Heap) (before : Purse) (new : Heap) (after : Purse) (space : List (Option ℕ)) (key start : ℕ) (sockets : Sockets) (k : ℕ) : Type 0 where
  -- the heap without them
  pub mid : Heap
  pub change : SocketsChange old mid []
  pub takes : TakesNothing old mid
  pub stands : SocketsStandFor mid (after_read sockets key k)
  pub place : queue_at mid key ≡ after_take (queue_at old key) k
  pub others : OtherQueuesStay old mid key
  pub puts : Puts mid before new after space start (take k (socket_at sockets key).bytes)

-- The first k of these bytes went to the socket's peer. No queue has its front elsewhere, nor fewer bytes.
pub record WritesSocket (old new : Heap) (key : ℕ) (sockets : Sockets) (bytes : List ℕ) (k : ℕ) : Type 0 where
  pub stands : SocketsStandFor new (after_write sockets key bytes k)
  pub queues : (other : ℕ) → ((queue_at new other).place ≡ (queue_at old other).place) × ((queue_at old other).len ≤ (queue_at new other).len)
