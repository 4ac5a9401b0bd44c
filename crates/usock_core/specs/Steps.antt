-- The steps that the calls are made of: a socket comes, goes, or is another one from now on.
use Rattle.std.specs.Prelude.{◌≡◌, ◌≢◌, ℕ, ◌+◌, ◌<◌, List, [], length, Option, None, Some}
use Rattle.kheap_slabs.specs.Objects.{object}
use Rattle.kheap_slabs.specs.Purse.{Purse}
use Rattle.kheap_slabs.specs.declared.objects.Sock.{Sock}
use Rattle.kheap_slabs.specs.Heap.{Heap}
use Rattle.kheap_slabs.specs.Owners.{OwnsItsObjects}
use Rattle.posix_defs.specs.QueuePlace.{QueuePlace, chunks_of, after_put}
use Rattle.posix_defs.specs.Socket.{Socket}
use Rattle.posix_defs.specs.Sockets.{Sockets, socket_at, with_socket}
use Rattle.chunk_queue.specs.Chained.{place_of}
use Rattle.usock_core.specs.Standing.{IsShape, IsTable, queue_at, OtherQueuesStay, LeavesOthers}

-- a key names a socket that has the queue of this one
pub record KeepsQueue (h : Heap) (key : ℕ) (now : Sock) : Type 0 where
  pub before : Sock
  pub there : object h.socks key ≡ Some before
  pub same : now.queue ≡ before.queue

-- a key names this socket from now on, whose bytes are made of those that it had
pub record Becomes (old new : Heap) (key : ℕ) (now : Sock) (next : List ℕ → List ℕ) : Type 0 where
  pub owns : OwnsItsObjects new
  pub others : LeavesOthers old new
  pub stored : object new.socks key ≡ Some now
  pub kept : (other : ℕ) → other ≢ key → object new.socks other ≡ object old.socks other
  pub table : (sockets : Sockets) (socket : Socket) → IsTable old sockets → IsShape now socket
      → socket.bytes ≡ next (socket_at sockets key).bytes → IsTable new (with_socket sockets key (Some socket))

-- a key that was free names this socket, which has no bytes
pub record Comes (old new : Heap) (key : ℕ) (now : Sock) : Type 0 where
  pub owns : OwnsItsObjects new
  pub others : LeavesOthers old new
  pub vacant : object old.socks key ≡ None
  pub within : key < length old.socks
  pub stored : object new.socks key ≡ Some now
  pub kept : (other : ℕ) → other ≢ key → object new.socks other ≡ object old.socks other
  pub table : (sockets : Sockets) (socket : Socket) → IsTable old sockets → IsShape now socket
      → socket.bytes ≡ [] → IsTable new (with_socket sockets key (Some socket))

-- a key names no socket any more
pub record Goes (old new : Heap) (key : ℕ) : Type 0 where
  pub owns : OwnsItsObjects new
  pub others : LeavesOthers old new
  pub gone : object new.socks key ≡ None
  pub kept : (other : ℕ) → other ≢ key → object new.socks other ≡ object old.socks other
  pub table : (sockets : Sockets) → IsTable old sockets → IsTable new (with_socket sockets key None)

-- the queue of a socket turns, which is the same else
pub record Turns (old new : Heap) (key : ℕ) (sock : Sock) (next : List ℕ → List ℕ) (place : QueuePlace) : Type 0 where
  pub now : Sock
  pub same : now ≡ record sock { queue = now.queue }
  pub place_is : place_of now.queue ≡ place
  pub becomes : Becomes old new key now next

-- what a write leaves of the peer that it goes to and of all others: the bytes stand behind the others, and the purse paid
-- for the chunks that they take; without a peer nothing is other than before
abbrev pub Sends : Heap → Purse → Heap → Purse → Option ℕ → ℕ → Type 0
Sends old before new after None count = (new ≡ old) × (after ≡ before)
Sends old before new after (Some peer) count =
    (queue_at new peer ≡ after_put (queue_at old peer) count) × OtherQueuesStay old new peer
    × (after.left.chunk + chunks_of (queue_at new peer) ≡ before.left.chunk + chunks_of (queue_at old peer))
