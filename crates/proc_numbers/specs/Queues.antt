-- Where the bytes of queues stand, and the fronts that the account has of them.
use Rattle.std.specs.Prelude.{ℕ, ◌≡◌, ◌<◌, Some}
use Rattle.chunk_queue.specs.Chained.{place_of}
use Rattle.kheap_slabs.specs.Objects.{object}
use Rattle.kheap_slabs.specs.declared.objects.Pipe.{Pipe}
use Rattle.kheap_slabs.specs.Heap.{Heap}
use Rattle.posix_defs.specs.Account.{Account, fronts_after, pipe_lengths, socket_lengths}
use Rattle.posix_defs.specs.Files.State.{Files}
use Rattle.usock_core.specs.Standing.{QueuesStay}

-- Each pipe and each socket that has bytes has those that it had, where they stood.
pub record QueuesStand (old new : Heap) : Type 0 where
  pub pipes : (key : ℕ) (pipe : Pipe) → object new.pipes key ≡ Some pipe → 0 < pipe.queue.len
      → (was : Pipe) × (object old.pipes key ≡ Some was) × (place_of was.queue ≡ place_of pipe.queue)
  pub socks : QueuesStay old new

-- the account once these files have become those
abbrev pub fronts_on : Files → Files → Account → Account
fronts_on old new account = record account {
  pipes = fronts_after (pipe_lengths old) (pipe_lengths new) account.pipes;
  sockets = fronts_after (socket_lengths old) (socket_lengths new) account.sockets;
}
