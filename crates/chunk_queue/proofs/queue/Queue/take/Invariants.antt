use Rattle.std.proofs.Common.{◌≡◌, ◌+◌, ◌-◌, ◌≤◌, drop}
use Rattle.kheap_slabs.specs.Paid.{TakesNothing}
use Rattle.posix_defs.specs.QueuePlace.{after_take}
use Rattle.chunk_queue.specs.Chained.{place_of, IsQueueIn, Turns, OnlyChunks, TakesOut}
use Rattle.chunk_queue.proofs.queue.Queue.take.Given as goal

abbrev pub invariant-pieces : goal.invariant-pieces
invariant-pieces l = record {
  within : l.done ≤ l.wanted;
  left : l.done + l.self.len ≡ l.fn.self.len;
  owned : IsQueueIn l.heap l.self;
  place : place_of l.self ≡ after_take (place_of l.fn.self) l.done;
  bytes : Turns l.fn.heap l.heap l.fn.self l.self (drop l.done);
  out : TakesOut l.fn.heap l.fn.self l.fn.out l.out 0 l.done;
  others : OnlyChunks l.fn.heap l.heap;
  takes : TakesNothing l.fn.heap l.heap;
}

abbrev pub decreases-pieces : goal.decreases-pieces
decreases-pieces l = l.wanted - l.done
