use Rattle.std.proofs.Common.{◌-◌, ◌≤◌, drop}
use Rattle.kheap_slabs.specs.Paid.{TakesNothing}
use Rattle.chunk_queue.specs.Chained.{IsQueueIn, Turns, OnlyChunks}
use Rattle.chunk_queue.proofs.queue.Queue.clear.Given as goal

abbrev pub invariant-pieces : goal.invariant-pieces
invariant-pieces l = record {
  less : l.self.len ≤ l.fn.self.len;
  owned : IsQueueIn l.heap l.self;
  bytes : Turns l.fn.heap l.heap l.fn.self l.self (drop (l.fn.self.len - l.self.len));
  others : OnlyChunks l.fn.heap l.heap;
  takes : TakesNothing l.fn.heap l.heap;
}

abbrev pub decreases-pieces : goal.decreases-pieces
decreases-pieces l = l.self.len
