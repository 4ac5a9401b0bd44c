use Rattle.std.proofs.Common.{◌≡◌, ◌+◌, ◌-◌, ◌%◌, ◌<◌, ◌≤◌, ◌++◌, length, take}
use Rattle.kabi_types.specs.declared.classes.Class.TheVariants as class
use Rattle.kabi_types.specs.Counts.{counted}
use Rattle.kheap_slabs.specs.Paid.{CanPay, IsPaid}
use Rattle.posix_defs.specs.QueuePlace.{chunks_of, after_put}
use Rattle.chunk_queue.specs.Chained.{place_of, IsQueueIn, Turns, OnlyChunks, PaysChunks}
use Rattle.chunk_queue.proofs.queue.Queue.put.Given as goal

abbrev pub invariant-pieces : goal.invariant-pieces
invariant-pieces l = record {
  within : l.done ≤ length l.bytes;
  owned : IsQueueIn l.heap l.self;
  full : l.done < length l.bytes → (l.self.place + l.self.len) % 512 ≡ 0;
  place : place_of l.self ≡ after_put (place_of l.fn.self) l.done;
  bytes : Turns l.fn.heap l.heap l.fn.self l.self (λ old. old ++ take l.done l.bytes);
  others : OnlyChunks l.fn.heap l.heap;
  pays : CanPay l.heap l.purse;
  paid : IsPaid l.fn.heap l.fn.purse l.heap l.purse;
  purse : PaysChunks l.fn.purse l.purse;
  spent : counted l.purse.left class.Chunk + chunks_of (place_of l.self) ≡ counted l.fn.purse.left class.Chunk + chunks_of (place_of l.fn.self);
}

abbrev pub decreases-pieces : goal.decreases-pieces
decreases-pieces l = length l.bytes - l.done
