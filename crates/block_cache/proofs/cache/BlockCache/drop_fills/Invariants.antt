use Rattle.std.proofs.Common.{nat_eq, ◌≡◌, ◌+◌, length}
use Rattle.kheap_slabs.specs.Paid.{IsPaid}
use Rattle.lru_index.specs.Order.{order}
use Rattle.cache_laws.specs.Caches.{objects_without, pairs_without}
use Rattle.block_cache.specs.Blocks.{KeepsBlocks, HasBlockFills, with_blocks}
use Rattle.block_cache.proofs.cache.BlockCache.drop_fills.Given as goal

abbrev pub invariant-loop-self : goal.invariant-loop-self
invariant-loop-self l = record {
  keeps : KeepsBlocks l.heap.blocks l.self;
  fills : HasBlockFills l.heap l.purse;
  paid : IsPaid l.fn.heap l.fn.purse l.heap l.purse;
  heap : l.heap ≡ record l.fn.heap { blocks = l.heap.blocks };
  purse : l.purse ≡ with_blocks l.fn.purse l.purse.left.block l.purse.blocks;
  cache : l.self ≡ order l.self.pairs l.fn.self.capacity;
  left : l.purse.left.block + length l.purse.blocks ≡ l.fn.purse.left.block + length l.fn.purse.blocks;
  objects : objects_without l.purse.blocks l.heap.blocks ≡ objects_without l.fn.purse.blocks l.fn.heap.blocks;
  pairs : pairs_without nat_eq (λ b. b.number) l.purse.blocks l.heap.blocks l.self.pairs ≡ pairs_without nat_eq (λ b. b.number) l.fn.purse.blocks l.fn.heap.blocks l.fn.self.pairs;
}

abbrev pub decreases-loop-self : goal.decreases-loop-self
decreases-loop-self l = length l.purse.blocks
