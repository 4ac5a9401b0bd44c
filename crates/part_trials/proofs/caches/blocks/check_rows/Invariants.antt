use Rattle.std.proofs.Common.{◌≤◌}
use Rattle.kheap_slabs.specs.Paid.{CanPay}
use Rattle.block_cache.specs.Blocks.{KeepsBlocks, HasBlockFills}
use Rattle.part_trials.proofs.caches.blocks.check_rows.Given as goal

abbrev pub invariant-loop-k : goal.invariant-loop-k
invariant-loop-k g l = record { keeps : KeepsBlocks l.heap.blocks l.cache; pays : CanPay l.heap l.paid; fills : HasBlockFills l.heap l.paid; few : l.paid.need.block ≤ 4 }
