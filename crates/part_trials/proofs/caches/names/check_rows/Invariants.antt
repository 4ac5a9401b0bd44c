use Rattle.std.proofs.Common.{◌≤◌}
use Rattle.kheap_slabs.specs.Paid.{CanPay}
use Rattle.name_cache.specs.Names.{KeepsNames, HasNameFills}
use Rattle.part_trials.proofs.caches.names.check_rows.Given as goal

abbrev pub invariant-loop-k : goal.invariant-loop-k
invariant-loop-k g l = record { keeps : KeepsNames l.heap.names l.cache; pays : CanPay l.heap l.paid; fills : HasNameFills l.heap l.paid; few : l.paid.need.name ≤ 4 }
