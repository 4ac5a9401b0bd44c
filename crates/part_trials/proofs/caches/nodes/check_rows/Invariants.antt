use Rattle.std.proofs.Common.{◌≤◌}
use Rattle.kheap_slabs.specs.Paid.{CanPay}
use Rattle.vnode_cache.specs.Calls.{HasNodeFills}
use Rattle.vnode_cache.specs.Nodes.{KeepsNodes}
use Rattle.part_trials.proofs.caches.nodes.check_rows.Given as goal

abbrev pub invariant-loop-k : goal.invariant-loop-k
invariant-loop-k g l = record { keeps : KeepsNodes l.heap.vnodes l.cache; pays : CanPay l.heap l.paid; fills : HasNodeFills l.heap l.paid; few : l.paid.need.vnode ≤ 4 }
