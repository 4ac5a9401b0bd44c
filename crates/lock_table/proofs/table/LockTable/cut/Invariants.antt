use Rattle.std.proofs.Common.{◌≡◌}
use Rattle.kheap_slabs.specs.Objects.{count}
use Rattle.kheap_slabs.specs.Paid.{TakesNothing}
use Rattle.posix_defs.specs.Locks.{Locks}
use Rattle.lock_table.specs.Chain.{IsLockChain}
use Rattle.lock_table.specs.Walking.{Cuts, chain_left}
use Rattle.lock_table.proofs.table.LockTable.cut.Given as goal

abbrev pub invariant-chain : goal.invariant-chain
invariant-chain l = record {
  cuts : (locks : Locks) → IsLockChain l.initial.heap.locks l.fn.self locks
      → Cuts l.heap.locks (count l.initial.heap.locks) l.first l.at l.over l.pid l.node l.start l.last locks;
  kept : l.heap ≡ record l.initial.heap { locks = l.heap.locks };
  takes : TakesNothing l.initial.heap l.heap;
}

abbrev pub decreases-chain : goal.decreases-chain
decreases-chain l = chain_left (count l.initial.heap.locks) l.heap.locks l.at
