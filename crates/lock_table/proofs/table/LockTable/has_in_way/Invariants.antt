use Rattle.std.proofs.Common.{◌≡◌}
use Rattle.kheap_slabs.specs.Objects.{count}
use Rattle.posix_defs.specs.Locks.{Locks, stops}
use Rattle.lock_table.specs.Chain.{IsLockChain}
use Rattle.lock_table.specs.Holding.{asked_by}
use Rattle.lock_table.specs.Walking.{Walks, chain_left}
use Rattle.lock_table.proofs.table.LockTable.has_in_way.Given as goal

abbrev pub invariant-chain : goal.invariant-chain
invariant-chain l =
    (locks : Locks) → IsLockChain l.heap.locks l.self locks
    → Walks l.heap.locks l.at (λ rest. stops rest l.pid l.node (asked_by l.range) l.by ≡ stops locks l.pid l.node (asked_by l.range) l.by)

abbrev pub decreases-chain : goal.decreases-chain
decreases-chain l = chain_left (count l.heap.locks) l.heap.locks l.at
