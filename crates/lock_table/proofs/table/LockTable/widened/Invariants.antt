use Rattle.std.proofs.Common.{◌≡◌}
use Rattle.kheap_slabs.specs.Objects.{count}
use Rattle.posix_defs.specs.Locks.{Locks}
use Rattle.lock_table.specs.Chain.{IsLockChain}
use Rattle.lock_table.specs.Setting.{widened}
use Rattle.lock_table.specs.Walking.{Walks, chain_left}
use Rattle.lock_table.proofs.table.LockTable.widened.Given as goal

abbrev pub invariant-chain : goal.invariant-chain
invariant-chain l =
    (locks : Locks) → IsLockChain l.heap.locks l.self locks
    → Walks l.heap.locks l.at (λ rest. widened l.pid l.node l.asked l.wide rest ≡ widened l.pid l.node l.asked l.asked locks)

abbrev pub decreases-chain : goal.decreases-chain
decreases-chain l = chain_left (count l.heap.locks) l.heap.locks l.at
