use Rattle.std.proofs.Common.{◌≡◌, None}
use Rattle.std.specs.Option.{option_map}
use Rattle.kheap_slabs.specs.Objects.{count}
use Rattle.posix_defs.specs.Locks.{Locks}
use Rattle.lock_table.specs.Chain.{IsLockChain, plain_of}
use Rattle.lock_table.specs.Holding.{asked_by, earliest}
use Rattle.lock_table.specs.Walking.{Walks, chain_left}
use Rattle.lock_table.proofs.table.LockTable.earliest.Given as goal

abbrev pub invariant-chain : goal.invariant-chain
invariant-chain l =
    (locks : Locks) → IsLockChain l.heap.locks l.self locks
    → Walks l.heap.locks l.at (λ rest. earliest l.pid l.node (asked_by l.range) (option_map plain_of l.first) rest ≡ earliest l.pid l.node (asked_by l.range) None locks)

abbrev pub decreases-chain : goal.decreases-chain
decreases-chain l = chain_left (count l.heap.locks) l.heap.locks l.at
