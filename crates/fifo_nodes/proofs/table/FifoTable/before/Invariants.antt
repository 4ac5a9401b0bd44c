use Rattle.kheap_slabs.specs.Objects.{count}
use Rattle.fifo_nodes.specs.Walking.{Walks, chain_left}
use Rattle.fifo_nodes.proofs.table.FifoTable.before.Given as goal

abbrev pub invariant-chain : goal.invariant-chain
invariant-chain l = Walks l.heap l.self l.key l.before l.at

abbrev pub decreases-chain : goal.decreases-chain
decreases-chain l = chain_left (count l.heap.pipes) l.heap l.at
