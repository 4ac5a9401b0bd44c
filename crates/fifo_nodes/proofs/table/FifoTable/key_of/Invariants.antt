use Rattle.kheap_slabs.specs.Objects.{count}
use Rattle.fifo_nodes.specs.Walking.{Seeks, chain_left}
use Rattle.fifo_nodes.proofs.table.FifoTable.key_of.Given as goal

abbrev pub invariant-chain : goal.invariant-chain
invariant-chain l = Seeks l.heap l.node l.at

abbrev pub decreases-chain : goal.decreases-chain
decreases-chain l = chain_left (count l.heap.pipes) l.heap l.at
