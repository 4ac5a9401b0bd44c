use Rattle.kheap_slabs.proofs.MeterLemmas.{IsMetered-boot, none_live}
use Rattle.kheap_slabs.proofs.kheap.KHeap.boot.Goals as goal

pub invariant_of-result : goal.invariant_of-result
invariant_of-result c =
    let locks = c.in_ok-locks.ensures in
    let memory = c.in_ok-memory.ensures in
    let files = c.in_ok-files.ensures in
    let queues = c.in_ok-queues.ensures in
    rw (memory.procs, memory.nodes, memory.pages, memory.leaves, files.descs, files.vnodes, files.names, files.blocks, queues.pipes, queues.chunks, queues.socks, locks, c.bytes.ensures) (IsMetered-boot c.args.heap c.requires.most)

pub returns-clause-live : goal.returns-clause-live
returns-clause-live c =
    let locks = c.in_ok-locks.ensures in
    let memory = c.in_ok-memory.ensures in
    let files = c.in_ok-files.ensures in
    let queues = c.in_ok-queues.ensures in
    rw (memory.procs, memory.nodes, memory.pages, memory.leaves, files.descs, files.vnodes, files.names, files.blocks, queues.pipes, queues.chunks, queues.socks, locks, c.bytes.ensures) (none_live c.args.heap)
