use Rattle.std.proofs.Common.{ap}
use Rattle.kheap_slabs.specs.Objects.{InUse}
use Rattle.kheap_slabs.specs.Heap.{Heap}
use Rattle.kheap_slabs.proofs.ObjectLemmas.{object_of, InUse-put}
use Rattle.kheap_slabs.specs.Metered.{heap_of}
use Rattle.kheap_slabs.proofs.MeterLemmas.{IsMetered-proc}
use Rattle.kheap_slabs.proofs.kheap.KHeap.set_proc_opening.Goals as goal

pub invariant_of-self : goal.invariant_of-self
invariant_of-self c =
    let there = object_of c.self.inside.memory.procs c.args.key (rw (ap (λ (h : Heap). h.procs) c.self.view_is) c.requires) in
    IsMetered-proc (heap_of c.self.inside) c.self.inside.meter.live c.args.key c.set_opening.new.self there.0 (record there.0 { opening = c.args.opening }) c.self.invariant there.1 (c.self.invariant.well_formed.descriptors c.args.key there.0 there.1) (c.self.invariant.well_formed.spaces c.args.key there.0 there.1) (c.self.invariant.well_formed.leaves c.args.key there.0 there.1) (c.set_opening.ensures.kept there.0 there.1)

pub returns-clause-stays : goal.returns-clause-stays
returns-clause-stays c =
    let used : InUse c.self.inside.memory.procs c.args.key = rw (ap (λ (h : Heap). h.procs) c.self.view_is) c.requires in
    let there = object_of c.self.inside.memory.procs c.args.key used in
    rw (c.set_opening.ensures.kept there.0 there.1) (InUse-put c.self.inside.memory.procs c.args.key (record there.0 { opening = c.args.opening }) c.args.key used used)
