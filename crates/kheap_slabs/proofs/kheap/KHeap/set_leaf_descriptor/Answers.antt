use Rattle.std.proofs.Common.{ap, slice_set}
use Rattle.std.proofs.lemmas.List.{length-set}
use Rattle.kheap_slabs.specs.Objects.{InUse}
use Rattle.kheap_slabs.specs.Heap.{Heap}
use Rattle.kheap_slabs.specs.Metered.{heap_of}
use Rattle.kheap_slabs.proofs.ObjectLemmas.{object_of, InUse-put}
use Rattle.kheap_slabs.proofs.MeterLemmas.{IsMetered-leaf}
use Rattle.kheap_slabs.proofs.kheap.KHeap.set_leaf_descriptor.Goals as goal

pub invariant_of-self : goal.invariant_of-self
invariant_of-self c =
    let there = object_of c.self.inside.memory.leaves c.args.key (rw (ap (λ (h : Heap). h.leaves) c.self.view_is) c.requires.used) in
    IsMetered-leaf (heap_of c.self.inside) c.self.inside.meter.live c.args.key c.set_descriptor.new.self there.0 (record { descriptors = slice_set there.0.descriptors c.args.at c.args.descriptor }) c.self.invariant there.1 (length-set there.0.descriptors c.args.at c.args.descriptor) (c.set_descriptor.ensures.kept there.0 there.1)

pub returns-clause-stays : goal.returns-clause-stays
returns-clause-stays c =
    let used : InUse c.self.inside.memory.leaves c.args.key = rw (ap (λ (h : Heap). h.leaves) c.self.view_is) c.requires.used in
    let there = object_of c.self.inside.memory.leaves c.args.key used in
    rw (c.set_descriptor.ensures.kept there.0 there.1) (InUse-put c.self.inside.memory.leaves c.args.key (record { descriptors = slice_set there.0.descriptors c.args.at c.args.descriptor }) c.args.key used used)
