use Rattle.std.proofs.Common.{ap, slice_set}
use Rattle.std.proofs.lemmas.List.{length-set}
use Rattle.kheap_slabs.specs.Objects.{InUse}
use Rattle.kheap_slabs.specs.Heap.{Heap}
use Rattle.kheap_slabs.specs.Metered.{heap_of}
use Rattle.kheap_slabs.proofs.ObjectLemmas.{object_of, InUse-put}
use Rattle.kheap_slabs.proofs.MeterLemmas.{IsMetered-node}
use Rattle.kheap_slabs.proofs.kheap.KHeap.set_node_entry.Goals as goal

pub invariant_of-self : goal.invariant_of-self
invariant_of-self c =
    let there = object_of c.self.inside.memory.nodes c.args.key (rw (ap (λ (h : Heap). h.nodes) c.self.view_is) c.requires.used) in
    IsMetered-node (heap_of c.self.inside) c.self.inside.meter.live c.args.key c.set_entry.new.self there.0 (record { entries = slice_set there.0.entries c.args.at c.args.entry }) c.self.invariant there.1 (length-set there.0.entries c.args.at c.args.entry) (c.set_entry.ensures.kept there.0 there.1)

pub returns-clause-stays : goal.returns-clause-stays
returns-clause-stays c =
    let used : InUse c.self.inside.memory.nodes c.args.key = rw (ap (λ (h : Heap). h.nodes) c.self.view_is) c.requires.used in
    let there = object_of c.self.inside.memory.nodes c.args.key used in
    rw (c.set_entry.ensures.kept there.0 there.1) (InUse-put c.self.inside.memory.nodes c.args.key (record { entries = slice_set there.0.entries c.args.at c.args.entry }) c.args.key used used)
