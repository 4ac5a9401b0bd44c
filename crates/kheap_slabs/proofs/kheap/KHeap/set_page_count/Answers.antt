use Rattle.std.proofs.Common.{ap, refl}
use Rattle.kheap_slabs.specs.Objects.{InUse}
use Rattle.kheap_slabs.specs.Heap.{Heap}
use Rattle.kheap_slabs.specs.Metered.{heap_of}
use Rattle.kheap_slabs.proofs.ObjectLemmas.{object_of, InUse-put}
use Rattle.kheap_slabs.proofs.MeterLemmas.{IsMetered-page}
use Rattle.kheap_slabs.proofs.kheap.KHeap.set_page_count.Goals as goal

pub invariant_of-self : goal.invariant_of-self
invariant_of-self c =
    let there = object_of c.self.inside.memory.pages c.args.key (rw (ap (λ (h : Heap). h.pages) c.self.view_is) c.requires) in
    IsMetered-page (heap_of c.self.inside) c.self.inside.meter.live c.args.key c.set_count.new.self there.0 (record there.0 { count = c.args.count }) c.self.invariant there.1 refl (c.set_count.ensures.kept there.0 there.1)

pub returns-clause-stays : goal.returns-clause-stays
returns-clause-stays c =
    let used : InUse c.self.inside.memory.pages c.args.key = rw (ap (λ (h : Heap). h.pages) c.self.view_is) c.requires in
    let there = object_of c.self.inside.memory.pages c.args.key used in
    rw (c.set_count.ensures.kept there.0 there.1) (InUse-put c.self.inside.memory.pages c.args.key (record there.0 { count = c.args.count }) c.args.key used used)
