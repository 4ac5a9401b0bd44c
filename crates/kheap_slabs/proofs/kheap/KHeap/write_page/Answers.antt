use Rattle.std.proofs.Common.{ap}
use Rattle.kheap_slabs.specs.Objects.{InUse}
use Rattle.kheap_slabs.specs.Pages.{with_bytes}
use Rattle.kheap_slabs.specs.Heap.{Heap}
use Rattle.kheap_slabs.specs.Metered.{heap_of}
use Rattle.kheap_slabs.proofs.ObjectLemmas.{object_of, InUse-put}
use Rattle.kheap_slabs.proofs.MeterLemmas.{IsMetered-page, length-with_bytes}
use Rattle.kheap_slabs.proofs.kheap.KHeap.write_page.Goals as goal

pub invariant_of-self : goal.invariant_of-self
invariant_of-self c =
    let there = object_of c.self.inside.memory.pages c.args.key (rw (ap (λ (h : Heap). h.pages) c.self.view_is) c.requires.used) in
    IsMetered-page (heap_of c.self.inside) c.self.inside.meter.live c.args.key c.write.new.self there.0 (with_bytes there.0 c.args.at c.args.bytes.now) c.self.invariant there.1 (length-with_bytes there.0 c.args.at c.args.bytes.now (rw (c.self.invariant.well_formed.page_bytes c.args.key there.0 there.1) c.requires.within)) (c.write.ensures.kept there.0 there.1)

pub returns-clause-stays : goal.returns-clause-stays
returns-clause-stays c =
    let used : InUse c.self.inside.memory.pages c.args.key = rw (ap (λ (h : Heap). h.pages) c.self.view_is) c.requires.used in
    let there = object_of c.self.inside.memory.pages c.args.key used in
    rw (c.write.ensures.kept there.0 there.1) (InUse-put c.self.inside.memory.pages c.args.key (with_bytes there.0 c.args.at c.args.bytes.now) c.args.key used used)
