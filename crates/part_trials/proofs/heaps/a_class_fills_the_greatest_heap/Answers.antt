use Rattle.std.proofs.Common.{ap}
use Rattle.kheap_slabs.specs.Heap.{Heap}
use Rattle.part_trials.proofs.heaps.a_class_fills_the_greatest_heap.Goals as goal

pub fill_with_descs-requires-clause-empty : goal.fill_with_descs-requires-clause-empty
fill_with_descs-requires-clause-empty g c = c.in_ok-heap.ensures.live

pub fill_with_descs-requires-clause-size : goal.fill_with_descs-requires-clause-size
fill_with_descs-requires-clause-size g c = ap (λ (h : Heap). h.heap) c.in_ok-heap.ensures.empty
