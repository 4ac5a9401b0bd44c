use Rattle.std.proofs.Common.{◌≡◌, ◌*◌}
use Rattle.kheap_slabs.specs.Heap.{live_bytes}
use Rattle.part_trials.proofs.heaps.fill_with_descs.Given as goal

abbrev pub invariant-loop-offset : goal.invariant-loop-offset
invariant-loop-offset l = record {
  heap : l.heap.heap ≡ 8388608;
  live : live_bytes l.heap ≡ 64 * l.offset;
}
