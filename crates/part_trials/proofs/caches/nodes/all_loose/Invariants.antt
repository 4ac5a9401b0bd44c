use Rattle.std.proofs.Common.{◌≡◌, ℕ, ◌<◌, true, get_or}
use Rattle.kheap_slabs.specs.Objects.{object}
use Rattle.vnode_cache.specs.Nodes.{is_loose}
use Rattle.part_trials.proofs.caches.nodes.all_loose.Given as goal

abbrev pub invariant-loop-at : goal.invariant-loop-at
invariant-loop-at l = (i : ℕ) → i < l.at → is_loose (object l.heap.vnodes (get_or l.fills i 0)) ≡ true
