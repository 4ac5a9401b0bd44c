use Rattle.std.proofs.Common.{drop}
use Rattle.kheap_slabs.specs.Spaces.{keys_in}
use Rattle.usock_core.proofs.CloseLemmas.{Leaves}
use Rattle.usock_core.proofs.closing.hang_up_all.Given as goal

abbrev pub invariant-loop-key : goal.invariant-loop-key
invariant-loop-key l = Leaves l.initial.heap l.heap (keys_in l.keys) (keys_in (drop l.key-index l.keys))
