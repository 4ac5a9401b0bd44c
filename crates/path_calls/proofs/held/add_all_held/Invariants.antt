use Rattle.std.proofs.Common.{drop}
use Rattle.path_calls.proofs.Walking.{AreAdded}
use Rattle.path_calls.proofs.held.add_all_held.Given as goal

abbrev pub invariant-loop-place : goal.invariant-loop-place
invariant-loop-place l = AreAdded l.nodes l.heap l.heap.procs l.procs.listed (drop l.place-index l.place-items)
