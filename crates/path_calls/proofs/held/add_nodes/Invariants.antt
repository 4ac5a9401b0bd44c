use Rattle.std.proofs.Common.{take}
use Rattle.path_calls.specs.Nodes.{Adds, some_opens}
use Rattle.path_calls.proofs.held.add_nodes.Given as goal

abbrev pub invariant-loop-descriptor : goal.invariant-loop-descriptor
invariant-loop-descriptor l = Adds l.initial.nodes l.nodes (some_opens l.heap (take l.descriptor-index l.row))
