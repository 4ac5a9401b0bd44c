use Rattle.wait_graph.proofs.Told.{IsTold}
use Rattle.wait_graph.proofs.circles.circling.Given as goal

abbrev pub invariant-loop-from : goal.invariant-loop-from
invariant-loop-from l = IsTold l.edges l.from l.circling
