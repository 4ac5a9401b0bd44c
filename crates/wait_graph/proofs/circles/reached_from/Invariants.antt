use Rattle.wait_graph.proofs.Walks.{IsFollowed}
use Rattle.wait_graph.proofs.circles.reached_from.Given as goal

abbrev pub invariant-follow : goal.invariant-follow
invariant-follow l = IsFollowed l.edges l.from l.reached l.fresh

abbrev pub decreases-follow : goal.decreases-follow
decreases-follow l = l.fresh
