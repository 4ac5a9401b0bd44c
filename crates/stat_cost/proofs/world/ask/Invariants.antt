use Rattle.memfs_ops.specs.FileTree.{MayWalk}
use Rattle.stat_cost.specs.Standing.{StandsForSome}
use Rattle.stat_cost.proofs.world.ask.Given as goal

abbrev pub invariant-loop : goal.invariant-loop
invariant-loop l = StandsForSome l.world.heap l.world.files × MayWalk l.world.heap l.purse
