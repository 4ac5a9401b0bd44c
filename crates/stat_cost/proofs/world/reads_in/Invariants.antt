use Rattle.stat_cost.specs.Standing.{StandsForSome}
use Rattle.stat_cost.proofs.world.reads_in.Given as goal

abbrev pub invariant-loop-count : goal.invariant-loop-count
invariant-loop-count l = StandsForSome l.world.heap l.world.files
