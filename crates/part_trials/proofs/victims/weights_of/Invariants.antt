use Rattle.std.specs.List.{All}
use Rattle.victim_core.specs.Victims.{IsInRange}
use Rattle.part_trials.proofs.victims.weights_of.Given as goal

abbrev pub invariant-loop-row : goal.invariant-loop-row
invariant-loop-row g l = All IsInRange l.weights.items
