use Rattle.std.proofs.Common.{arith}
use Rattle.part_trials.proofs.locks.set.Goals as goal

pub set-requires-clause-asked : goal.set-requires-clause-asked
set-requires-clause-asked g c = record { kind = omega arith; order = omega arith; places = omega arith }

pub returns : goal.returns
returns g c = (_, c.set.ensures.holds c.requires.0 c.requires.1)
