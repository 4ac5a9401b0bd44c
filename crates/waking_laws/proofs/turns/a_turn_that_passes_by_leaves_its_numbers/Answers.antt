use Rattle.waking_laws.proofs.Behind.{own_passed}
use Rattle.waking_laws.proofs.turns.a_turn_that_passes_by_leaves_its_numbers.Goals as goal

pub returns : goal.returns
returns c = own_passed
