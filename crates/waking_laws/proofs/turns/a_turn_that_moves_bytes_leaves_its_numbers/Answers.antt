use Rattle.waking_laws.proofs.Behind.{own_kept}
use Rattle.waking_laws.proofs.turns.a_turn_that_moves_bytes_leaves_its_numbers.Goals as goal

pub returns : goal.returns
returns c = own_kept
