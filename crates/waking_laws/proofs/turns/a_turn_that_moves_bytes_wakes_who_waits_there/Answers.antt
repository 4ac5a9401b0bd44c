use Rattle.waking_laws.proofs.Behind.{moved_apart}
use Rattle.waking_laws.proofs.turns.a_turn_that_moves_bytes_wakes_who_waits_there.Goals as goal

pub returns : goal.returns
returns c = moved_apart
