use Rattle.waking_laws.proofs.Behind.{stays_itself}
use Rattle.waking_laws.proofs.turns.a_turn_leaves_others_themselves.Goals as goal

pub returns : goal.returns
returns c = stays_itself
