use Rattle.waking_laws.proofs.Passing.{passed_by}
use Rattle.waking_laws.proofs.turns.a_turn_that_passes_by_wakes_nobody.Goals as goal

pub returns : goal.returns
returns c = passed_by
