use Rattle.waking_laws.proofs.Behind.{ended_has_none}
use Rattle.waking_laws.proofs.turns.no_number_outlives_its_process.Goals as goal

pub returns : goal.returns
returns c = ended_has_none
