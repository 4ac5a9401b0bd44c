use Rattle.victim_core.proofs.GreatestLemmas.{victim-named}
use Rattle.victim_core.proofs.laws.victim_is_the_machines.Goals as goal

pub returns : goal.returns
returns c = victim-named
