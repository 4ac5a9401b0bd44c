use Rattle.kern_laws.proofs.Sounds.{turn_keeps}
use Rattle.kern_laws.proofs.relief.a_turn_leaves_the_calls_of_others.Goals as goal

pub returns : goal.returns
returns c = turn_keeps
