use Rattle.relief_laws.proofs.Lowering.{killed_less}
use Rattle.relief_laws.proofs.reliefs.a_kill_lowers_the_measure.Goals as goal

pub returns : goal.returns
returns c = killed_less
