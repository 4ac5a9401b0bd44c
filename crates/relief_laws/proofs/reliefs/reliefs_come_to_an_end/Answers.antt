use Rattle.relief_laws.proofs.Lowering.{comes_to_an_end}
use Rattle.relief_laws.proofs.reliefs.reliefs_come_to_an_end.Goals as goal

pub returns : goal.returns
returns c = comes_to_an_end
