use Rattle.relief_laws.proofs.Helping.{helped_in_the_end}
use Rattle.relief_laws.proofs.reliefs.relief_helps_in_the_end.Goals as goal

pub returns : goal.returns
returns c = helped_in_the_end
