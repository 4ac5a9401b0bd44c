use Rattle.relief_laws.proofs.Lowering.{evicted_less}
use Rattle.relief_laws.proofs.reliefs.an_eviction_lowers_the_measure.Goals as goal

pub returns : goal.returns
returns c = evicted_less
