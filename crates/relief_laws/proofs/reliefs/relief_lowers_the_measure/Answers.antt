use Rattle.relief_laws.proofs.Answering.{lowers}
use Rattle.relief_laws.proofs.reliefs.relief_lowers_the_measure.Goals as goal

pub returns : goal.returns
returns g c = λ script old new s told at sound unended is leads. lowers g.T.Turner.stands script old new s told at sound unended is leads
