use Rattle.kheap_laws.proofs.SpaceLemmas.{IsCounted-comes, IsCounted-goes, IsCounted-replaced}
use Rattle.kheap_laws.proofs.frames.nodes_are_counted.Goals as goal

pub returns-clause-comes : goal.returns-clause-comes
returns-clause-comes c = IsCounted-comes

pub returns-clause-goes : goal.returns-clause-goes
returns-clause-goes c = IsCounted-goes

pub returns-clause-replaced : goal.returns-clause-replaced
returns-clause-replaced c = IsCounted-replaced
