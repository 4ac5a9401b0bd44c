use Rattle.kheap_laws.proofs.FillLemmas.{AreFills-add, AreFills-drop}
use Rattle.kheap_laws.proofs.purses.fills_are_kept.Goals as goal

pub returns-clause-add : goal.returns-clause-add
returns-clause-add c = AreFills-add

pub returns-clause-drop : goal.returns-clause-drop
returns-clause-drop c = AreFills-drop
