use Rattle.kheap_laws.proofs.SpaceLemmas.{IsCounted-stays, IsCounted-names, IsCounted-drops, IsCounted-turns}
use Rattle.kheap_laws.proofs.frames.entries_are_counted.Goals as goal

pub returns-clause-stays : goal.returns-clause-stays
returns-clause-stays c = IsCounted-stays

pub returns-clause-names : goal.returns-clause-names
returns-clause-names c = IsCounted-names

pub returns-clause-drops : goal.returns-clause-drops
returns-clause-drops c = IsCounted-drops

pub returns-clause-turns : goal.returns-clause-turns
returns-clause-turns c = IsCounted-turns
