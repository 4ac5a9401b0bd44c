use Rattle.kheap_laws.proofs.LeafLemmas.{numbers_by-set_first, numbers_by-set_row}
use Rattle.kheap_laws.proofs.leaves.one_number_changes.Goals as goal

pub returns : goal.returns
returns c = record { front = numbers_by-set_first; behind = numbers_by-set_row }
