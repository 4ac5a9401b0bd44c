use Rattle.kheap_laws.proofs.LeafLemmas.{numbers_by-stay}
use Rattle.kheap_laws.proofs.leaves.numbers_stay_where_their_leaves_do.Goals as goal

pub returns : goal.returns
returns c = numbers_by-stay
