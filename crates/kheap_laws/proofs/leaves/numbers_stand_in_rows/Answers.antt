use Rattle.kheap_laws.proofs.LeafLemmas.{numbers_by-first, numbers_by-leaf, numbers_by-length, numbers_by-none}
use Rattle.kheap_laws.proofs.leaves.numbers_stand_in_rows.Goals as goal

pub returns : goal.returns
returns c = record { many = numbers_by-length; front = numbers_by-first; behind = numbers_by-leaf; none = numbers_by-none }
