use Rattle.kheap_laws.proofs.OwnerLemmas.{empty_heap-owned}
use Rattle.kheap_laws.proofs.owners.an_empty_heap_is_owned.Goals as goal

pub returns : goal.returns
returns c = empty_heap-owned
