use Rattle.kheap_laws.proofs.OwnerLemmas.{IsOwned-chunk_written, IsOwned-same}
use Rattle.kheap_laws.proofs.owners.owners_stay.Goals as goal

pub returns-clause-written : goal.returns-clause-written
returns-clause-written c = IsOwned-chunk_written

pub returns-clause-same : goal.returns-clause-same
returns-clause-same c = IsOwned-same
