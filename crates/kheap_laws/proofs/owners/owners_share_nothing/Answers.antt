use Rattle.kheap_laws.proofs.OwnerLemmas.{IsOwned-space, IsOwned-spaces_apart, IsOwned-queues_apart}
use Rattle.kheap_laws.proofs.owners.owners_share_nothing.Goals as goal

pub returns-clause-space : goal.returns-clause-space
returns-clause-space c = IsOwned-space

pub returns-clause-spaces : goal.returns-clause-spaces
returns-clause-spaces c = IsOwned-spaces_apart

pub returns-clause-queues : goal.returns-clause-queues
returns-clause-queues c = IsOwned-queues_apart
