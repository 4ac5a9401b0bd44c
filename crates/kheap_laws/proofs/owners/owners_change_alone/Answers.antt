use Rattle.kheap_laws.proofs.OwnerLemmas.{IsOwned-space_changes, IsOwned-queue_changes}
use Rattle.kheap_laws.proofs.owners.owners_change_alone.Goals as goal

pub returns-clause-space : goal.returns-clause-space
returns-clause-space c = IsOwned-space_changes

pub returns-clause-queue : goal.returns-clause-queue
returns-clause-queue c = IsOwned-queue_changes
