use Rattle.kheap_laws.proofs.OwnerLemmas.{IsOwned-space_joins, IsOwned-space_leaves, IsOwned-queue_joins, IsOwned-queue_leaves}
use Rattle.kheap_laws.proofs.owners.empty_owners_come_and_go.Goals as goal

pub returns-clause-space_joins : goal.returns-clause-space_joins
returns-clause-space_joins c = IsOwned-space_joins

pub returns-clause-space_leaves : goal.returns-clause-space_leaves
returns-clause-space_leaves c = IsOwned-space_leaves

pub returns-clause-queue_joins : goal.returns-clause-queue_joins
returns-clause-queue_joins c = IsOwned-queue_joins

pub returns-clause-queue_leaves : goal.returns-clause-queue_leaves
returns-clause-queue_leaves c = IsOwned-queue_leaves
