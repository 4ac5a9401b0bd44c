use Rattle.kheap_laws.proofs.TableLemmas.{SameOwners-spaces, SameOwners-queues}
use Rattle.kheap_laws.proofs.owners.owners_move.Goals as goal

pub returns-clause-spaces : goal.returns-clause-spaces
returns-clause-spaces c = SameOwners-spaces

pub returns-clause-queues : goal.returns-clause-queues
returns-clause-queues c = SameOwners-queues
