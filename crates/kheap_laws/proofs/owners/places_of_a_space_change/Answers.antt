use Rattle.kheap_laws.proofs.OwnerLemmas.{keys_in-filled, keys_in-cleared}
use Rattle.kheap_laws.proofs.owners.places_of_a_space_change.Goals as goal

pub returns-clause-filled : goal.returns-clause-filled
returns-clause-filled c = keys_in-filled

pub returns-clause-cleared : goal.returns-clause-cleared
returns-clause-cleared c = keys_in-cleared
