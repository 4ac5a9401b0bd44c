use Rattle.kheap_laws.proofs.OwnerLemmas.{SpaceChanges-sets, SpaceChanges-comes, SpaceChanges-goes}
use Rattle.kheap_laws.proofs.owners.spaces_change.Goals as goal

pub returns-clause-sets : goal.returns-clause-sets
returns-clause-sets c = SpaceChanges-sets

pub returns-clause-comes : goal.returns-clause-comes
returns-clause-comes c = SpaceChanges-comes

pub returns-clause-goes : goal.returns-clause-goes
returns-clause-goes c = SpaceChanges-goes
