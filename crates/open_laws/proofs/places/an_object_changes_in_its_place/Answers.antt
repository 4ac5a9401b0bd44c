use Rattle.open_laws.proofs.PlaceLemmas.{law_changes}
use Rattle.open_laws.proofs.places.an_object_changes_in_its_place.Goals as goal

pub returns : goal.returns
returns g c = law_changes
