use Rattle.open_laws.proofs.PlaceLemmas.{law_goes}
use Rattle.open_laws.proofs.places.an_object_leaves_its_place.Goals as goal

pub returns : goal.returns
returns g c = law_goes
