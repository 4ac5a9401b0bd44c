use Rattle.open_laws.proofs.PlaceLemmas.{law_makes}
use Rattle.open_laws.proofs.places.an_object_is_made_at_the_end.Goals as goal

pub returns : goal.returns
returns g c = law_makes
