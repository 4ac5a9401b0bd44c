use Rattle.open_laws.proofs.PlaceLemmas.{law_keeps}
use Rattle.open_laws.proofs.places.objects_keep_their_places.Goals as goal

pub returns : goal.returns
returns g c = law_keeps
