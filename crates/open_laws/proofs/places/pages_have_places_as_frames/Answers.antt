use Rattle.open_laws.proofs.PlaceLemmas.{frames_placed}
use Rattle.open_laws.proofs.places.pages_have_places_as_frames.Goals as goal

pub returns : goal.returns
returns c = frames_placed
