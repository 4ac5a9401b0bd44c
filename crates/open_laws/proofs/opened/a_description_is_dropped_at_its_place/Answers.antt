use Rattle.open_laws.proofs.DescribedLemmas.{dropped_described}
use Rattle.open_laws.proofs.opened.a_description_is_dropped_at_its_place.Goals as goal

pub returns : goal.returns
returns c = dropped_described
