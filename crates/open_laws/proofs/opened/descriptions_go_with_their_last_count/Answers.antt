use Rattle.open_laws.proofs.DescribedLemmas.{uncounted-shared, uncounted-left, uncounted-gone}
use Rattle.open_laws.proofs.opened.descriptions_go_with_their_last_count.Goals as goal

pub returns : goal.returns
returns c = record { shared = uncounted-shared; stays = uncounted-left; goes = uncounted-gone }
