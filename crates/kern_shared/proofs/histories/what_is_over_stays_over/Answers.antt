use Rattle.kern_shared.proofs.Starving.{over_stays}
use Rattle.kern_shared.proofs.histories.what_is_over_stays_over.Goals as goal

pub returns : goal.returns
returns c = over_stays
