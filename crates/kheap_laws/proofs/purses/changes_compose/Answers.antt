use Rattle.kheap_laws.proofs.OutsideLemmas.{SameOutside-trans}
use Rattle.kheap_laws.proofs.purses.changes_compose.Goals as goal

pub returns : goal.returns
returns c = SameOutside-trans
