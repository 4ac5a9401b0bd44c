use Rattle.kheap_laws.proofs.MarkLemmas.{high_since_mark}
use Rattle.kheap_laws.proofs.purses.high_is_the_greatest_live.Goals as goal

pub returns : goal.returns
returns c = high_since_mark
