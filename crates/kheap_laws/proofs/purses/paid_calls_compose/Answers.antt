use Rattle.kheap_laws.proofs.PaidLemmas.{IsPaid-trans}
use Rattle.kheap_laws.proofs.purses.paid_calls_compose.Goals as goal

pub returns : goal.returns
returns c = IsPaid-trans
