use Rattle.kheap_laws.proofs.PaidLemmas.{TakesNothing-trans, TakesNothing-freed, TakesNothing-set, TakesNothing-bytes}
use Rattle.kheap_laws.proofs.purses.calls_without_a_purse_compose.Goals as goal

pub returns-clause-two : goal.returns-clause-two
returns-clause-two c = TakesNothing-trans

pub returns-clause-freed : goal.returns-clause-freed
returns-clause-freed c = TakesNothing-freed

pub returns-clause-changed : goal.returns-clause-changed
returns-clause-changed c = TakesNothing-set

pub returns-clause-bytes : goal.returns-clause-bytes
returns-clause-bytes c = TakesNothing-bytes
