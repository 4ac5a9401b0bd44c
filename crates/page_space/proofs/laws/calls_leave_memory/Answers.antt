use Rattle.page_space.proofs.StandLemmas.{holds_after_change, holds_after_put, holds_after_fork}
use Rattle.page_space.proofs.laws.calls_leave_memory.Goals as goal

pub returns-clause-changed : goal.returns-clause-changed
returns-clause-changed c = holds_after_change

pub returns-clause-put : goal.returns-clause-put
returns-clause-put c = holds_after_put

pub returns-clause-forked : goal.returns-clause-forked
returns-clause-forked c = holds_after_fork
