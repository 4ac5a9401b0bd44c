use Rattle.std.proofs.Common.{refl}
use Rattle.machine_laws.proofs.LockLess.{die_lockless, nothing_in_way, stays_lockless}
use Rattle.machine_laws.proofs.locks.without_locks_all_is_as_before.Goals as goal

pub returns-clause-boot : goal.returns-clause-boot
returns-clause-boot c = λ script. refl

pub returns-clause-stays : goal.returns-clause-stays
returns-clause-stays c = stays_lockless

pub returns-clause-refused : goal.returns-clause-refused
returns-clause-refused c = λ script plain pid none. none

pub returns-clause-killed : goal.returns-clause-killed
returns-clause-killed c = die_lockless

pub returns-clause-granted : goal.returns-clause-granted
returns-clause-granted c = nothing_in_way
