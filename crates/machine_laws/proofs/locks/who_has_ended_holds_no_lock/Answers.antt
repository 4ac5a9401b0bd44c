use Rattle.machine_laws.proofs.Locking.{has_it_open, reached_locked}
use Rattle.machine_laws.proofs.LockLess.{ended_holds_none}
use Rattle.machine_laws.proofs.locks.who_has_ended_holds_no_lock.Goals as goal

pub returns-clause-opened : goal.returns-clause-opened
returns-clause-opened c = λ script plain reached pid number some. has_it_open (plain.files) pid number (let locked = reached_locked script plain reached in locked.opened pid number some)

pub returns-clause-ended : goal.returns-clause-ended
returns-clause-ended c = ended_holds_none
