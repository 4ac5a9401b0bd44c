use Rattle.machine_laws.proofs.Locking.{reached_locked}
use Rattle.machine_laws.proofs.locks.no_two_processes_hold_a_place_that_they_cant_share.Goals as goal

pub returns-clause-apart : goal.returns-clause-apart
returns-clause-apart c = λ script plain reached pid other number place differ. (let locked = reached_locked script plain reached in let held = locked.apart in held.apart pid other number differ place)

pub returns-clause-canonical : goal.returns-clause-canonical
returns-clause-canonical c = λ script plain reached pid number. (let locked = reached_locked script plain reached in let held = locked.apart in held.canonical pid number)
