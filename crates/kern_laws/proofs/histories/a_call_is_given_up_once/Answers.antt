use Rattle.kern_laws.proofs.Sleepers.{given_up, stays_given_up}
use Rattle.kern_laws.proofs.histories.a_call_is_given_up_once.Goals as goal

pub returns-clause-once : goal.returns-clause-once
returns-clause-once c = given_up

pub returns-clause-kept : goal.returns-clause-kept
returns-clause-kept c = stays_given_up
