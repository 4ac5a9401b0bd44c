use Rattle.kern_shared.proofs.Standing.{given_up_once, held_not_gone}
use Rattle.kern_shared.proofs.histories.a_held_call_is_given_up_once.Goals as goal

pub returns-clause-once : goal.returns-clause-once
returns-clause-once c = given_up_once

pub returns-clause-held : goal.returns-clause-held
returns-clause-held c = held_not_gone
