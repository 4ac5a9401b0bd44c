use Rattle.answer_laws.proofs.GoingOn.{after_part_is, call_part, settled_part}
use Rattle.answer_laws.proofs.parts.a_write_goes_on_in_parts.Goals as goal

pub returns-clause-settled : goal.returns-clause-settled
returns-clause-settled c = settled_part

pub returns-clause-call : goal.returns-clause-call
returns-clause-call c = call_part

pub returns-clause-answer : goal.returns-clause-answer
returns-clause-answer c = after_part_is
