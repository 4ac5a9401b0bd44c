use Rattle.chunk_queue.proofs.HeldLemmas.{HasBytes-some, HasBytes-unique, emptied}
use Rattle.chunk_queue.proofs.laws.a_queue_has_its_bytes.Goals as goal

pub returns-clause-some : goal.returns-clause-some
returns-clause-some c = HasBytes-some

pub returns-clause-one : goal.returns-clause-one
returns-clause-one c = HasBytes-unique

pub returns-clause-emptied : goal.returns-clause-emptied
returns-clause-emptied c = emptied
