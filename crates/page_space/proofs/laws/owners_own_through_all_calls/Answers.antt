use Rattle.page_space.proofs.CountLemmas.{counts_by_entries}
use Rattle.page_space.proofs.StandLemmas.{owned_throughout}
use Rattle.page_space.proofs.laws.owners_own_through_all_calls.Goals as goal

pub returns-clause-owned : goal.returns-clause-owned
returns-clause-owned c = λ first rest moment calls owned among. owned_throughout rest first calls owned moment among

pub returns-clause-counted : goal.returns-clause-counted
returns-clause-counted c = λ first rest moment key calls owned among well four.
    counts_by_entries moment.heap moment.owners key well (owned_throughout rest first calls owned moment among) four
