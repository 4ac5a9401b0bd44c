use Rattle.kheap_laws.proofs.PaidLemmas.{IsPaid-give, IsPaid-nothing, IsPaid-spend}
use Rattle.kheap_laws.proofs.purses.steps_are_paid.Goals as goal

pub returns-clause-spend : goal.returns-clause-spend
returns-clause-spend c = λ of old before new after. IsPaid-spend of old new before after

pub returns-clause-give : goal.returns-clause-give
returns-clause-give c = λ of old before new after. IsPaid-give of old new before after

pub returns-clause-nothing : goal.returns-clause-nothing
returns-clause-nothing c = λ old before new after. IsPaid-nothing old new before after
