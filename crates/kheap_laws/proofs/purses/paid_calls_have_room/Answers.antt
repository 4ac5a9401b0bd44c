use Rattle.kheap_laws.proofs.PaidLemmas.{CanPay-kept, IsPaid-bytes}
use Rattle.kheap_laws.proofs.purses.paid_calls_have_room.Goals as goal

pub returns-clause-bytes : goal.returns-clause-bytes
returns-clause-bytes c = λ old before new after paid. IsPaid-bytes old new before after paid

pub returns-clause-room : goal.returns-clause-room
returns-clause-room c = λ old before new after paid can. CanPay-kept old new before after paid can
