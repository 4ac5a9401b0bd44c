use Rattle.charge_words.proofs.charges.Charge.TheSendSync as charge
use Rattle.charge_words.proofs.seats.ChargeSeat.TheSendSync as seat
use Rattle.charge_words.proofs.crossing.crosses_threads.Goals as goal

pub returns-clause-charge : goal.returns-clause-charge
returns-clause-charge c = (charge.the_send, charge.the_sync)

pub returns-clause-seat : goal.returns-clause-seat
returns-clause-seat c = seat.the_send
