use Rattle.turn_words.proofs.turns.Turns.TheSendSync as turns
use Rattle.turn_words.proofs.seats.TurnSeat.TheSendSync as seat
use Rattle.turn_words.proofs.crossing.crosses_threads.Goals as goal

pub returns-clause-turns : goal.returns-clause-turns
returns-clause-turns g c = (turns.the_send _ _ c.type_bounds.send-T, turns.the_sync _ _ c.type_bounds.send-T)

pub returns-clause-seat : goal.returns-clause-seat
returns-clause-seat g c = seat.the_send _ c.type_bounds.send-T
