use Rattle.queue_calls.proofs.Holding.{held_somewhere}
use Rattle.queue_calls.proofs.laws.a_socket_is_there_while_it_is_open_or_waits.Goals as goal

pub returns : goal.returns
returns c = held_somewhere
