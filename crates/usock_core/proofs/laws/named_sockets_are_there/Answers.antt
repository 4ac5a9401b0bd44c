use Rattle.usock_core.proofs.HeldLemmas.{socket_held, closable_held, listening_in, held_moved}
use Rattle.usock_core.proofs.laws.named_sockets_are_there.Goals as goal

pub returns : goal.returns
returns c = record { socket = socket_held; closable = closable_held; listening = listening_in; order = held_moved }
