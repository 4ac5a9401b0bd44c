use Rattle.socket_laws.proofs.SocketLaws.{shut_leaves, reads_what_is_there, shut_ends, shut_writes_nothing}
use Rattle.socket_laws.proofs.sockets.a_shut_side_is_read_to_its_end.Goals as goal

pub returns : goal.returns
returns c = record { left = shut_leaves; rest = reads_what_is_there; end = shut_ends; refused = shut_writes_nothing }
