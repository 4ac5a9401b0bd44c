use Rattle.socket_laws.proofs.SocketLaws.{closed_stays, closed_bytes, closed_ends, closed_writes_nothing}
use Rattle.socket_laws.proofs.sockets.a_socket_stays_connected_after_its_peer.Goals as goal

pub returns : goal.returns
returns c = record { stays = closed_stays; bytes = closed_bytes; end = closed_ends; refused = closed_writes_nothing }
