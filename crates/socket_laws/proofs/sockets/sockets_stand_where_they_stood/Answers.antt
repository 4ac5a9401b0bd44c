use Rattle.socket_laws.proofs.SocketTable.{with-length, length-with_there, sock_at-with, sock_at-with_other}
use Rattle.socket_laws.proofs.sockets.sockets_stand_where_they_stood.Goals as goal

pub returns : goal.returns
returns c = record { last = with-length; within = length-with_there; here = sock_at-with; others = sock_at-with_other }
