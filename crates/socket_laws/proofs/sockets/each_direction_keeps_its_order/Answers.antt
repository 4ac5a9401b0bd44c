use Rattle.socket_laws.proofs.SocketLaws.{directions_keep_order, write_touches_one, read_touches_one}
use Rattle.socket_laws.proofs.sockets.each_direction_keeps_its_order.Goals as goal

pub returns : goal.returns
returns c = record { order = directions_keep_order; written = write_touches_one; read = read_touches_one }
