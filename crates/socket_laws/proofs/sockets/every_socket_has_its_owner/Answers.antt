use Rattle.socket_laws.proofs.SocketHeld.{new_held, named_held, listen_held, read_held, write_held, shut_held, pair_held, connect_held, accept_held, close_held}
use Rattle.socket_laws.proofs.sockets.every_socket_has_its_owner.Goals as goal

pub returns : goal.returns
returns c = record {
  made = new_held;
  bound = named_held;
  listening = listen_held;
  read = read_held;
  written = write_held;
  shut = shut_held;
  pair = pair_held;
  connected = connect_held;
  accepted = accept_held;
  closed = close_held;
}
