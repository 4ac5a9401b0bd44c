use Rattle.socket_laws.proofs.SocketNames.{new_once, pair_once, connect_once, named_once, listen_once, accept_once, read_once, write_once, shut_once, close_once}
use Rattle.socket_laws.proofs.names.a_node_names_one_socket.Goals as goal

pub returns : goal.returns
returns c = record {
  made = new_once;
  pair = pair_once;
  connected = connect_once;
  named = named_once;
  listening = listen_once;
  accepted = accept_once;
  read = read_once;
  written = write_once;
  shut = shut_once;
  closed = close_once;
}
