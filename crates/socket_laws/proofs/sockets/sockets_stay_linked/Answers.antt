use Rattle.socket_laws.proofs.SocketCalls.{new_linked, named_linked, listen_linked, accept_linked, read_linked, shut_linked, close_linked, pair_linked, connect_linked, write_linked}
use Rattle.socket_laws.proofs.sockets.sockets_stay_linked.Goals as goal

pub returns : goal.returns
returns c = record {
  made = new_linked;
  named = named_linked;
  listening = listen_linked;
  accepted = accept_linked;
  read = read_linked;
  shut = shut_linked;
  closed = close_linked;
  pair = pair_linked;
  connected = λ sockets client listener made waiting linked idle there free within listens room. connect_linked sockets client listener made linked idle there free within room waiting listens;
  written = write_linked;
}
