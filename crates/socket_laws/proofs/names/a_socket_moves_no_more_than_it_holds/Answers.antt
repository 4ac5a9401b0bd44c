use Rattle.socket_laws.proofs.RoomLemmas.{sock_write_most, sock_written_most, sock_read_most}
use Rattle.socket_laws.proofs.names.a_socket_moves_no_more_than_it_holds.Goals as goal

pub returns : goal.returns
returns c = record {
  write = sock_write_most;
  written = sock_written_most;
  read = sock_read_most;
}
