use Rattle.socket_laws.proofs.RoomLemmas.{pipe_write_most, pipe_written_most, pipe_read_most}
use Rattle.socket_laws.proofs.pipes.a_pipe_moves_no_more_than_it_holds.Goals as goal

pub returns : goal.returns
returns c = record {
  write = pipe_write_most;
  written = pipe_written_most;
  read = pipe_read_most;
}
