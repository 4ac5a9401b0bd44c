use Rattle.chunk_queue.proofs.HeldLemmas.{pipe_goes, sock_goes}
use Rattle.chunk_queue.proofs.laws.a_queue_goes_alone.Goals as goal

pub returns-clause-pipe : goal.returns-clause-pipe
returns-clause-pipe c = pipe_goes

pub returns-clause-socket : goal.returns-clause-socket
returns-clause-socket c = sock_goes
