use Rattle.chunk_queue.proofs.HeldLemmas.{pipe_queue_in, sock_queue_in}
use Rattle.chunk_queue.proofs.laws.owners_have_queues.Goals as goal

pub returns-clause-pipes : goal.returns-clause-pipes
returns-clause-pipes c = pipe_queue_in

pub returns-clause-sockets : goal.returns-clause-sockets
returns-clause-sockets c = sock_queue_in
