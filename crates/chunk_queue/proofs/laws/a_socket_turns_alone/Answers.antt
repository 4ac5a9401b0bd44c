use Rattle.chunk_queue.proofs.HeldLemmas.{sock_turns}
use Rattle.chunk_queue.proofs.laws.a_socket_turns_alone.Goals as goal

pub returns : goal.returns
returns c = sock_turns
