use Rattle.chunk_queue.proofs.HeldLemmas.{pipe_turns}
use Rattle.chunk_queue.proofs.laws.a_pipe_turns_alone.Goals as goal

pub returns : goal.returns
returns c = pipe_turns
