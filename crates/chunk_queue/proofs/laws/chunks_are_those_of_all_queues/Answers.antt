use Rattle.chunk_queue.proofs.AccountLemmas.{chunks_of_heap}
use Rattle.chunk_queue.proofs.laws.chunks_are_those_of_all_queues.Goals as goal

pub returns : goal.returns
returns c = chunks_of_heap
