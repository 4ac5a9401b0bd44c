use Rattle.kheap_laws.proofs.TableLemmas.{OwnsItsObjects-pipe_comes}
use Rattle.kheap_laws.proofs.worked_calls.new_pipe.Goals as goal

pub returns-clause-owned : goal.returns-clause-owned
returns-clause-owned c = OwnsItsObjects-pipe_comes c.args.heap.now c.insert_pipe-key.new.self c.insert_pipe-key.result c.pipe_of.result c.insert_pipe-key.ensures.vacant c.insert_pipe-key.ensures.stored c.pipe_of.ensures.queue c.insert_pipe-key.ensures.kept

pub returns-clause-pipe : goal.returns-clause-pipe
returns-clause-pipe c = rw c.insert_pipe-key.ensures.stored (c.pipe_of.ensures.queue, c.pipe_of.ensures.readers, c.pipe_of.ensures.writers)
