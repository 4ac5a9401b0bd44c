use Rattle.kheap_laws.proofs.TableLemmas.{AreOwnersOf-pipe_out, AreOwnersOf-pipe_back}
use Rattle.kheap_laws.proofs.tables.a_pipe_has_its_queue.Goals as goal

pub returns-clause-out : goal.returns-clause-out
returns-clause-out c = AreOwnersOf-pipe_out

pub returns-clause-back : goal.returns-clause-back
returns-clause-back c = AreOwnersOf-pipe_back
