use Rattle.kheap_laws.proofs.TableLemmas.{OwnsItsObjects-proc_comes, OwnsItsObjects-pipe_comes, OwnsItsObjects-sock_comes}
use Rattle.kheap_laws.proofs.tables.empty_objects_come.Goals as goal

pub returns-clause-process : goal.returns-clause-process
returns-clause-process c = OwnsItsObjects-proc_comes

pub returns-clause-pipe : goal.returns-clause-pipe
returns-clause-pipe c = OwnsItsObjects-pipe_comes

pub returns-clause-socket : goal.returns-clause-socket
returns-clause-socket c = OwnsItsObjects-sock_comes
