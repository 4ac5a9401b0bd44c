use Rattle.kheap_laws.proofs.TableLemmas.{OwnsItsObjects-along, OwnsItsObjects-proc_set, OwnsItsObjects-pipe_set, OwnsItsObjects-sock_set}
use Rattle.kheap_laws.proofs.tables.owned_objects_stay.Goals as goal

pub returns-clause-others : goal.returns-clause-others
returns-clause-others c = OwnsItsObjects-along

pub returns-clause-process : goal.returns-clause-process
returns-clause-process c = OwnsItsObjects-proc_set

pub returns-clause-pipe : goal.returns-clause-pipe
returns-clause-pipe c = OwnsItsObjects-pipe_set

pub returns-clause-socket : goal.returns-clause-socket
returns-clause-socket c = OwnsItsObjects-sock_set
