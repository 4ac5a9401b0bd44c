use Rattle.kheap_laws.proofs.TableLemmas.{OwnsItsObjects-proc_goes, OwnsItsObjects-pipe_goes, OwnsItsObjects-sock_goes}
use Rattle.kheap_laws.proofs.tables.empty_objects_go.Goals as goal

pub returns-clause-process : goal.returns-clause-process
returns-clause-process c = OwnsItsObjects-proc_goes

pub returns-clause-pipe : goal.returns-clause-pipe
returns-clause-pipe c = OwnsItsObjects-pipe_goes

pub returns-clause-socket : goal.returns-clause-socket
returns-clause-socket c = OwnsItsObjects-sock_goes
