use Rattle.kheap_laws.proofs.QueueLemmas.{OwnsChunks-most, OwnsChunks-none}
use Rattle.kheap_laws.proofs.chunks.queues_are_short.Goals as goal

pub returns-clause-most : goal.returns-clause-most
returns-clause-most c = OwnsChunks-most

pub returns-clause-none : goal.returns-clause-none
returns-clause-none c = OwnsChunks-none
