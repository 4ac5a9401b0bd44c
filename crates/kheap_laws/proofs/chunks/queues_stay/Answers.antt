use Rattle.kheap_laws.proofs.QueueLemmas.{OwnsChunks-kept, OwnsChunks-apart, OwnsChunks-written}
use Rattle.kheap_laws.proofs.chunks.queues_stay.Goals as goal

pub returns-clause-same : goal.returns-clause-same
returns-clause-same c = OwnsChunks-kept

pub returns-clause-apart : goal.returns-clause-apart
returns-clause-apart c = OwnsChunks-apart

pub returns-clause-written : goal.returns-clause-written
returns-clause-written c = OwnsChunks-written
