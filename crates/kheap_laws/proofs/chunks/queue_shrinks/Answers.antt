use Rattle.kheap_laws.proofs.QueueLemmas.{OwnsChunks-drop}
use Rattle.kheap_laws.proofs.chunks.queue_shrinks.Goals as goal

pub returns : goal.returns
returns c = OwnsChunks-drop
