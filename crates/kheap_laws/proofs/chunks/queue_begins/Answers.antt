use Rattle.kheap_laws.proofs.QueueLemmas.{OwnsChunks-begin}
use Rattle.kheap_laws.proofs.chunks.queue_begins.Goals as goal

pub returns : goal.returns
returns c = OwnsChunks-begin
