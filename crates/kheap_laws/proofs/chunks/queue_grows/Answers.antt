use Rattle.kheap_laws.proofs.QueueLemmas.{OwnsChunks-push}
use Rattle.kheap_laws.proofs.chunks.queue_grows.Goals as goal

pub returns : goal.returns
returns c = OwnsChunks-push
