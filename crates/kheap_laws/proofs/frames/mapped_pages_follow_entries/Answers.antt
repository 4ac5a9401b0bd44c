use Rattle.kheap_laws.proofs.SpaceLemmas.{mapped_count-entry}
use Rattle.kheap_laws.proofs.frames.mapped_pages_follow_entries.Goals as goal

pub returns : goal.returns
returns c = mapped_count-entry
