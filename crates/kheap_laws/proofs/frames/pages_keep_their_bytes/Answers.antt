use Rattle.kheap_laws.proofs.SpaceLemmas.{KeepsBytes-count, KeepsBytes-outside}
use Rattle.kheap_laws.proofs.frames.pages_keep_their_bytes.Goals as goal

pub returns-clause-counted : goal.returns-clause-counted
returns-clause-counted c = KeepsBytes-count

pub returns-clause-outside : goal.returns-clause-outside
returns-clause-outside c = KeepsBytes-outside
