use Rattle.kheap_laws.proofs.SpaceLemmas.{OwnsNodes-apart}
use Rattle.kheap_laws.proofs.frames.spaces_stay_apart.Goals as goal

pub returns : goal.returns
returns c = OwnsNodes-apart
