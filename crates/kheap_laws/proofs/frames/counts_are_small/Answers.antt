use Rattle.kheap_laws.proofs.SpaceLemmas.{IsCounted-most}
use Rattle.kheap_laws.proofs.frames.counts_are_small.Goals as goal

pub returns : goal.returns
returns c = IsCounted-most
