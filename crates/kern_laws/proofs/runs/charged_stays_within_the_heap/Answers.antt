use Rattle.kern_laws.proofs.Charged.{charged_within}
use Rattle.kern_laws.proofs.runs.charged_stays_within_the_heap.Goals as goal

pub returns : goal.returns
returns c = λ script steps run s is_run enough. charged_within is_run enough
