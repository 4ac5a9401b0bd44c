use Rattle.kern_laws.proofs.Sleepers.{covered_in}
use Rattle.kern_laws.proofs.histories.what_is_evicted_was_cached.Goals as goal

pub returns : goal.returns
returns c = λ script history past run. covered_in run
