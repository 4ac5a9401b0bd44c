use Rattle.kern_laws.proofs.Progress.{progress}
use Rattle.kern_laws.proofs.runs.something_can_be_taken.Goals as goal

pub returns : goal.returns
returns c = λ script steps run s is_run no_end. progress is_run no_end
