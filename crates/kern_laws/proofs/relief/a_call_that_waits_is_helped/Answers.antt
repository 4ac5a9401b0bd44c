use Rattle.std.proofs.Common.{length}
use Rattle.kern_laws.proofs.Progress.{helped}
use Rattle.kern_laws.proofs.Sounds.{is_sound}
use Rattle.kern_laws.proofs.relief.a_call_that_waits_is_helped.Goals as goal

pub returns : goal.returns
returns c = λ script steps run s is_run none some. helped script steps (length run) s (is_sound is_run) none some
