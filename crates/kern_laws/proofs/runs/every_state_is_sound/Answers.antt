use Rattle.kern_laws.proofs.Sounds.{is_sound}
use Rattle.kern_laws.proofs.runs.every_state_is_sound.Goals as goal

pub returns-clause-sound : goal.returns-clause-sound
returns-clause-sound c = λ script steps run s runs. is_sound runs
