use Rattle.machine_laws.proofs.Texting.{valid_texts}
use Rattle.machine_laws.proofs.Wholeness.{is_whole}
use Rattle.call_run.proofs.Stores.{sound_store}
use Rattle.call_run.proofs.laws.what_a_store_stands_for_is_sound.Goals as goal

pub returns-clause-whole : goal.returns-clause-whole
returns-clause-whole c = λ script objects world is. is_whole script world.plain (valid_texts script is.stands.valid) is.reached

pub returns-clause-sound : goal.returns-clause-sound
returns-clause-sound c = sound_store
