use Rattle.machine_laws.proofs.Texting.{valid_texts}
use Rattle.machine_laws.proofs.whole.valid_scripts_have_texts.Goals as goal

pub returns : goal.returns
returns c = valid_texts
