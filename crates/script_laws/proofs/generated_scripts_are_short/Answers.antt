use Rattle.script_laws.proofs.GeneratedScripts.{generated_short}
use Rattle.script_laws.proofs.generated_scripts_are_short.Goals as goal

pub returns : goal.returns
returns c = generated_short
