use Rattle.script_laws.proofs.GeneratedScripts.{generated_valid}
use Rattle.script_laws.proofs.generated_scripts_are_valid.Goals as goal

pub returns : goal.returns
returns c = generated_valid
