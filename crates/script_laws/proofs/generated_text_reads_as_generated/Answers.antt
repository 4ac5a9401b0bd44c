use Rattle.posix_defs.specs.Generated.{generated}
use Rattle.script_parse.proofs.PrintedScripts.{canonical_reads}
use Rattle.script_laws.proofs.GeneratedScripts.{generated_short, generated_valid}
use Rattle.script_laws.proofs.generated_text_reads_as_generated.Goals as goal

pub returns : goal.returns
returns c = λ n most. canonical_reads (generated n) (generated_valid n most) (generated_short n most)
