use Rattle.std.proofs.Common.{Ok}
use Rattle.script_parse.proofs.ValidScripts.{reads_valid}
use Rattle.script_parse.proofs.laws.what_reads_is_valid.Goals as goal

pub returns : goal.returns
returns c = λ text script reads. reads_valid text (Ok script) reads
