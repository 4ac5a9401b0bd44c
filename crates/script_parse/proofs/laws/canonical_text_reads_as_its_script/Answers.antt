use Rattle.script_parse.proofs.PrintedScripts.{canonical_reads}
use Rattle.script_parse.proofs.laws.canonical_text_reads_as_its_script.Goals as goal

pub returns : goal.returns
returns c = canonical_reads
