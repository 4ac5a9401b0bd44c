use Rattle.script_parse.proofs.OneReading.{reading}
use Rattle.script_parse.proofs.TextReads.{has_reading}
use Rattle.script_parse.proofs.laws.every_text_reads_or_has_a_fault.Goals as goal

pub returns : goal.returns
returns c = λ text. (reading text, has_reading text)
