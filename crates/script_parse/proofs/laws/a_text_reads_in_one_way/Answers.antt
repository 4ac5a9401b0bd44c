use Rattle.std.proofs.Common.{sym, ◌∙◌}
use Rattle.script_parse.proofs.TextReads.{reads_as}
use Rattle.script_parse.proofs.laws.a_text_reads_in_one_way.Goals as goal

pub returns : goal.returns
returns c = λ text a b reads_a reads_b. sym (reads_as text a reads_a) ∙ reads_as text b reads_b
