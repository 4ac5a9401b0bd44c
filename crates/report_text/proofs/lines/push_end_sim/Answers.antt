use Rattle.std.proofs.Common.{append_assoc}
use Rattle.std.proofs.lemmas.Result.{IfOk-equal}
use Rattle.report_text.proofs.lines.push_end_sim.Goals as goal

pub returns : goal.returns
returns c = IfOk-equal _ _ _ _ c.write.ensures.bytes (simp (c.in_ok-push_end_word.ensures, c.in_ok-push_str.ensures.bytes, append_assoc))
