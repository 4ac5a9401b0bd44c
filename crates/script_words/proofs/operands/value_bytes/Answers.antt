use Rattle.std.proofs.Common.{arith, ap, sym, ◌∙◌}
use Rattle.posix_defs.specs.ScriptLines.{value_bytes}
use Rattle.posix_defs.specs.ScriptValues.{both, stored, with}
use Rattle.script_words.proofs.FewWords.{of_value_and_text, two_are}
use Rattle.script_words.proofs.Told.{told_as}
use Rattle.script_words.proofs.operands.value_bytes.Goals as goal

pub returns-in-len2 : goal.returns-in-len2
returns-in-len2 c =
    let first = c.first-item.result in
    let second = c.second-item.result in
    let are = two_are c.args.words.now first second (omega arith) (omega arith) c.first-item.is c.second-item.is in
    told_as _ c.value_and_text.result (ap (λ said. with of_value_and_text (both said (stored second))) c.value.ensures ∙ ap value_bytes (sym are)) (c.value_and_text.ensures (stored second) c.stored.ensures)
