use Rattle.std.proofs.Common.{arith, ap, sym, ◌∙◌}
use Rattle.posix_defs.specs.ScriptLines.{value_path}
use Rattle.posix_defs.specs.ScriptValues.{both, path, with}
use Rattle.script_words.proofs.FewWords.{of_value_and_text, two_are}
use Rattle.script_words.proofs.Told.{told_as}
use Rattle.script_words.proofs.operands.value_path.Goals as goal

pub returns-in-len2 : goal.returns-in-len2
returns-in-len2 c =
    let first = c.first-item.result in
    let second = c.second-item.result in
    let are = two_are c.args.words.now first second (omega arith) (omega arith) c.first-item.is c.second-item.is in
    told_as _ c.value_and_text.result (ap (λ said. with of_value_and_text (both said (path second))) c.value.ensures ∙ ap value_path (sym are)) (c.value_and_text.ensures (path second) c.path.ensures)
