use Rattle.std.proofs.Common.{ap, refl}
use Rattle.posix_defs.specs.ScriptValues.{both, with}
use Rattle.script_words.proofs.FewWords.{of_value_and_text}
use Rattle.script_words.proofs.Told.{err_is, stops, tells_fault, told_as}
use Rattle.script_words.proofs.operands.value_and_text.Goals as goal

pub returns-in_err-value : goal.returns-in_err-value
returns-in_err-value c = λ text is_text.
    stops _ (λ said. said) c.in_err-value.field-0.0 c.from_residual.result (both c.args.value text) (with of_value_and_text) (λ k. refl)
    (err_is c.in_err-value.field-0.0 c.from_residual.result c.from_residual.ensures.1)
    (c.in_err-value.ensures.said c.args.value text (tells_fault c.args.value c.map_err.result c.map_err.ensures.cases) is_text)

pub returns : goal.returns
returns c = λ text is_text.
    let is_value = tells_fault c.args.value c.map_err.result c.map_err.ensures.cases in
    told_as _ c.one_of_each.result (ap (with of_value_and_text) (c.in_ok-value.ensures.said c.args.value text is_value is_text)) c.one_of_each.ensures
