use Rattle.std.proofs.Common.{Some, None, ap, refl, sym, ◌∙◌}
use Rattle.posix_defs.specs.ScriptLines.{invoked, operands_said}
use Rattle.posix_defs.specs.ScriptValues.{with}
use Rattle.script_words.proofs.Told.{err_is, stops, told_as}
use Rattle.script_read.proofs.StatementWords.{called, not_called}
use Rattle.script_read.proofs.statements.call_said.Goals as goal

pub returns-in_default : goal.returns-in_default
returns-in_default c = not_called c.args.first c.args.second c.args.words.now c.in_default.ensures.cases

pub returns-in_default-kind_said : goal.returns-in_default-kind_said
returns-in_default-kind_said c =
    called c.args.first c.args.second c.args.words.now c.in-Some.word.now c.in-Some.rest.now None c.in-Some.ensures.cases.0
    (sym c.in_default-kind_said.is ∙ c.kind_said.ensures)

pub returns-in_err-operands : goal.returns-in_err-operands
returns-in_err-operands c =
    let error = c.in_err-operands.field-0.0 in
    let kind = c.in-Some-kind_said.kind in
    let rest = c.in-Some.rest.now in
    let invoke = with (invoked kind c.args.first c.args.second) in
    told_as _ c.from_residual.result
    (ap (λ shape. invoke (operands_said shape rest)) c.shape_of.ensures
    ∙ called c.args.first c.args.second c.args.words.now c.in-Some.word.now rest (Some kind) c.in-Some.ensures.cases.0 c.in-Some-kind_said.ensures)
    (stops _ (λ said. said) error c.from_residual.result (operands_said c.shape_of.result rest) invoke (λ k. refl)
    (err_is error c.from_residual.result c.from_residual.ensures.1) c.in_err-operands.ensures)

pub returns : goal.returns
returns c =
    let kind = c.in-Some-kind_said.kind in
    let rest = c.in-Some.rest.now in
    let invoke = with (invoked kind c.args.first c.args.second) in
    ap invoke c.in_ok-operands.ensures ∙ ap (λ shape. invoke (operands_said shape rest)) c.shape_of.ensures
    ∙ called c.args.first c.args.second c.args.words.now c.in-Some.word.now rest (Some kind) c.in-Some.ensures.cases.0 c.in-Some-kind_said.ensures
