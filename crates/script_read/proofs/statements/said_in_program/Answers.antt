use Rattle.std.proofs.Common.{ap, refl, ◌∙◌}
use Rattle.posix_defs.specs.ScriptLines.{statement_said}
use Rattle.posix_defs.specs.ScriptValues.{with}
use Rattle.posix_defs.specs.declared.said.InProgram.TheVariants as inside
use Rattle.script_words.proofs.Told.{err_is, stops, told_as}
use Rattle.script_read.proofs.StatementWords.{says, silent}
use Rattle.script_read.proofs.statements.said_in_program.Goals as goal

pub returns-in_default : goal.returns-in_default
returns-in_default c = silent c.args.words.now c.in_default.ensures.cases

pub returns-in_err-said : goal.returns-in_err-said
returns-in_err-said c =
    let error = c.in_err-said.field-0.0 in
    let first = c.in-Some.first.now in
    let rest = c.in-Some.rest.now in
    told_as _ c.from_residual.result (says c.args.words.now first rest c.in-Some.ensures.cases.0 c.if-is_word.ensures)
    (stops _ (λ said. said) error c.from_residual.result (statement_said first rest) (with inside.Says) (λ k. refl)
    (err_is error c.from_residual.result c.from_residual.ensures.1) c.in_err-said.ensures)

pub returns : goal.returns
returns c =
    ap (with inside.Says) c.in_ok-said.ensures
    ∙ says c.args.words.now c.in-Some.first.now c.in-Some.rest.now c.in-Some.ensures.cases.0 c.if-is_word.ensures
