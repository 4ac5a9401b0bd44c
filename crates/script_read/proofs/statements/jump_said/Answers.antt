use Rattle.std.proofs.Common.{ap, refl, ◌∙◌}
use Rattle.posix_defs.specs.ScriptLines.{only}
use Rattle.posix_defs.specs.ScriptValues.{name, with}
use Rattle.posix_defs.specs.declared.said.Spoken.TheVariants as spoken
use Rattle.script_words.specs.declared.refused.Refused.TheVariants as refused
use Rattle.script_read.proofs.StatementWords.{jump_is}
use Rattle.script_words.proofs.Told.{err_is, stops_at, told_as}
use Rattle.script_read.proofs.statements.jump_said.Goals as goal

pub returns-in_err-only_name : goal.returns-in_err-only_name
returns-in_err-only_name c =
    let kind = c.in_err-only_name.field-0.0 in
    told_as _ c.from_residual.result (jump_is c.args.words.now)
    (stops_at _ kind c.from_residual.result (only name c.args.words.now) (with spoken.Jump) (λ k. refl)
    (err_is (refused.Fault kind) c.from_residual.result c.from_residual.ensures.1) c.in_err-only_name.ensures)

pub returns : goal.returns
returns c = ap (with spoken.Jump) c.in_ok-only_name.ensures ∙ jump_is c.args.words.now
