use Rattle.std.proofs.Common.{Ok, ap, refl, ◌∙◌}
use Rattle.kabi_types.specs.declared.scripts.Statement.TheVariants as statement
use Rattle.posix_defs.specs.ScriptValues.{◌>>=◌}
use Rattle.posix_defs.specs.declared.said.Spoken.TheVariants as spoken
use Rattle.script_read.specs.Reading.{change_said}
use Rattle.script_words.specs.declared.refused.Refused.TheVariants as refused
use Rattle.script_read.proofs.StatementWords.{add_is}
use Rattle.script_words.proofs.Told.{err_is, stops_at, told_as}
use Rattle.script_read.proofs.statements.add_said.Goals as goal

pub returns-in_err-target : goal.returns-in_err-target
returns-in_err-target c =
    let kind = c.in_err-target.field-0.0 in
    told_as _ c.from_residual.result (add_is c.args.words.now)
    (stops_at _ kind c.from_residual.result (change_said c.args.words.now) (λ said. said >>= λ p. Ok (spoken.Whole (statement.Add p.0 p.1))) (λ k. refl)
    (err_is (refused.Fault kind) c.from_residual.result c.from_residual.ensures.1) c.in_err-target.ensures)

pub returns : goal.returns
returns c = ap (λ said. said >>= λ p. Ok (spoken.Whole (statement.Add p.0 p.1))) c.in_ok-target.ensures ∙ add_is c.args.words.now
