use Rattle.std.proofs.Common.{None, Some, sym, ◌∙◌}
use Rattle.script_words.proofs.Joined.{more_joined, none_joined, last_joined}
use Rattle.script_words.proofs.values.constants.Goals as goal

pub loop-part-preserved : goal.loop-part-preserved
loop-part-preserved c =
    c.loop-part.invariant
    ∙ more_joined c.loop-part.number c.in_ok-number.field-0 c.loop-part.rest.now c.in-Some.part.now c.in-Some.next.now c.in-Some.ensures.0 c.in-Some.ensures.1 c.in_ok-number.ensures

pub returns-in_err-number : goal.returns-in_err-number
returns-in_err-number c =
    c.from_residual.ensures
    ∙ sym (c.loop-part.invariant ∙ none_joined c.loop-part.number c.loop-part.rest.now c.in-Some.part.now c.in-Some.next.now c.in-Some.ensures.0 c.in-Some.ensures.1 c.in_err-number.ensures)

pub returns-in_err-constant : goal.returns-in_err-constant
returns-in_err-constant c =
    c.from_residual-in_err-constant.ensures
    ∙ sym (c.loop-part.invariant ∙ last_joined c.loop-part.number c.loop-part.rest.now None c.in_default.ensures c.in_err-constant.ensures)

pub returns : goal.returns
returns c =
    sym (c.loop-part.invariant ∙ last_joined c.loop-part.number c.loop-part.rest.now (Some c.in_ok-constant.field-0) c.in_default.ensures c.in_ok-constant.ensures)
