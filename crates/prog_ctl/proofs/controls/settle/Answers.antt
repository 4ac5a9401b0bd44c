use Rattle.std.proofs.Common.{◌≡◌, None, sym, ap, subst, ◌∙◌, arith}
use Rattle.std.specs.Prelude.{IfSome, slice_get}
use Rattle.std.proofs.lemmas.Option.{slice_get_within}
use Rattle.posix_defs.specs.Control.{local_at}
use Rattle.prog_ctl.specs.Runnable.{IsRunnableAt}
use Rattle.prog_ctl.proofs.Settling.{settles_from, settles_on, settled_at, local_later}
use Rattle.prog_ctl.proofs.controls.settle.Goals as goal

pub loop-statement-init : goal.loop-statement-init
loop-statement-init c = ((settles_from c.args.body.now c.args.control.now), c.requires.place)

pub local-requires-clause-runnable : goal.local-requires-clause-runnable
local-requires-clause-runnable c =
    subst (λ o. IfSome o (IsRunnableAt c.loop-statement.control.place)) (sym c.in-Some.ensures) (c.requires.runnable c.loop-statement.control.place)

pub returns-then-not-local-clause-settled : goal.returns-then-not-local-clause-settled
returns-then-not-local-clause-settled c =
    let now = c.loop-statement.control in
    c.if-not-local.ensures.1
    ∙ settled_at c.args.body.now c.args.control.now now c.loop-statement.invariant.0 (ap (local_at now) (sym c.in-Some.ensures) ∙ c.if-not-local.ensures.0)

pub loop-statement-smaller : goal.loop-statement-smaller
loop-statement-smaller c =
    let now = c.loop-statement.control in
    let here = c.in-Some.statement.now in
    let within = slice_get_within c.args.body.now now.place here (sym c.in-Some.ensures) in
    let runs = subst (λ o. IfSome o (IsRunnableAt now.place)) (sym c.in-Some.ensures) (c.requires.runnable now.place) in
    let later = local_later now c.local.new.control here runs (omega (arith, within, c.requires.short)) c.if-not-local.ensures in
    omega (arith, within, later.0)

pub loop-statement-preserved : goal.loop-statement-preserved
loop-statement-preserved c =
    let now = c.loop-statement.control in
    let here = c.in-Some.statement.now in
    let within = slice_get_within c.args.body.now now.place here (sym c.in-Some.ensures) in
    let runs = subst (λ o. IfSome o (IsRunnableAt now.place)) (sym c.in-Some.ensures) (c.requires.runnable now.place) in
    let later = local_later now c.local.new.control here runs (omega (arith, within, c.requires.short)) c.if-not-local.ensures in
    ((settles_on c.args.body.now c.args.control.now now c.local.new.control here c.loop-statement.invariant.0 within (sym c.in-Some.ensures) c.if-not-local.ensures later.0), later.1)

pub returns-clause-settled : goal.returns-clause-settled
returns-clause-settled c =
    let now = c.loop-statement.control in
    settled_at c.args.body.now c.args.control.now now c.loop-statement.invariant.0 (ap (local_at now) (sym c.in_default.ensures))

pub returns-then-not-local-clause-rests : goal.returns-then-not-local-clause-rests
returns-then-not-local-clause-rests c =
    let now = c.loop-statement.control in
    subst (λ s. local_at s (slice_get c.args.body.now s.place) ≡ None) (sym c.if-not-local.ensures.1) (ap (local_at now) (sym c.in-Some.ensures) ∙ c.if-not-local.ensures.0)

pub returns-clause-rests : goal.returns-clause-rests
returns-clause-rests c = ap (local_at c.loop-statement.control) (sym c.in_default.ensures)
