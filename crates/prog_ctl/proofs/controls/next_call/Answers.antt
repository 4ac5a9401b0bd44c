use Rattle.std.proofs.Common.{◌≡◌, None, ap, arith, subst, sym, ◌∙◌}
use Rattle.std.specs.Prelude.{option_copied, slice_get}
use Rattle.posix_defs.specs.Control.{call_at, local_at}
use Rattle.prog_ctl.specs.Runnable.{Stands}
use Rattle.prog_ctl.proofs.Settling.{call_is, same_body, settled_is}
use Rattle.prog_ctl.proofs.Staying.{settled_stands}
use Rattle.prog_ctl.proofs.ValidPrograms.{body_runs, here_runs, place_fits}
use Rattle.prog_ctl.proofs.controls.next_call.Goals as goal

pub returns-clause-call : goal.returns-clause-call
returns-clause-call c =
    c.call_at.ensures ∙ ap (call_at c.settle.new.control) c.statement_at.ensures
    ∙ call_is c.args.script.now c.args.control.now c.settle.new.control c.body_of-body.result.now c.body_of-body.ensures c.settle.ensures.settled

pub returns-clause-rests : goal.returns-clause-rests
returns-clause-rests c =
    let now = c.settle.new.control in
    subst (λ b. local_at now (slice_get b now.place) ≡ None)
    (same_body c.args.script.now c.args.control.now now c.body_of-body.result.now c.body_of-body.ensures c.settle.ensures.settled) c.settle.ensures.rests

pub returns-clause-stands : goal.returns-clause-stands
returns-clause-stands c =
    subst (Stands c.args.script.now)
    (sym (settled_is c.args.script.now c.args.control.now c.settle.new.control c.body_of-body.result.now c.body_of-body.ensures c.settle.ensures.settled))
    (settled_stands c.args.script.now c.args.control.now c.requires)

pub settle-requires-clause-runnable : goal.settle-requires-clause-runnable
settle-requires-clause-runnable c = (body_runs c.args.script.now c.args.control.now c.body_of-body.result.now c.requires c.body_of-body.ensures).0

pub settle-requires-clause-short : goal.settle-requires-clause-short
settle-requires-clause-short c =
    let short = (body_runs c.args.script.now c.args.control.now c.body_of-body.result.now c.requires c.body_of-body.ensures).1 in omega (arith, short)

pub settle-requires-clause-place : goal.settle-requires-clause-place
settle-requires-clause-place c = let fits = place_fits c.args.script.now c.args.control.now c.requires in omega (arith, fits)

pub call_at-requires : goal.call_at-requires
call_at-requires c =
    let script = c.args.script.now in
    let old = c.args.control.now in
    let now = c.settle.new.control in
    here_runs script now c.body_of-body.result.now (option_copied c.statement_at.result)
    (subst (Stands script) (sym (settled_is script old now c.body_of-body.result.now c.body_of-body.ensures c.settle.ensures.settled)) (settled_stands script old c.requires))
    (same_body script old now c.body_of-body.result.now c.body_of-body.ensures c.settle.ensures.settled) c.statement_at.ensures
