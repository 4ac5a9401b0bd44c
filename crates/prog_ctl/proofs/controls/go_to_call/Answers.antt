use Rattle.std.proofs.Common.{◌≡◌, None, arith, subst, sym}
use Rattle.std.specs.Prelude.{slice_get}
use Rattle.posix_defs.specs.Control.{local_at}
use Rattle.prog_ctl.specs.Runnable.{Stands}
use Rattle.prog_ctl.proofs.Settling.{same_body, settled_is}
use Rattle.prog_ctl.proofs.Staying.{settled_stands}
use Rattle.prog_ctl.proofs.ValidPrograms.{body_runs, place_fits}
use Rattle.prog_ctl.proofs.controls.go_to_call.Goals as goal

pub returns-clause-rests : goal.returns-clause-rests
returns-clause-rests c =
    let now = c.settle.new.control in
    subst (λ b. local_at now (slice_get b now.place) ≡ None)
    (same_body c.args.script.now c.args.control.now now c.body_of.result.now c.body_of.ensures c.settle.ensures.settled) c.settle.ensures.rests

pub returns-clause-stands : goal.returns-clause-stands
returns-clause-stands c =
    subst (Stands c.args.script.now)
    (sym (settled_is c.args.script.now c.args.control.now c.settle.new.control c.body_of.result.now c.body_of.ensures c.settle.ensures.settled))
    (settled_stands c.args.script.now c.args.control.now c.requires)

pub settle-requires-clause-runnable : goal.settle-requires-clause-runnable
settle-requires-clause-runnable c = (body_runs c.args.script.now c.args.control.now c.body_of.result.now c.requires c.body_of.ensures).0

pub settle-requires-clause-short : goal.settle-requires-clause-short
settle-requires-clause-short c =
    let short = (body_runs c.args.script.now c.args.control.now c.body_of.result.now c.requires c.body_of.ensures).1 in omega (arith, short)

pub settle-requires-clause-place : goal.settle-requires-clause-place
settle-requires-clause-place c = let fits = place_fits c.args.script.now c.args.control.now c.requires in omega (arith, fits)
