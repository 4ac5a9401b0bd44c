use Rattle.std.proofs.Common.{◌∙◌, ap, subst, sym}
use Rattle.std.specs.Prelude.{option_copied, slice_get}
use Rattle.posix_defs.specs.Control.{after_at, afresh}
use Rattle.prog_ctl.specs.Runnable.{Stands}
use Rattle.prog_ctl.proofs.Settling.{after_is}
use Rattle.prog_ctl.proofs.Staying.{after_stands}
use Rattle.prog_ctl.proofs.ValidPrograms.{here_runs, place_fits}
use Rattle.prog_ctl.proofs.controls.answer.Goals as goal

pub returns-clause-after : goal.returns-clause-after
returns-clause-after c =
    ap afresh (c.take_answer.ensures ∙ ap (after_at c.args.control.now c.args.reply.now)
    (c.statement_at.ensures ∙ ap (λ b. slice_get b c.args.control.now.place) c.body_of-body.ensures))
    ∙ after_is c.args.script.now c.args.control.now c.args.reply.now c.requires.rests

pub returns-clause-stands : goal.returns-clause-stands
returns-clause-stands c =
    subst (Stands c.args.script.now) (sym (returns-clause-after c))
    (after_stands c.args.script.now c.args.control.now c.args.reply.now c.requires.stands c.requires.rests)

pub take_answer-requires-clause-runnable : goal.take_answer-requires-clause-runnable
take_answer-requires-clause-runnable c =
    here_runs c.args.script.now c.args.control.now c.body_of-body.result.now (option_copied c.statement_at.result) c.requires.stands c.body_of-body.ensures c.statement_at.ensures

pub take_answer-requires-clause-place : goal.take_answer-requires-clause-place
take_answer-requires-clause-place c = place_fits c.args.script.now c.args.control.now c.requires.stands
