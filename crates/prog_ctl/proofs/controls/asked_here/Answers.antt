use Rattle.std.proofs.Common.{ap, sym, ◌∙◌}
use Rattle.std.specs.Prelude.{option_copied, slice_get}
use Rattle.posix_defs.specs.Control.{call_at, statement_of}
use Rattle.prog_ctl.specs.Waits.{asked_for}
use Rattle.prog_ctl.proofs.Settling.{rests_settled}
use Rattle.prog_ctl.proofs.ValidPrograms.{here_runs}
use Rattle.prog_ctl.proofs.controls.asked_here.Goals as goal

pub returns : goal.returns
returns c =
    let script = c.args.script.now in
    let control = c.args.control.now in
    c.asked_at.ensures
    ∙ ap asked_for (ap (call_at control) (c.statement_at.ensures ∙ ap (λ body. slice_get body control.place) c.body_of.ensures)
    ∙ sym (ap (λ here. call_at here (statement_of script here)) (rests_settled script control c.requires.rests)))

pub asked_at-requires : goal.asked_at-requires
asked_at-requires c =
    here_runs c.args.script.now c.args.control.now c.body_of.result.now (option_copied c.statement_at.result) c.requires.stands c.body_of.ensures c.statement_at.ensures
