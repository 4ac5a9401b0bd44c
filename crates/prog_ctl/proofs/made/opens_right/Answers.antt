use Rattle.std.proofs.Common.{map, sym, ap, ◌∙◌}
use Rattle.std.specs.Result.{result_err}
use Rattle.posix_defs.specs.Control.{value_of}
use Rattle.prog_ctl.proofs.Waiting.{open_waits, open_fails}
use Rattle.prog_ctl.proofs.made.opens_right.Goals as goal

pub returns-in-Ok : goal.returns-in-Ok
returns-in-Ok c =
    open_waits c.made_with_texts-call.result (map (value_of c.args.control.now) c.args.operands.now) c.args.texts.now c.args.control.now.done
    (c.made_with_texts-call.ensures c.args.control.now.done tt) (sym c.checked.ensures ∙ ap result_err c.in-Ok.is)

pub returns-in-Err : goal.returns-in-Err
returns-in-Err c =
    open_fails c.made_with_texts-call.result (map (value_of c.args.control.now) c.args.operands.now) c.args.texts.now c.args.control.now.done c.in-Err.field-0
    (c.made_with_texts-call.ensures c.args.control.now.done tt) (sym c.checked.ensures ∙ ap result_err c.in-Err.is)
