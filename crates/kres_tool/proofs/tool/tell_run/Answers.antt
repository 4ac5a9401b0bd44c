use Rattle.std.proofs.Common.{sym, subst, string_bytes}
use Rattle.kres_tool.specs.Status.{status_of}
use Rattle.kres_tool.specs.Tool.{Broke, HandsOut, Output, Wrote, output, whole_text}
use Rattle.kres_tool.proofs.Outcomes.{nothing_handed}
use Rattle.kres_tool.proofs.tool.tell_run.Goals as goal

pub returns-in-Ok : goal.returns-in-Ok
returns-in-Ok g c =
    let o : Output = output g.K.Sink.held g.K.Sink.faults g.K.Sink.put_gives c.args.sink.now c.put.new.sink in
    let whole = string_bytes c.args.reported.now.text in
    subst (HandsOut o whole c.args.store_out.now (status_of c.args.reported.now.end) c.args.store_out.now) (sym c.of.ensures)
    (whole_text (subst (Wrote o) c.as_str.ensures.value c.in-Ok.ensures))

pub returns-in-Err : goal.returns-in-Err
returns-in-Err g c =
    let o : Output = output g.K.Sink.held g.K.Sink.faults g.K.Sink.put_gives c.args.sink.now c.put.new.sink in
    nothing_handed o (string_bytes c.args.reported.now.text) c.args.store_out.now c.forget.new.store_out (status_of c.args.reported.now.end)
    c.forget.ensures (subst (Broke o) c.as_str.ensures.value c.in-Err.ensures)
