use Rattle.std.proofs.Common.{refl, string_bytes}
use Rattle.kres_tool.specs.Status.{status_of}
use Rattle.kres_tool.specs.Tool.{output}
use Rattle.kres_tool.proofs.Outcomes.{load_ends}
use Rattle.kres_tool.proofs.tool.load.Goals as goal

pub returns-in-Ok : goal.returns-in-Ok
returns-in-Ok g c =
    load_ends (output g.K.Sink.held g.K.Sink.faults g.K.Sink.put_gives c.args.sink.now c.tell_run.new.sink) c.args.rounds (string_bytes c.in-Ok.reported.text)
    c.run_generated.new.store_out c.tell_run.new.store_out (status_of c.in-Ok.reported.end) c.tell_run.result c.in-Ok.ensures c.tell_run.ensures

pub returns-in-Err : goal.returns-in-Err
returns-in-Err g c = (refl, c.forget.ensures)
