use Rattle.std.proofs.Common.{refl, string_bytes}
use Rattle.kres_tool.specs.Status.{status_of}
use Rattle.kres_tool.specs.Tool.{ends_so, wants_memory}
use Rattle.kres_tool.proofs.tool.simulate.Goals as goal

pub returns-in-Ok : goal.returns-in-Ok
returns-in-Ok g c =
    ends_so (string_bytes c.in-Ok.reported.text) c.run_script.new.store_out (status_of c.in-Ok.reported.end) c.tell_run.result c.in-Ok.ensures c.tell_run.ensures

pub returns-in-Err : goal.returns-in-Err
returns-in-Err g c = wants_memory refl c.forget.ensures
