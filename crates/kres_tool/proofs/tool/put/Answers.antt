use Rattle.std.proofs.Common.{subst}
use Rattle.kres_tool.specs.Tool.{HasPut, Output, output}
use Rattle.kres_tool.proofs.tool.put.Goals as goal

pub returns : goal.returns
returns g c =
    let o : Output = output g.K.Sink.held g.K.Sink.faults g.K.Sink.put_gives c.args.sink.now c.put_bytes.new.sink in
    subst (λ bytes. HasPut o bytes c.put_bytes.result) c.as_bytes.ensures.value c.put_bytes.ensures
