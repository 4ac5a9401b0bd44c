use Rattle.kres_tool.specs.Tool.{Output, output}
use Rattle.kres_tool.proofs.Puts.{has_put}
use Rattle.kres_tool.proofs.tool.put_bytes.Goals as goal

pub returns : goal.returns
returns g c =
    let o : Output = output g.K.Sink.held g.K.Sink.faults g.K.Sink.put_gives c.args.sink.now c.write_text.new.sink in
    let put = c.write_text.ensures in
    has_put o c.args.bytes.now c.write_text.result put.written put.offered put.no_fault put.begun put.offered_part put.fault
