use Rattle.std.proofs.Common.{subst}
use Rattle.kres_tool.specs.Read.{IsReadAs}
use Rattle.kres_tool.specs.Tool.{Input, Output, input, output}
use Rattle.kres_tool.proofs.Outcomes.{fault_ends, script_ends}
use Rattle.kres_tool.proofs.tool.answer_source.Goals as goal

pub returns-in-Ok-Script : goal.returns-in-Ok-Script
returns-in-Ok-Script g c =
    let i : Input = input g.S.Source.left g.S.Source.faults c.args.source.now c.read_script.new.source in
    let o : Output = output g.K.Sink.held g.K.Sink.faults g.K.Sink.put_gives c.args.sink.now c.answer_script-status.new.sink in
    let read = subst (λ it. IsReadAs it i.left i.left' i.takes i.takes') c.in-Ok-Script.field-0-is c.in-Ok-Script.ensures in
    script_ends i o c.args.task c.in-Ok-Script.script c.answer_script-status.new.store_out c.answer_script-status.result read.0 c.answer_script-status.ensures

pub returns-in-Ok-Bad : goal.returns-in-Ok-Bad
returns-in-Ok-Bad g c =
    let i : Input = input g.S.Source.left g.S.Source.faults c.args.source.now c.read_script.new.source in
    let o : Output = output g.K.Sink.held g.K.Sink.faults g.K.Sink.put_gives c.args.sink.now c.tell_fault.new.sink in
    fault_ends i o c.args.task c.in-Ok-Bad.fault c.args.store_out.now c.tell_fault.result
    (subst (λ it. IsReadAs it i.left i.left' i.takes i.takes') c.in-Ok-Bad.field-0-is c.in-Ok-Bad.ensures) c.requires.none c.tell_fault.ensures
