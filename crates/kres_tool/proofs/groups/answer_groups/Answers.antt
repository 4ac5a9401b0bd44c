use Rattle.std.proofs.Common.{subst}
use Rattle.kres_tool.specs.Groups.{IsGroupsReadAs}
use Rattle.kres_tool.specs.Tool.{Input, Output, input, output}
use Rattle.kres_tool.proofs.Grouping.{groups_fault_ends, list_ends}
use Rattle.kres_tool.proofs.groups.answer_groups.Goals as goal

pub returns-in-Ok-Groups : goal.returns-in-Ok-Groups
returns-in-Ok-Groups g c =
    let i : Input = input g.S.Source.left g.S.Source.faults c.args.source.now c.read_groups.new.source in
    let o : Output = output g.K.Sink.held g.K.Sink.faults g.K.Sink.put_gives c.args.sink.now c.answer_list-status.new.sink in
    let read = subst (λ it. IsGroupsReadAs it i.left i.left' i.takes i.takes') c.in-Ok-Groups.field-0-is c.in-Ok-Groups.ensures in
    list_ends i o c.in-Ok-Groups.list c.answer_list-status.result read.0 c.answer_list-status.ensures

pub returns-in-Ok-Bad : goal.returns-in-Ok-Bad
returns-in-Ok-Bad g c =
    let i : Input = input g.S.Source.left g.S.Source.faults c.args.source.now c.read_groups.new.source in
    let o : Output = output g.K.Sink.held g.K.Sink.faults g.K.Sink.put_gives c.args.sink.now c.tell_fault.new.sink in
    groups_fault_ends i o c.in-Ok-Bad.fault c.tell_fault.result
    (subst (λ it. IsGroupsReadAs it i.left i.left' i.takes i.takes') c.in-Ok-Bad.field-0-is c.in-Ok-Bad.ensures) c.tell_fault.ensures
