use Rattle.std.proofs.Common.{subst}
use Rattle.std.proofs.lemmas.Result.{IfOk-weaker}
use Rattle.kres_tool.specs.Groups.{SaysGroups}
use Rattle.kres_tool.specs.Read.{HasRead}
use Rattle.kres_tool.specs.Tool.{Input, input}
use Rattle.kres_tool.proofs.Grouping.{groups_read_as}
use Rattle.kres_tool.proofs.groups.read_groups.Goals as goal

pub returns-in-Read : goal.returns-in-Read
returns-in-Read g c =
    let i : Input = input g.S.Source.left g.S.Source.faults c.args.source.now c.read_text.new.source in
    let had = subst (λ text. HasRead text i.left i.left' i.takes i.takes') c.in-Read.is c.in_ok-text.ensures.read in
    IfOk-weaker c.understand.result _ _
    (λ it says. groups_read_as it c.in-Read.text.items i.left i.left' i.takes i.takes' had.0 had.1 (subst (λ text. SaysGroups text it) c.as_slice.ensures.value says))
    c.understand.ensures
