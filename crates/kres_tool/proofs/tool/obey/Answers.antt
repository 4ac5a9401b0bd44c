use Rattle.std.proofs.Common.{ap, sym, subst, ◌∙◌}
use Rattle.posix_defs.specs.Canonical.{canonical}
use Rattle.posix_defs.specs.Generated.{generated}
use Rattle.posix_defs.specs.PriceText.{table_text}
use Rattle.kres_tool.specs.declared.commands.Command.TheVariants.{OnScript}
use Rattle.kres_tool.specs.Tool.{CommandEnds, Input, Output, input, output}
use Rattle.kres_tool.proofs.tool.obey.Goals as goal

pub returns-in-Table-clause-ends : goal.returns-in-Table-clause-ends
returns-in-Table-clause-ends g c =
    let i : Input = input g.S.Source.left g.S.Source.faults c.args.source.now c.args.source.now in
    let o : Output = output g.K.Sink.held g.K.Sink.faults g.K.Sink.put_gives c.args.sink.now c.tell.new.sink in
    subst (λ command. CommandEnds i o c.args.store_out.now command c.tell.result) (sym c.in-Table.is) (c.tell.ensures table_text c.table.ensures, c.requires.none)

pub returns-in-Gen-clause-ends : goal.returns-in-Gen-clause-ends
returns-in-Gen-clause-ends g c =
    let i : Input = input g.S.Source.left g.S.Source.faults c.args.source.now c.args.source.now in
    let o : Output = output g.K.Sink.held g.K.Sink.faults g.K.Sink.put_gives c.args.sink.now c.tell-in-Gen.new.sink in
    subst (λ command. CommandEnds i o c.args.store_out.now command c.tell-in-Gen.result) (sym c.in-Gen.is)
    (c.tell-in-Gen.ensures (canonical (generated c.in-Gen.rounds)) c.generated_text.ensures, c.requires.none)

pub returns-in-Load-clause-ends : goal.returns-in-Load-clause-ends
returns-in-Load-clause-ends g c =
    let i : Input = input g.S.Source.left g.S.Source.faults c.args.source.now c.args.source.now in
    let o : Output = output g.K.Sink.held g.K.Sink.faults g.K.Sink.put_gives c.args.sink.now c.load.new.sink in
    subst (λ command. CommandEnds i o c.load.new.store_out command c.load.result) (sym c.in-Load.is) c.load.ensures

pub returns-in-OnScript-clause-untouched : goal.returns-in-OnScript-clause-untouched
returns-in-OnScript-clause-untouched g c = λ other no_groups. absurd (other c.in-OnScript.task c.in-OnScript.is)

pub answer_source-requires-clause-plain : goal.answer_source-requires-clause-plain
answer_source-requires-clause-plain g c = λ workers is. c.requires.plain workers (c.in-OnScript.is ∙ ap OnScript is)
