use Rattle.std.proofs.Common.{sym, subst}
use Rattle.posix_defs.specs.Canonical.{canonical}
use Rattle.kres_tool.specs.Tool.{Output, ScriptEnds, output}
use Rattle.kres_tool.proofs.Outcomes.{print_ends}
use Rattle.kres_tool.proofs.tool.answer_script.Goals as goal

pub returns-in-Sim : goal.returns-in-Sim
returns-in-Sim g c =
    let o : Output = output g.K.Sink.held g.K.Sink.faults g.K.Sink.put_gives c.args.sink.now c.simulate.new.sink in
    subst (λ task. ScriptEnds o task c.args.script.now c.simulate.new.store_out c.simulate.result) (sym c.in-Sim.is) c.simulate.ensures

pub returns-in-Print : goal.returns-in-Print
returns-in-Print g c =
    let o : Output = output g.K.Sink.held g.K.Sink.faults g.K.Sink.put_gives c.args.sink.now c.tell.new.sink in
    subst (λ task. ScriptEnds o task c.args.script.now c.args.store_out.now c.tell.result) (sym c.in-Print.is)
    (print_ends o c.args.script.now c.args.store_out.now c.tell.result c.requires.none (c.tell.ensures (canonical c.args.script.now) c.print.ensures.canonical))
