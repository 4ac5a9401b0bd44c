use Rattle.std.proofs.Common.{refl, subst}
use Rattle.kres_tool.specs.declared.commands.Command.TheVariants.{OnScript, Load}
use Rattle.kres_tool.specs.declared.commands.Task.TheVariants.{Sim}
use Rattle.kres_tool.specs.Tool.{CommandEnds, input, output}
use Rattle.kres_tool.specs.Words.{Asks}
use Rattle.kres_tool.proofs.Causing.{command_cause, completes, others_cause}
use Rattle.kres_tool.proofs.Headlines.{load_keeps, sim_keeps}
use Rattle.kres_tool.proofs.Asking.{asks_once}
use Rattle.kres_tool.proofs.tool.run_plain.Goals as goal

pub obey-requires-clause-plain : goal.obey-requires-clause-plain
obey-requires-clause-plain g c = λ workers is. c.requires.plain.script workers (subst (Asks c.args.words.now) is c.in-Some.ensures)

pub obey-requires-clause-no_groups : goal.obey-requires-clause-no_groups
obey-requires-clause-no_groups g c = λ workers is. c.requires.plain.groups workers (subst (Asks c.args.words.now) is c.in-Some.ensures)

obeyed : goal.returns-in-Some-clause-obeys
obeyed g c = record {
  commands = λ command asks.
      subst
      (λ asked. CommandEnds (input g.S.Source.left g.S.Source.faults c.args.source.now c.obey.new.source)
      (output g.K.Sink.held g.K.Sink.faults g.K.Sink.put_gives c.args.sink.now c.obey.new.sink) c.obey.new.store_out asked c.obey.result)
      (asks_once c.args.words.now c.in-Some.command command c.in-Some.ensures asks) c.obey.ensures.ends;
  others = λ none. absurd (none c.in-Some.command c.in-Some.ensures);
  untouched = λ none no_groups.
      c.obey.ensures.untouched (λ task is. none task (subst (Asks c.args.words.now) is c.in-Some.ensures)) (λ workers is. no_groups workers (subst (Asks c.args.words.now) is c.in-Some.ensures));
}

pub returns-in-Some-clause-obeys : goal.returns-in-Some-clause-obeys
returns-in-Some-clause-obeys g c = obeyed g c

pub returns-in-Some-clause-complete : goal.returns-in-Some-clause-complete
returns-in-Some-clause-complete g c =
    completes c.args.words.now (input g.S.Source.left g.S.Source.faults c.args.source.now c.obey.new.source)
    (output g.K.Sink.held g.K.Sink.faults g.K.Sink.put_gives c.args.sink.now c.obey.new.sink) c.obey.new.store_out c.obey.result (obeyed g c)

pub returns-in-Some-clause-causes : goal.returns-in-Some-clause-causes
returns-in-Some-clause-causes g c =
    command_cause c.args.words.now (input g.S.Source.left g.S.Source.faults c.args.source.now c.obey.new.source)
    (output g.K.Sink.held g.K.Sink.faults g.K.Sink.put_gives c.args.sink.now c.obey.new.sink) c.obey.new.store_out c.in-Some.command c.obey.result
    c.in-Some.ensures c.obey.ensures.ends

pub returns-in-Some-clause-headline : goal.returns-in-Some-clause-headline
returns-in-Some-clause-headline g c = λ asks.
    sim_keeps (input g.S.Source.left g.S.Source.faults c.args.source.now c.obey.new.source)
    (output g.K.Sink.held g.K.Sink.faults g.K.Sink.put_gives c.args.sink.now c.obey.new.sink) c.obey.new.store_out c.obey.result
    (subst
    (λ asked. CommandEnds (input g.S.Source.left g.S.Source.faults c.args.source.now c.obey.new.source)
    (output g.K.Sink.held g.K.Sink.faults g.K.Sink.put_gives c.args.sink.now c.obey.new.sink) c.obey.new.store_out asked c.obey.result)
    (asks_once c.args.words.now c.in-Some.command (OnScript Sim) c.in-Some.ensures asks) c.obey.ensures.ends)

said_so : goal.returns-in-None-clause-obeys
said_so g c = record {
  commands = λ command asks. absurd (c.in-None.ensures command asks);
  others = λ _. (c.tell_usage.ensures, c.forget.ensures);
  untouched = λ _ _. refl;
}

pub returns-in-None-clause-obeys : goal.returns-in-None-clause-obeys
returns-in-None-clause-obeys g c = said_so g c

pub returns-in-None-clause-causes : goal.returns-in-None-clause-causes
returns-in-None-clause-causes g c =
    others_cause c.args.words.now (input g.S.Source.left g.S.Source.faults c.args.source.now c.args.source.now)
    (output g.K.Sink.held g.K.Sink.faults g.K.Sink.put_gives c.args.sink.now c.tell_usage.new.sink) c.forget.new.store_out c.tell_usage.result
    c.in-None.ensures c.tell_usage.ensures refl

pub returns-in-None-clause-complete : goal.returns-in-None-clause-complete
returns-in-None-clause-complete g c =
    completes c.args.words.now (input g.S.Source.left g.S.Source.faults c.args.source.now c.args.source.now)
    (output g.K.Sink.held g.K.Sink.faults g.K.Sink.put_gives c.args.sink.now c.tell_usage.new.sink) c.forget.new.store_out c.tell_usage.result
    (said_so g c)

pub returns-in-None-clause-headline : goal.returns-in-None-clause-headline
returns-in-None-clause-headline g c = λ asks. absurd (c.in-None.ensures (OnScript Sim) asks)

pub returns-in-Some-clause-loads : goal.returns-in-Some-clause-loads
returns-in-Some-clause-loads g c = λ rounds asks.
    load_keeps (output g.K.Sink.held g.K.Sink.faults g.K.Sink.put_gives c.args.sink.now c.obey.new.sink) rounds c.obey.new.store_out c.obey.result asks.1
    (subst
    (λ asked. CommandEnds (input g.S.Source.left g.S.Source.faults c.args.source.now c.obey.new.source)
    (output g.K.Sink.held g.K.Sink.faults g.K.Sink.put_gives c.args.sink.now c.obey.new.sink) c.obey.new.store_out asked c.obey.result)
    (asks_once c.args.words.now c.in-Some.command (Load rounds) c.in-Some.ensures asks) c.obey.ensures.ends)

pub returns-in-None-clause-loads : goal.returns-in-None-clause-loads
returns-in-None-clause-loads g c = λ rounds asks. absurd (c.in-None.ensures (Load rounds) asks)
