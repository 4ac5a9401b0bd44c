use Rattle.std.proofs.Common.{◌≡◌, ◌≤◌, arith, subst}
use Rattle.kres_tool.specs.declared.commands.Command.TheVariants.{OnScript, Load, Groups}
use Rattle.kres_tool.specs.declared.commands.Task.TheVariants.{Sim, Threads}
use Rattle.kres_tool.specs.Tool.{CommandEnds, input, output}
use Rattle.kres_tool.specs.Words.{Asks, command_by}
use Rattle.kres_tool.proofs.Causing.{command_cause, completes}
use Rattle.kres_tool.proofs.Histories.{threads_keep}
use Rattle.kres_tool.proofs.Grouping.{groups_keep}
use Rattle.kres_tool.proofs.Asking.{asks_once}
use Rattle.kres_tool.proofs.tool.run_tool.Goals as goal

obeyed : goal.returns-in-Some-Script-clause-obeys
obeyed g c = record {
  commands = λ command asks.
      subst
      (λ asked. CommandEnds (input g.S.Source.left g.S.Source.faults c.args.source.now c.run_by_threads.new.source)
      (output g.K.Sink.held g.K.Sink.faults g.K.Sink.put_gives c.args.sink.now c.run_by_threads.new.sink) c.run_by_threads.new.store_out asked c.run_by_threads.result)
      (asks_once c.args.words.now (OnScript (Threads c.in-Some-Script.workers)) command (subst (λ threaded. Asks c.args.words.now (command_by threaded)) c.in-Some-Script.field-0-is c.in-Some-Script.ensures) asks) c.run_by_threads.ensures;
  others = λ none. absurd (none (OnScript (Threads c.in-Some-Script.workers)) (subst (λ threaded. Asks c.args.words.now (command_by threaded)) c.in-Some-Script.field-0-is c.in-Some-Script.ensures));
  untouched = λ none no_groups. absurd (none (Threads c.in-Some-Script.workers) (subst (λ threaded. Asks c.args.words.now (command_by threaded)) c.in-Some-Script.field-0-is c.in-Some-Script.ensures));
}

pub returns-in-Some-Script-clause-obeys : goal.returns-in-Some-Script-clause-obeys
returns-in-Some-Script-clause-obeys g c = obeyed g c

pub returns-in-Some-Script-clause-complete : goal.returns-in-Some-Script-clause-complete
returns-in-Some-Script-clause-complete g c =
    completes c.args.words.now (input g.S.Source.left g.S.Source.faults c.args.source.now c.run_by_threads.new.source)
    (output g.K.Sink.held g.K.Sink.faults g.K.Sink.put_gives c.args.sink.now c.run_by_threads.new.sink) c.run_by_threads.new.store_out c.run_by_threads.result
    (obeyed g c)

pub returns-in-Some-Script-clause-causes : goal.returns-in-Some-Script-clause-causes
returns-in-Some-Script-clause-causes g c =
    command_cause c.args.words.now (input g.S.Source.left g.S.Source.faults c.args.source.now c.run_by_threads.new.source)
    (output g.K.Sink.held g.K.Sink.faults g.K.Sink.put_gives c.args.sink.now c.run_by_threads.new.sink) c.run_by_threads.new.store_out
    (OnScript (Threads c.in-Some-Script.workers)) c.run_by_threads.result (subst (λ threaded. Asks c.args.words.now (command_by threaded)) c.in-Some-Script.field-0-is c.in-Some-Script.ensures) c.run_by_threads.ensures

pub returns-in-Some-Script-clause-headline : goal.returns-in-Some-Script-clause-headline
returns-in-Some-Script-clause-headline g c = λ asks.
    absurd (let same : OnScript Sim ≡ OnScript (Threads c.in-Some-Script.workers) = asks_once c.args.words.now (OnScript Sim) (OnScript (Threads c.in-Some-Script.workers)) asks (subst (λ threaded. Asks c.args.words.now (command_by threaded)) c.in-Some-Script.field-0-is c.in-Some-Script.ensures) in cc)

pub returns-in-Some-Script-clause-loads : goal.returns-in-Some-Script-clause-loads
returns-in-Some-Script-clause-loads g c = λ rounds asks.
    absurd (let same : Load rounds ≡ OnScript (Threads c.in-Some-Script.workers) = asks_once c.args.words.now (Load rounds) (OnScript (Threads c.in-Some-Script.workers)) asks (subst (λ threaded. Asks c.args.words.now (command_by threaded)) c.in-Some-Script.field-0-is c.in-Some-Script.ensures) in cc)

pub returns-in-Some-Script-clause-threads : goal.returns-in-Some-Script-clause-threads
returns-in-Some-Script-clause-threads g c = λ workers asks.
    threads_keep (input g.S.Source.left g.S.Source.faults c.args.source.now c.run_by_threads.new.source)
    (output g.K.Sink.held g.K.Sink.faults g.K.Sink.put_gives c.args.sink.now c.run_by_threads.new.sink) c.run_by_threads.new.store_out c.in-Some-Script.workers
    c.run_by_threads.result c.run_by_threads.ensures

pub returns-in-None-clause-threads : goal.returns-in-None-clause-threads
returns-in-None-clause-threads g c = λ workers asks. absurd (c.in-None.ensures.script workers asks)

pub returns-in-None-clause-groups : goal.returns-in-None-clause-groups
returns-in-None-clause-groups g c = λ workers asks. absurd (c.in-None.ensures.groups workers asks)

pub run_by_threads-requires-clause-some : goal.run_by_threads-requires-clause-some
run_by_threads-requires-clause-some g c = let least : 1 ≤ c.in-Some-Script.workers = (subst (λ threaded. Asks c.args.words.now (command_by threaded)) c.in-Some-Script.field-0-is c.in-Some-Script.ensures).1.0 in omega arith

-- ---- where groups are run

pub returns-in-Some-Script-clause-groups : goal.returns-in-Some-Script-clause-groups
returns-in-Some-Script-clause-groups g c = λ workers asks.
    absurd (let same : Groups workers ≡ OnScript (Threads c.in-Some-Script.workers) = asks_once c.args.words.now (Groups workers) (OnScript (Threads c.in-Some-Script.workers)) asks (subst (λ threaded. Asks c.args.words.now (command_by threaded)) c.in-Some-Script.field-0-is c.in-Some-Script.ensures) in cc)

grouped : goal.returns-in-Some-Groups-clause-obeys
grouped g c = record {
  commands = λ command asks.
      subst (λ asked. CommandEnds (input g.S.Source.left g.S.Source.faults c.args.source.now c.answer_groups.new.source)
      (output g.K.Sink.held g.K.Sink.faults g.K.Sink.put_gives c.args.sink.now c.answer_groups.new.sink) c.forget-in-Some-Groups.new.store_out asked c.answer_groups.result)
      (asks_once c.args.words.now (Groups c.in-Some-Groups.workers) command (subst (λ threaded. Asks c.args.words.now (command_by threaded)) c.in-Some-Groups.field-0-is c.in-Some-Groups.ensures) asks) (c.answer_groups.ensures, c.forget-in-Some-Groups.ensures);
  others = λ none. absurd (none (Groups c.in-Some-Groups.workers) (subst (λ threaded. Asks c.args.words.now (command_by threaded)) c.in-Some-Groups.field-0-is c.in-Some-Groups.ensures));
  untouched = λ none no_groups. absurd (no_groups c.in-Some-Groups.workers (subst (λ threaded. Asks c.args.words.now (command_by threaded)) c.in-Some-Groups.field-0-is c.in-Some-Groups.ensures));
}

pub returns-in-Some-Groups-clause-obeys : goal.returns-in-Some-Groups-clause-obeys
returns-in-Some-Groups-clause-obeys g c = grouped g c

pub returns-in-Some-Groups-clause-complete : goal.returns-in-Some-Groups-clause-complete
returns-in-Some-Groups-clause-complete g c =
    completes c.args.words.now (input g.S.Source.left g.S.Source.faults c.args.source.now c.answer_groups.new.source)
    (output g.K.Sink.held g.K.Sink.faults g.K.Sink.put_gives c.args.sink.now c.answer_groups.new.sink) c.forget-in-Some-Groups.new.store_out c.answer_groups.result
    (grouped g c)

pub returns-in-Some-Groups-clause-causes : goal.returns-in-Some-Groups-clause-causes
returns-in-Some-Groups-clause-causes g c =
    command_cause c.args.words.now (input g.S.Source.left g.S.Source.faults c.args.source.now c.answer_groups.new.source)
    (output g.K.Sink.held g.K.Sink.faults g.K.Sink.put_gives c.args.sink.now c.answer_groups.new.sink) c.forget-in-Some-Groups.new.store_out
    (Groups c.in-Some-Groups.workers) c.answer_groups.result (subst (λ threaded. Asks c.args.words.now (command_by threaded)) c.in-Some-Groups.field-0-is c.in-Some-Groups.ensures) (c.answer_groups.ensures, c.forget-in-Some-Groups.ensures)

pub returns-in-Some-Groups-clause-headline : goal.returns-in-Some-Groups-clause-headline
returns-in-Some-Groups-clause-headline g c = λ asks.
    absurd (let same : OnScript Sim ≡ Groups c.in-Some-Groups.workers = asks_once c.args.words.now (OnScript Sim) (Groups c.in-Some-Groups.workers) asks (subst (λ threaded. Asks c.args.words.now (command_by threaded)) c.in-Some-Groups.field-0-is c.in-Some-Groups.ensures) in cc)

pub returns-in-Some-Groups-clause-threads : goal.returns-in-Some-Groups-clause-threads
returns-in-Some-Groups-clause-threads g c = λ workers asks.
    absurd (let same : OnScript (Threads workers) ≡ Groups c.in-Some-Groups.workers = asks_once c.args.words.now (OnScript (Threads workers)) (Groups c.in-Some-Groups.workers) asks (subst (λ threaded. Asks c.args.words.now (command_by threaded)) c.in-Some-Groups.field-0-is c.in-Some-Groups.ensures) in cc)

pub returns-in-Some-Groups-clause-loads : goal.returns-in-Some-Groups-clause-loads
returns-in-Some-Groups-clause-loads g c = λ rounds asks.
    absurd (let same : Load rounds ≡ Groups c.in-Some-Groups.workers = asks_once c.args.words.now (Load rounds) (Groups c.in-Some-Groups.workers) asks (subst (λ threaded. Asks c.args.words.now (command_by threaded)) c.in-Some-Groups.field-0-is c.in-Some-Groups.ensures) in cc)

pub returns-in-Some-Groups-clause-groups : goal.returns-in-Some-Groups-clause-groups
returns-in-Some-Groups-clause-groups g c = λ workers asks.
    groups_keep (input g.S.Source.left g.S.Source.faults c.args.source.now c.answer_groups.new.source)
    (output g.K.Sink.held g.K.Sink.faults g.K.Sink.put_gives c.args.sink.now c.answer_groups.new.sink) c.answer_groups.result c.answer_groups.ensures
