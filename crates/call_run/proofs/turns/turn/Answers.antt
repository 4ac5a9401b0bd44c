use Rattle.std.proofs.Common.{refl}
use Rattle.posix_defs.specs.Needs.{bound, slack}
use Rattle.call_run.proofs.Resting.{mark_counts, mark_goes_on, mark_high, mark_keeps, mark_rests, mark_since}
use Rattle.file_calls.proofs.BytesCached.{reads_on}
use Rattle.call_run.proofs.turns.turn.Goals as goal

pub returns-clause-kept : goal.returns-clause-kept
returns-clause-kept c = mark_keeps c.run_own-turned.new.objects c.mark.new.self c.mark.ensures c.args.script.now c.run_own-turned.ensures.kept

pub returns-clause-turned : goal.returns-clause-turned
returns-clause-turned c = λ world at.
    let led = c.run_own-turned.ensures.turned world at in
    (led.0, mark_goes_on c.run_own-turned.new.objects c.mark.new.self c.mark.ensures c.args.script.now led.0 led.1, led.2)

pub returns-clause-marked : goal.returns-clause-marked
returns-clause-marked c = mark_counts c.args.objects.now.heap c.run_own-turned.new.objects.heap c.mark.new.self c.mark.ensures c.run_own-turned.ensures.uses.marks

pub returns-clause-since : goal.returns-clause-since
returns-clause-since c = λ world at.
    mark_since c.args.script.now c.args.objects.now world c.run_own-turned.new.objects.heap c.mark.new.self c.mark.ensures c.requires.rests at.stands c.heap_is_well_formed.ensures c.run_own-turned.ensures.uses.rises

pub returns-clause-high : goal.returns-clause-high
returns-clause-high c = λ world at.
    mark_high c.args.script.now c.args.objects.now world c.run_own-turned.new.objects.heap c.mark.new.self c.mark.ensures c.requires.rests at.stands c.heap_is_well_formed.ensures
    (bound c.args.call.now) (slack c.args.call.now) c.run_own-turned.ensures.uses

pub returns-clause-rests : goal.returns-clause-rests
returns-clause-rests c = mark_rests c.run_own-turned.new.objects c.mark.new.self c.mark.ensures

pub returns-clause-cached : goal.returns-clause-cached
returns-clause-cached c = reads_on c.args.objects.now c.run_own-turned.new.objects _ c.args.pid c.args.call.now c.run_own-turned.result refl c.run_own-turned.ensures.cached
