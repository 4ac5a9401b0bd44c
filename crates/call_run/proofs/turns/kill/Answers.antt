use Rattle.std.proofs.Common.{◌+◌, ◌≤◌, ℕ, arith}
use Rattle.posix_defs.specs.Sizes.{reserve}
use Rattle.posix_defs.specs.World.{live_of}
use Rattle.call_run.proofs.Resting.{mark_counts, mark_goes_on, mark_high, mark_keeps, mark_rests, mark_since}
use Rattle.call_run.proofs.turns.kill.Goals as goal

pub end_other-requires : goal.end_other-requires
end_other-requires c = c.requires.stands

pub returns-clause-kept : goal.returns-clause-kept
returns-clause-kept c = λ script world at. mark_keeps c.end_other.new.objects c.mark.new.self c.mark.ensures script (c.end_other.ensures.kept script world at)

pub returns-clause-killed : goal.returns-clause-killed
returns-clause-killed c = λ script world at alive other.
    let led = c.end_other.ensures.killed script world at alive other in
    (led.0, mark_goes_on c.end_other.new.objects c.mark.new.self c.mark.ensures script led.0 led.1, led.2)

pub returns-clause-gone : goal.returns-clause-gone
returns-clause-gone c = λ script world at dead. mark_goes_on c.end_other.new.objects c.mark.new.self c.mark.ensures script world (c.end_other.ensures.gone script world at dead)

pub returns-clause-first : goal.returns-clause-first
returns-clause-first c = λ script world at first. mark_goes_on c.end_other.new.objects c.mark.new.self c.mark.ensures script world (c.end_other.ensures.first script world at first)

pub returns-clause-marked : goal.returns-clause-marked
returns-clause-marked c = mark_counts c.args.objects.now.heap c.end_other.new.objects.heap c.mark.new.self c.mark.ensures c.end_other.ensures.uses.marks

pub returns-clause-since : goal.returns-clause-since
returns-clause-since c = λ script world at.
    mark_since script c.args.objects.now world c.end_other.new.objects.heap c.mark.new.self c.mark.ensures c.requires.rests at.stands c.heap_is_well_formed.ensures c.end_other.ensures.uses.rises

pub returns-clause-high : goal.returns-clause-high
returns-clause-high c = λ script world at.
    no_bytes c.mark.new.self.last_high (live_of world)
    (mark_high script c.args.objects.now world c.end_other.new.objects.heap c.mark.new.self c.mark.ensures c.requires.rests at.stands c.heap_is_well_formed.ensures 0 reserve c.end_other.ensures.uses)
  where
    no_bytes : (last of : ℕ) → last ≤ of + 0 + reserve → last ≤ of + reserve
    no_bytes last of less = omega (arith, less)

pub returns-clause-rests : goal.returns-clause-rests
returns-clause-rests c = mark_rests c.end_other.new.objects c.mark.new.self c.mark.ensures
