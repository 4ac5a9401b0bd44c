use Rattle.std.proofs.Common.{◌∙◌}
use Rattle.kheap_laws.proofs.PaidLemmas.{IsPaid-trans}
use Rattle.posix_defs.specs.Files.Closing.{after_end_of}
use Rattle.process_calls.proofs.Dying.{counts_back, dies_other, dies_with_all, held_at_first}
use Rattle.process_calls.proofs.EndedProcs.{runs_ended}
use Rattle.process_calls.proofs.Purses.{can_pay, can_still, uses_back}
use Rattle.process_calls.proofs.endings.end.Goals as goal

pub end_one-requires-clause-kept : goal.end_one-requires-clause-kept
end_one-requires-clause-kept c = let some = c.requires.stands in (some.0, some.2.kept)

pub end_one-requires-clause-holds : goal.end_one-requires-clause-holds
end_one-requires-clause-holds c =
    let some = c.requires.stands in
    (some.2.files.numbers, some.1.plain.files, held_at_first some.0 c.args.objects.now some.1 some.2 some.3 c.heap_is_well_formed.ensures)

pub end_one-requires-clause-room : goal.end_one-requires-clause-room
end_one-requires-clause-room c = can_pay c.args.objects.now.heap c.kept_back-purse.result c.kept_back-purse.ensures.bytes c.requires.room

pub end_others-requires-clause-kept : goal.end_others-requires-clause-kept
end_others-requires-clause-kept c = let some = c.requires.stands in (some.0, c.end_one.ensures.kept some.0 some.2.kept)

pub end_others-requires-clause-holds : goal.end_others-requires-clause-holds
end_others-requires-clause-holds c =
    let some = c.requires.stands in (
      some.2.files.numbers,
      after_end_of some.1.plain.files c.args.place.pid,
      c.end_one.ensures.holds some.2.files.numbers some.1.plain.files (held_at_first some.0 c.args.objects.now some.1 some.2 some.3 c.heap_is_well_formed.ensures),
    )

pub end_others-requires-clause-back : goal.end_others-requires-clause-back
end_others-requires-clause-back c = c.end_one.ensures.same ∙ c.kept_back-purse.ensures.value

pub end_others-requires-clause-room : goal.end_others-requires-clause-room
end_others-requires-clause-room c =
    can_still c.args.objects.now.heap c.end_one.new.objects.heap c.kept_back-purse.result c.end_one.new.purse c.end_one.ensures.paid
    (can_pay c.args.objects.now.heap c.kept_back-purse.result c.kept_back-purse.ensures.bytes c.requires.room)

pub returns-then-place-eq-INIT-clause-kept : goal.returns-then-place-eq-INIT-clause-kept
returns-then-place-eq-INIT-clause-kept c = λ script kept. c.end_others.ensures.kept script (c.end_one.ensures.kept script kept)

pub returns-then-place-eq-INIT-clause-dies : goal.returns-then-place-eq-INIT-clause-dies
returns-then-place-eq-INIT-clause-dies c = λ script world stands sound.
    let old = c.args.objects.now in
    let mid = c.end_one.new.objects in
    let new = c.end_others.new.objects in
    let held = held_at_first script old world stands sound c.heap_is_well_formed.ensures in
    let numbers = stands.files.numbers in
    let then = c.end_one.ensures.holds numbers world.plain.files held in
    let locked = c.end_one.ensures.locks numbers world.plain.files held stands.locks in
    dies_with_all script old world stands sound c.heap_is_well_formed.ensures mid new c.args.place.pid c.args.status c.if-place-eq-INIT.true
    (c.end_others.ensures.kept script (c.end_one.ensures.kept script stands.kept)) c.requires.alive
    (record {
      last = c.end_one.ensures.last;
      table = c.end_one.ensures.table world.plain.table stands.processes.table;
      account = c.end_one.ensures.account world.account.frames stands.memory;
      held = then;
      locks = locked;
      queues = c.end_one.ensures.queues;
      stays = c.end_one.ensures.stays numbers world.plain.files held;
      reads = c.end_one.ensures.reads;
    })
    (record {
      last = c.end_others.ensures.last;
      table = c.end_others.ensures.table;
      account = c.end_others.ensures.account;
      held = c.end_others.ensures.holds numbers (after_end_of world.plain.files c.args.place.pid) then;
      locks = c.end_others.ensures.locks numbers (after_end_of world.plain.files c.args.place.pid) then locked;
      queues = c.end_others.ensures.queues;
      stays = c.end_others.ensures.stays numbers (after_end_of world.plain.files c.args.place.pid) then;
      reads = c.end_others.ensures.reads;
    })
    (counts_back old new c.kept_back-purse.result c.end_others.new.purse (c.end_others.ensures.same ∙ c.end_one.ensures.same)
    (IsPaid-trans old.heap c.kept_back-purse.result mid.heap c.end_one.new.purse new.heap c.end_others.new.purse c.end_one.ensures.paid c.end_others.ensures.paid))

pub returns-else-place-eq-INIT-clause-dies : goal.returns-else-place-eq-INIT-clause-dies
returns-else-place-eq-INIT-clause-dies c = λ script world stands sound.
    let old = c.args.objects.now in
    let new = c.end_one.new.objects in
    let held = held_at_first script old world stands sound c.heap_is_well_formed.ensures in
    dies_other script old world stands sound c.heap_is_well_formed.ensures new c.args.place.pid c.args.status
    (c.end_one.ensures.kept script stands.kept) c.requires.alive c.if-place-eq-INIT.false c.end_one.ensures.last c.end_one.ensures.ended
    (c.end_one.ensures.table world.plain.table stands.processes.table) (c.end_one.ensures.account world.account.frames stands.memory)
    (c.end_one.ensures.holds stands.files.numbers world.plain.files held) (c.end_one.ensures.locks stands.files.numbers world.plain.files held stands.locks) c.end_one.ensures.queues
    (c.end_one.ensures.stays stands.files.numbers world.plain.files held) c.end_one.ensures.reads
    (counts_back old new c.kept_back-purse.result c.end_one.new.purse c.end_one.ensures.same c.end_one.ensures.paid)

pub returns-then-place-eq-INIT-clause-others : goal.returns-then-place-eq-INIT-clause-others
returns-then-place-eq-INIT-clause-others c = λ other. absurd (other c.if-place-eq-INIT.true)

pub returns-else-place-eq-INIT-clause-others : goal.returns-else-place-eq-INIT-clause-others
returns-else-place-eq-INIT-clause-others c = λ _ other control apart runs.
    runs_ended c.args.objects.now c.end_one.new.objects c.args.place.pid c.args.status other control apart c.end_one.ensures.ended runs

pub returns-then-place-eq-INIT-clause-uses : goal.returns-then-place-eq-INIT-clause-uses
returns-then-place-eq-INIT-clause-uses c =
    let old = c.args.objects.now in
    let mid = c.end_one.new.objects in
    let new = c.end_others.new.objects in
    uses_back old.heap new.heap c.kept_back-purse.result c.end_others.new.purse (c.end_others.ensures.same ∙ c.end_one.ensures.same) c.kept_back-purse.ensures.bytes
    (IsPaid-trans old.heap c.kept_back-purse.result mid.heap c.end_one.new.purse new.heap c.end_others.new.purse c.end_one.ensures.paid c.end_others.ensures.paid)

pub returns-else-place-eq-INIT-clause-uses : goal.returns-else-place-eq-INIT-clause-uses
returns-else-place-eq-INIT-clause-uses c =
    uses_back c.args.objects.now.heap c.end_one.new.objects.heap c.kept_back-purse.result c.end_one.new.purse c.end_one.ensures.same c.kept_back-purse.ensures.bytes c.end_one.ensures.paid
