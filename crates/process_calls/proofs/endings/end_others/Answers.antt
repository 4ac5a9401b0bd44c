use Rattle.std.proofs.Common.{◌≡◌, ◌∙◌, ◌<◌, [], ap, is_some, le_refl, le_trans, refl, arith}
use Rattle.kheap_laws.proofs.PaidLemmas.{IsPaid-refl, IsPaid-trans}
use Rattle.posix_defs.specs.Files.Closing.{after_end_of}
use Rattle.posix_defs.specs.Memory.{after_clear}
use Rattle.proc_numbers.proofs.Fronts.{queues_same, queues_then}
use Rattle.store_objects.specs.Objects.{procs_of}
use Rattle.process_calls.specs.Endings.{IsLowestBehind}
use Rattle.process_calls.proofs.EndingOthers.{alive_made, begins, clears_one, closes_all, closes_first, closes_one, ends_all, ends_one, locks_all, stays_all}
use Rattle.process_calls.proofs.Purses.{can_still}
use Rattle.process_calls.proofs.endings.end_others.Goals as goal

pub loop-next-init : goal.loop-next-init
loop-next-init c = record {
  kept = λ script kept. kept;
  some = c.requires.kept;
  held = c.requires.holds;
  last = refl;
  table = begins c.args.objects.now;
  account = λ frames has. (frames, has, ([], refl));
  closes = closes_first c.args.objects.now;
  queues = queues_same c.args.objects.now.heap c.args.objects.now.heap refl refl;
  reads = le_refl _;
  same = refl;
  back = c.requires.back;
  room = c.requires.room;
  paid = IsPaid-refl c.args.objects.now.heap c.args.purse.now;
}

pub live_behind-requires : goal.live_behind-requires
live_behind-requires c = c.loop-next.invariant.some.1.holds

pub key_there-key-requires-clause-stored : goal.key_there-key-requires-clause-stored
key_there-key-requires-clause-stored c = c.loop-next.invariant.some.1.holds.stored

pub key_there-key-requires-clause-there : goal.key_there-key-requires-clause-there
key_there-key-requires-clause-there c =
    let found : IsLowestBehind (procs_of c.loop-next.objects) c.loop-next.pid c.in-Some.next = c.in-Some.ensures.lowest in
    ap is_some found.alive.there

pub end_one-requires-clause-kept : goal.end_one-requires-clause-kept
end_one-requires-clause-kept c = c.loop-next.invariant.some

pub end_one-requires-clause-holds : goal.end_one-requires-clause-holds
end_one-requires-clause-holds c = c.loop-next.invariant.held

pub loop-next-smaller : goal.loop-next-smaller
loop-next-smaller c =
    let found : IsLowestBehind (procs_of c.loop-next.objects) c.loop-next.pid c.in-Some.next = c.in-Some.ensures.lowest in
    let made = alive_made c.loop-next.objects c.in-Some.next c.loop-next.invariant.some.1.holds found.alive in
    let behind : c.loop-next.pid < c.in-Some.next = found.behind in
    let last : c.end_one.new.objects.procs.last ≡ c.loop-next.objects.procs.last = c.end_one.ensures.last in
    omega arith

pub loop-next-preserved : goal.loop-next-preserved
loop-next-preserved c =
    let start = c.args.objects.now in
    let mid = c.loop-next.objects in
    let new = c.end_one.new.objects in
    let before = c.loop-next.invariant in
    let holds = before.some.1.holds in
    let held = before.held in
    record {
      kept = λ script kept. c.end_one.ensures.kept script (before.kept script kept);
      some = (before.some.0, c.end_one.ensures.kept before.some.0 before.some.1);
      held = (held.0, after_end_of held.1 c.in-Some.next, c.end_one.ensures.holds held.0 held.1 held.2);
      last = c.end_one.ensures.last ∙ before.last;
      table = λ table is. ends_one start mid new c.loop-next.pid c.in-Some.next table holds before.last c.in-Some.ensures.lowest
          c.end_one.ensures.table (before.table table is);
      account = λ frames has.
          let so_far = before.account frames has in
          (after_clear so_far.0 c.in-Some.next, c.end_one.ensures.account so_far.0 so_far.1, clears_one frames so_far.0 c.in-Some.next so_far.2);
      closes = λ numbers files hold. closes_one start mid new c.loop-next.pid c.in-Some.next numbers files holds before.last c.in-Some.ensures.lowest
          (c.end_one.ensures.holds numbers) (c.end_one.ensures.stays numbers) (c.end_one.ensures.locks numbers) (before.closes numbers files hold);
      queues = queues_then _ _ _ before.queues c.end_one.ensures.queues;
      reads = le_trans before.reads c.end_one.ensures.reads;
      same = c.end_one.ensures.same ∙ before.same;
      back = c.end_one.ensures.same ∙ before.back;
      room = can_still mid.heap new.heap c.loop-next.purse c.end_one.new.purse c.end_one.ensures.paid before.room;
      paid = IsPaid-trans start.heap c.args.purse.now mid.heap c.loop-next.purse new.heap c.end_one.new.purse before.paid c.end_one.ensures.paid;
    }

pub returns-clause-table : goal.returns-clause-table
returns-clause-table c = λ table is.
    ends_all c.args.objects.now c.loop-next.objects c.loop-next.pid table (c.live_behind.ensures.none c.in_default.is) (c.loop-next.invariant.table table is)

pub returns-clause-holds : goal.returns-clause-holds
returns-clause-holds c = λ numbers files hold.
    closes_all c.args.objects.now c.loop-next.objects c.loop-next.pid numbers files c.loop-next.invariant.some.1.holds (c.live_behind.ensures.none c.in_default.is)
    (c.loop-next.invariant.closes numbers files hold)

pub returns-clause-stays : goal.returns-clause-stays
returns-clause-stays c = λ numbers files hold.
    stays_all c.args.objects.now c.loop-next.objects c.loop-next.pid numbers files c.loop-next.invariant.some.1.holds (c.live_behind.ensures.none c.in_default.is)
    (c.loop-next.invariant.closes numbers files hold)

pub returns-clause-locks : goal.returns-clause-locks
returns-clause-locks c = λ numbers files hold held.
    locks_all c.args.objects.now c.loop-next.objects c.loop-next.pid numbers files c.loop-next.invariant.some.1.holds (c.live_behind.ensures.none c.in_default.is)
    (c.loop-next.invariant.closes numbers files hold) held
