use Rattle.std.proofs.Common.{ap, sym, ◌∙◌}
use Rattle.posix_defs.specs.Plain.{call_of}
use Rattle.prog_ctl.specs.Waits.{wait_of}
use Rattle.store_objects.proofs.NextCalls.{next_is}
use Rattle.lock_calls.proofs.NextWaits.{at_call, ended_here, lives_here, no_status, none_wanted}
use Rattle.lock_calls.proofs.waits.wanted_by.Goals as goal

pub at-proc-requires-clause-stored : goal.at-proc-requires-clause-stored
at-proc-requires-clause-stored c = c.requires.kept.holds.stored

-- ---- who has ended

pub returns-then-is_some-clause-asks : goal.returns-then-is_some-clause-asks
returns-then-is_some-clause-asks c = λ world stands alive.
    ended_here c.args.script.now c.args.objects.now c.args.place.pid c.at-proc.result.now c.at-proc.ensures.found world stands alive (sym c.is_some.ensures ∙ c.if-is_some.true)

-- ---- who runs

pub wait_here-requires : goal.wait_here-requires
wait_here-requires c =
    let runs = no_status c.at-proc.result.now.status (sym c.is_some.ensures ∙ c.if-is_some.false) in
    let at = at_call c.args.script.now c.args.objects.now c.args.place.pid c.at-proc.result.now c.at-proc.ensures.found c.requires.kept runs in
    record { stands = at.stands; rests = at.rests }

pub asked_with-requires-clause-kept : goal.asked_with-requires-clause-kept
asked_with-requires-clause-kept c = (c.args.script.now, c.requires.kept)

pub returns-in-Some-clause-asks : goal.returns-in-Some-clause-asks
returns-in-Some-clause-asks c = λ world stands alive.
    c.asked_with.ensures c.args.script.now world stands (call_of c.args.script.now world.plain c.args.place.pid)
    (sym c.in-Some.is ∙ c.wait_here.ensures
    ∙ ap wait_of (next_is c.args.script.now c.args.objects.now world c.args.place.pid c.at-proc.result.now stands alive c.at-proc.ensures.found))

pub returns-in-Some-clause-ended : goal.returns-in-Some-clause-ended
returns-in-Some-clause-ended c = λ world stands dead.
    lives_here c.args.script.now c.args.objects.now c.args.place.pid c.at-proc.result.now c.at-proc.ensures.found world stands dead (sym c.is_some.ensures ∙ c.if-is_some.false)

pub returns-in-None-clause-asks : goal.returns-in-None-clause-asks
returns-in-None-clause-asks c = λ world stands alive.
    none_wanted world.plain.files c.args.place.pid (call_of c.args.script.now world.plain c.args.place.pid)
    (sym c.in-None.is ∙ c.wait_here.ensures
    ∙ ap wait_of (next_is c.args.script.now c.args.objects.now world c.args.place.pid c.at-proc.result.now stands alive c.at-proc.ensures.found))
