use Rattle.std.proofs.Common.{◌≡◌, ◌≤◌, arith, refl, w64}
use Rattle.std.proofs.lemmas.Int.{to_z-of_z}
use Rattle.posix_defs.specs.Calls.Opened.{opened_at}
use Rattle.posix_defs.specs.Calls.Writing.{is_broken}
use Rattle.store_objects.proofs.Callers.{caller_lives}
use Rattle.queue_calls.proofs.Breaking.{who_breaks, who_ignores, who_moved}
use Rattle.queue_calls.proofs.MovedNumbers.{of_three}
use Rattle.queue_calls.proofs.Queueing.{is_kept, queues_stand}
use Rattle.queue_calls.proofs.writing.write_breaks.Goals as goal

pub at-proc-requires-clause-stored : goal.at-proc-requires-clause-stored
at-proc-requires-clause-stored c = let some = c.requires.stands in let kept = is_kept some.0 c.args.objects.now some.2.kept in kept.holds.stored

pub at-proc-requires-clause-there : goal.at-proc-requires-clause-there
at-proc-requires-clause-there c = let is = c.requires.caller in is.placed

pub returns-then-proc : goal.returns-then-proc
returns-then-proc c = λ script world stands.
    who_ignores script c.args.objects.now world c.args.caller.now.place.pid c.at-proc.result.now c.at-proc.ensures.found stands c.args.on.now.fd c.args.addr c.args.n c.args.done c.if-proc.true

pub returns-then-done-gt0 : goal.returns-then-done-gt0
returns-then-done-gt0 c = λ script world stands.
    who_moved script c.args.objects.now world c.args.caller.now.place.pid c.at-proc.result.now c.at-proc.ensures.found stands c.args.on.now.fd c.args.addr c.args.n c.args.done c.if-proc.false c.if-done-gt0.true

pub write_breaks-requires-clause-kept : goal.write_breaks-requires-clause-kept
write_breaks-requires-clause-kept c = let some = c.requires.stands in is_kept some.0 c.args.objects.now some.2.kept

pub write_breaks-requires-clause-alive : goal.write_breaks-requires-clause-alive
write_breaks-requires-clause-alive c = caller_lives c.args.objects.now c.args.caller.now.place.pid c.args.caller.now c.requires.caller

pub returns : goal.returns
returns c = λ script world stands.
    let none : c.args.done ≤ 0 = (let least = c.if-done-gt0.false in omega (arith, least)) in
    who_breaks script c.args.objects.now world c.args.caller.now.place.pid c.at-proc.result.now c.at-proc.ensures.found stands c.args.on.now.fd c.args.addr c.args.n c.args.done c.write_breaks.result c.if-proc.false none
    (of_three (λ fd addr n. c.write_breaks.result ≡ is_broken world.plain c.args.caller.now.place.pid addr n (opened_at world.plain.files c.args.caller.now.place.pid c.args.on.now.fd))
    c.args.on.now.fd _ _ c.args.on.now.fd c.args.addr c.args.n refl (to_z-of_z w64 c.args.addr c.ranges.addr) (to_z-of_z w64 c.args.n c.ranges.n)
    (c.write_breaks.ensures script stands.files.numbers world.plain world.account (queues_stand script c.args.objects.now world stands)))
