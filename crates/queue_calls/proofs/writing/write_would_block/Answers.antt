use Rattle.std.proofs.Common.{◌≡◌, ◌∙◌, sym, w64}
use Rattle.std.specs.Prelude.{is_none}
use Rattle.std.proofs.lemmas.Int.{to_z-of_z}
use Rattle.kabi_types.specs.Arguments.{moved_fault}
use Rattle.posix_defs.proofs.SignalLemmas.{write_blocks}
use Rattle.posix_defs.specs.Calls.Writing.{write, write_ignoring}
use Rattle.posix_defs.specs.Machine.{blocks}
use Rattle.store_objects.proofs.RunningProcs.{alive_runs}
use Rattle.queue_calls.proofs.Blocking.{blocks_right, blocks_wrong, no_fault}
use Rattle.queue_calls.proofs.MovedNumbers.{of_three}
use Rattle.queue_calls.proofs.Queueing.{is_kept, queues_stand}
use Rattle.store_objects.proofs.Keeping.{listed_in}
use Rattle.queue_calls.proofs.writing.write_would_block.Goals as goal

pub opened-on-requires-clause-listed : goal.opened-on-requires-clause-listed
opened-on-requires-clause-listed c = let some = c.requires.stands in listed_in some.0 c.args.objects.now some.2.kept

pub opened-on-requires-clause-owners : goal.opened-on-requires-clause-owners
opened-on-requires-clause-owners c = let some = c.requires.stands in some.2.kept.owners

pub write_waits-requires-clause-kept : goal.write_waits-requires-clause-kept
write_waits-requires-clause-kept c = let some = c.requires.stands in is_kept some.0 c.args.objects.now some.2.kept

pub write_waits-requires-clause-alive : goal.write_waits-requires-clause-alive
write_waits-requires-clause-alive c = let some = c.requires.stands in alive_runs some.0 c.args.objects.now some.1.plain c.args.place.pid some.2.processes some.3

pub write_waits-requires-clause-right : goal.write_waits-requires-clause-right
write_waits-requires-clause-right c = no_fault _ (sym c.may_move.ensures ∙ c.if-not-may_move.false)

pub returns : goal.returns
returns c = λ script world stands.
    let pid = c.args.place.pid in
    let fd = to_z-of_z w64 c.args.fd c.ranges.fd in
    -- the number that was looked up is that of the call
    let found = c.opened-on.ensures.number ∙ fd in
    let addr = to_z-of_z w64 c.args.addr c.ranges.addr in
    let n = to_z-of_z w64 c.args.n c.ranges.n in
    let right = of_three (λ x y z. c.may_move.result ≡ is_none (moved_fault 0 y z)) _ _ _ c.args.fd c.args.addr c.args.n fd addr n c.may_move.ensures in
    of_three (λ x y z. c.write_waits.result ≡ blocks (write_ignoring script world.plain pid x y z c.args.done)) _ _ _ c.args.fd c.args.addr c.args.n found addr n
    (c.write_waits.ensures script stands.files.numbers world.plain world.account (queues_stand script c.args.objects.now world stands))
    ∙ sym (write_blocks script world.plain pid c.args.fd c.args.addr c.args.n c.args.done)
    ∙ sym (blocks_right script world.plain pid (moved_fault 0 c.args.addr c.args.n) (write script world.plain pid c.args.fd c.args.addr c.args.n c.args.done) (sym right ∙ c.if-not-may_move.false))

pub returns-then-not-may_move : goal.returns-then-not-may_move
returns-then-not-may_move c = λ script world stands.
    let fd = to_z-of_z w64 c.args.fd c.ranges.fd in
    let addr = to_z-of_z w64 c.args.addr c.ranges.addr in
    let n = to_z-of_z w64 c.args.n c.ranges.n in
    let right = of_three (λ x y z. c.may_move.result ≡ is_none (moved_fault 0 y z)) _ _ _ c.args.fd c.args.addr c.args.n fd addr n c.may_move.ensures in
    sym (blocks_wrong script world.plain c.args.place.pid (moved_fault 0 c.args.addr c.args.n) (write script world.plain c.args.place.pid c.args.fd c.args.addr c.args.n c.args.done) (sym right ∙ c.if-not-may_move.true))
