use Rattle.store_objects.proofs.Keeping.{listed_in}
use Rattle.store_objects.proofs.FileMoving.{kept_turned, runs_turned}
use Rattle.store_objects.proofs.CallingOpens.{holds_some_names}
use Rattle.file_calls.proofs.Purses.{can_pay, may_close, uses_back}
use Rattle.file_calls.proofs.Shed.{caches_shed, moves_shed, stands_shed}
use Rattle.file_calls.proofs.starting.shed.Goals as goal

pub close_at_exec-requires-clause-listed : goal.close_at_exec-requires-clause-listed
close_at_exec-requires-clause-listed c = listed_in c.args.script.now c.args.objects.now c.requires.stands.1.kept

pub close_at_exec-requires-clause-owners : goal.close_at_exec-requires-clause-owners
close_at_exec-requires-clause-owners c = c.requires.stands.1.kept.owners

pub close_at_exec-requires-clause-chain : goal.close_at_exec-requires-clause-chain
close_at_exec-requires-clause-chain c = c.requires.stands.1.kept.chain

pub close_at_exec-requires-clause-locked : goal.close_at_exec-requires-clause-locked
close_at_exec-requires-clause-locked c = c.requires.stands.1.kept.locked

pub close_at_exec-requires-clause-hold : goal.close_at_exec-requires-clause-hold
close_at_exec-requires-clause-hold c =
    holds_some_names c.args.script.now c.args.objects.now c.requires.stands.0 c.requires.stands.1 c.requires.stands.2 c.heap_is_well_formed.ensures

pub close_at_exec-requires-clause-may : goal.close_at_exec-requires-clause-may
close_at_exec-requires-clause-may c =
    let purse = c.kept_back-purse in
    may_close c.args.objects.now.heap purse.result purse.ensures.value (can_pay c.args.objects.now.heap purse.result purse.ensures.bytes c.requires.room)

pub returns-clause-kept : goal.returns-clause-kept
returns-clause-kept c =
    let n = c.close_at_exec in
    let kept = c.requires.stands.1.kept in
    kept_turned c.args.script.now c.args.objects.now _ kept
    (moves_shed c.args.script.now c.args.objects.now n.new.heap n.new.tree n.new.names n.new.fifos n.new.locks c.args.place.pid kept c.requires.alive n.ensures.changes n.ensures.listed n.ensures.owners n.ensures.chain n.ensures.locked n.ensures.places n.ensures.hold)

pub returns-clause-runs : goal.returns-clause-runs
returns-clause-runs c = λ control runs.
    let n = c.close_at_exec in
    let kept = c.requires.stands.1.kept in
    runs_turned c.args.objects.now _ c.args.place.pid control
    (moves_shed c.args.script.now c.args.objects.now n.new.heap n.new.tree n.new.names n.new.fifos n.new.locks c.args.place.pid kept c.requires.alive n.ensures.changes n.ensures.listed n.ensures.owners n.ensures.chain n.ensures.locked n.ensures.places n.ensures.hold) runs

pub returns-clause-uses : goal.returns-clause-uses
returns-clause-uses c =
    let n = c.close_at_exec in
    uses_back c.args.objects.now.heap n.new.heap c.kept_back-purse.result n.new.purse n.ensures.same c.kept_back-purse.ensures.bytes n.ensures.paid

pub returns-clause-shed : goal.returns-clause-shed
returns-clause-shed c =
    let n = c.close_at_exec in
    caches_shed c.args.objects.now _ c.kept_back-purse.result n.new.purse n.ensures.paid n.ensures.same n.ensures.reads n.ensures.cached

pub returns-clause-closed : goal.returns-clause-closed
returns-clause-closed c = λ world stands sound.
    let n = c.close_at_exec in
    let kept = c.requires.stands.1.kept in
    stands_shed c.args.script.now c.args.objects.now n.new.heap n.new.tree n.new.names n.new.fifos n.new.locks c.args.place.pid kept c.requires.alive n.ensures.changes n.ensures.listed n.ensures.owners n.ensures.chain n.ensures.locked n.ensures.places n.ensures.hold
    n.ensures.queues c.heap_is_well_formed.ensures n.ensures.closed n.ensures.locks world stands sound
