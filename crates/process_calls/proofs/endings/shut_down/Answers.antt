use Rattle.std.proofs.Common.{◌≡◌, ◌≤◌, ◌∙◌, ℕ, List, Option, ap, false, refl, subst, sym}
use Rattle.kheap_slabs.specs.Heap.{Heap}
use Rattle.kheap_laws.proofs.PaidLemmas.{IsPaid-nothing, IsPaid-trans}
use Rattle.kheap_slabs.specs.declared.objects.Lock.{Lock as HeldLock}
use Rattle.lock_table.specs.Chain.{HoldsLocks}
use Rattle.memfs_ops.specs.FileTree.{TreeView}
use Rattle.posix_defs.specs.Files.Closing.{after_end_of}
use Rattle.posix_defs.specs.Files.State.{Files}
use Rattle.posix_defs.specs.Reaching.{ends_node}
use Rattle.proc_files.specs.Ending.{closed_each}
use Rattle.proc_numbers.proofs.Fronts.{queues_same, queues_then}
use Rattle.proc_table.specs.Changes.{ended}
use Rattle.proc_table.specs.Table.{TableView}
use Rattle.store_objects.specs.declared.objects.Objects.{Objects}
use Rattle.store_objects.specs.Objects.{AreKept, procs_of}
use Rattle.store_objects.proofs.Keeping.{listed_in}
use Rattle.process_calls.specs.Endings.{HoldBeside, workers_at}
use Rattle.process_calls.proofs.Closing.{alive_shut, kept_shut, shut_procs, with_heap}
use Rattle.process_calls.proofs.EndedProcs.{kept_ended}
use Rattle.process_calls.proofs.EndingOne.{opens_ended}
use Rattle.process_calls.proofs.Holding.{held_moved, keeps_some}
use Rattle.process_calls.proofs.Purses.{may_close}
use Rattle.process_calls.proofs.Silencing.{account_silent, alive_silent, closed_silent, held_shut, kept_silent, silenced, table_silent}
use Rattle.process_calls.proofs.endings.shut_down.Goals as goal

pub close_each-requires-clause-listed : goal.close_each-requires-clause-listed
close_each-requires-clause-listed c = let some = c.requires.kept in listed_in some.0 c.args.objects.now some.1

pub close_each-requires-clause-owners : goal.close_each-requires-clause-owners
close_each-requires-clause-owners c = c.requires.kept.1.owners

pub close_each-requires-clause-chain : goal.close_each-requires-clause-chain
close_each-requires-clause-chain c = c.requires.kept.1.chain

pub close_each-requires-clause-locked : goal.close_each-requires-clause-locked
close_each-requires-clause-locked c = c.requires.kept.1.locked

pub close_each-requires-clause-hold : goal.close_each-requires-clause-hold
close_each-requires-clause-hold c =
    let some = c.requires.holds in
    record { numbers = some.0; others = workers_at (procs_of c.args.objects.now); files = some.1; hold = some.2 }

pub close_each-requires-clause-may : goal.close_each-requires-clause-may
close_each-requires-clause-may c = may_close c.args.objects.now.heap c.args.purse.now c.requires.back c.requires.room

-- ---- once it has closed all it sleeps in no open

pub wait_in-requires-clause-stored : goal.wait_in-requires-clause-stored
wait_in-requires-clause-stored c = c.close_each.ensures.listed.stored

pub wait_in-requires-clause-alive : goal.wait_in-requires-clause-alive
wait_in-requires-clause-alive c =
    let old = c.args.objects.now in
    alive_shut (procs_of old) _ c.args.place.pid (shut_procs old.heap c.close_each.new.heap old.procs c.args.place.pid c.requires.kept.1.holds c.close_each.ensures.closes) c.requires.alive

pub end-requires-clause-holds : goal.end-requires-clause-holds
end-requires-clause-holds c =
    let some = c.requires.kept in
    let held = c.requires.holds in
    let old = c.args.objects.now in
    let hold = c.close_each.ensures.closed held.0 (workers_at (procs_of old)) held.1 held.2 in
    let mid = with_heap old c.close_each.new.heap c.close_each.new.tree c.close_each.new.names c.close_each.new.fifos c.close_each.new.locks in
    let between : AreKept some.0 mid =
    kept_shut some.0 old mid.heap mid.tree mid.names mid.fifos mid.locks c.args.place.pid some.1 c.close_each.ensures.closes c.close_each.ensures.listed c.close_each.ensures.owners hold.bound c.close_each.ensures.places
    c.close_each.ensures.chain c.close_each.ensures.locked (keeps_some held.0 (workers_at (procs_of old)) mid (closed_each held.1 c.args.place.pid) hold) in
    (kept_silent some.0 old mid.heap mid.tree mid.names mid.fifos mid.locks c.args.place.pid c.wait_in.new.self some.1 c.close_each.ensures.closes c.requires.alive between c.wait_in.ensures).holds

pub end-requires-clause-alive : goal.end-requires-clause-alive
end-requires-clause-alive c =
    let some = c.requires.kept in
    let held = c.requires.holds in
    let old = c.args.objects.now in
    let hold = c.close_each.ensures.closed held.0 (workers_at (procs_of old)) held.1 held.2 in
    let mid = with_heap old c.close_each.new.heap c.close_each.new.tree c.close_each.new.names c.close_each.new.fifos c.close_each.new.locks in
    let between : AreKept some.0 mid =
    kept_shut some.0 old mid.heap mid.tree mid.names mid.fifos mid.locks c.args.place.pid some.1 c.close_each.ensures.closes c.close_each.ensures.listed c.close_each.ensures.owners hold.bound c.close_each.ensures.places
    c.close_each.ensures.chain c.close_each.ensures.locked (keeps_some held.0 (workers_at (procs_of old)) mid (closed_each held.1 c.args.place.pid) hold) in
    alive_silent some.0 old mid.heap mid.tree mid.names mid.fifos mid.locks c.args.place.pid c.wait_in.new.self some.1 c.close_each.ensures.closes c.requires.alive between c.wait_in.ensures

pub end-requires-clause-closed : goal.end-requires-clause-closed
end-requires-clause-closed c =
    let some = c.requires.kept in
    let held = c.requires.holds in
    let old = c.args.objects.now in
    let hold = c.close_each.ensures.closed held.0 (workers_at (procs_of old)) held.1 held.2 in
    let mid = with_heap old c.close_each.new.heap c.close_each.new.tree c.close_each.new.names c.close_each.new.fifos c.close_each.new.locks in
    let between : AreKept some.0 mid =
    kept_shut some.0 old mid.heap mid.tree mid.names mid.fifos mid.locks c.args.place.pid some.1 c.close_each.ensures.closes c.close_each.ensures.listed c.close_each.ensures.owners hold.bound c.close_each.ensures.places
    c.close_each.ensures.chain c.close_each.ensures.locked (keeps_some held.0 (workers_at (procs_of old)) mid (closed_each held.1 c.args.place.pid) hold) in
    closed_silent some.0 old mid.heap mid.tree mid.names mid.fifos mid.locks c.args.place.pid c.wait_in.new.self some.1 c.close_each.ensures.closes c.requires.alive between c.wait_in.ensures

-- ---- and ends

pub returns-clause-kept : goal.returns-clause-kept
returns-clause-kept c = λ script kept.
    let held = c.requires.holds in
    let old = c.args.objects.now in
    let pid = c.args.place.pid in
    let hold = c.close_each.ensures.closed held.0 (workers_at (procs_of old)) held.1 held.2 in
    let mid = with_heap old c.close_each.new.heap c.close_each.new.tree c.close_each.new.names c.close_each.new.fifos c.close_each.new.locks in
    let now = c.wait_in.new.self in
    let new : Objects = record { heap = c.end.new.heap; procs = c.end.new.self; tree = now.tree; names = now.names; fifos = now.fifos; locks = now.locks } in
    let between : AreKept script mid =
    kept_shut script old mid.heap mid.tree mid.names mid.fifos mid.locks pid kept c.close_each.ensures.closes c.close_each.ensures.listed c.close_each.ensures.owners hold.bound c.close_each.ensures.places
    c.close_each.ensures.chain c.close_each.ensures.locked (keeps_some held.0 (workers_at (procs_of old)) mid (closed_each held.1 pid) hold) in
    kept_ended script now new pid c.args.status
    (kept_silent script old mid.heap mid.tree mid.names mid.fifos mid.locks pid now kept c.close_each.ensures.closes c.requires.alive between c.wait_in.ensures) refl refl refl refl
    (closed_silent script old mid.heap mid.tree mid.names mid.fifos mid.locks pid now kept c.close_each.ensures.closes c.requires.alive between c.wait_in.ensures) c.end.ensures.moves c.end.ensures.ended

pub returns-clause-last : goal.returns-clause-last
returns-clause-last c = c.end.ensures.last ∙ ap (λ (view : TableView). view.last) c.wait_in.ensures.same

pub returns-clause-ended : goal.returns-clause-ended
returns-clause-ended c =
    let some = c.requires.kept in
    let held = c.requires.holds in
    let old = c.args.objects.now in
    let hold = c.close_each.ensures.closed held.0 (workers_at (procs_of old)) held.1 held.2 in
    let mid = with_heap old c.close_each.new.heap c.close_each.new.tree c.close_each.new.names c.close_each.new.fifos c.close_each.new.locks in
    let between : AreKept some.0 mid =
    kept_shut some.0 old mid.heap mid.tree mid.names mid.fifos mid.locks c.args.place.pid some.1 c.close_each.ensures.closes c.close_each.ensures.listed c.close_each.ensures.owners hold.bound c.close_each.ensures.places
    c.close_each.ensures.chain c.close_each.ensures.locked (keeps_some held.0 (workers_at (procs_of old)) mid (closed_each held.1 c.args.place.pid) hold) in
    c.end.ensures.ended
    ∙ ap (ended c.args.place.pid c.args.status)
    (silenced some.0 old mid.heap mid.tree mid.names mid.fifos mid.locks c.args.place.pid c.wait_in.new.self some.1 c.close_each.ensures.closes c.requires.alive between c.wait_in.ensures)

pub returns-clause-table : goal.returns-clause-table
returns-clause-table c = λ table is.
    let some = c.requires.kept in
    let held = c.requires.holds in
    let old = c.args.objects.now in
    let hold = c.close_each.ensures.closed held.0 (workers_at (procs_of old)) held.1 held.2 in
    let mid = with_heap old c.close_each.new.heap c.close_each.new.tree c.close_each.new.names c.close_each.new.fifos c.close_each.new.locks in
    let between : AreKept some.0 mid =
    kept_shut some.0 old mid.heap mid.tree mid.names mid.fifos mid.locks c.args.place.pid some.1 c.close_each.ensures.closes c.close_each.ensures.listed c.close_each.ensures.owners hold.bound c.close_each.ensures.places
    c.close_each.ensures.chain c.close_each.ensures.locked (keeps_some held.0 (workers_at (procs_of old)) mid (closed_each held.1 c.args.place.pid) hold) in
    c.end.ensures.table table
    (table_silent some.0 old mid.heap mid.tree mid.names mid.fifos mid.locks c.args.place.pid c.wait_in.new.self some.1 c.close_each.ensures.closes c.requires.alive between c.wait_in.ensures table is)

pub returns-clause-account : goal.returns-clause-account
returns-clause-account c = λ frames has.
    let some = c.requires.kept in
    let held = c.requires.holds in
    let old = c.args.objects.now in
    let hold = c.close_each.ensures.closed held.0 (workers_at (procs_of old)) held.1 held.2 in
    let mid = with_heap old c.close_each.new.heap c.close_each.new.tree c.close_each.new.names c.close_each.new.fifos c.close_each.new.locks in
    let between : AreKept some.0 mid =
    kept_shut some.0 old mid.heap mid.tree mid.names mid.fifos mid.locks c.args.place.pid some.1 c.close_each.ensures.closes c.close_each.ensures.listed c.close_each.ensures.owners hold.bound c.close_each.ensures.places
    c.close_each.ensures.chain c.close_each.ensures.locked (keeps_some held.0 (workers_at (procs_of old)) mid (closed_each held.1 c.args.place.pid) hold) in
    c.end.ensures.account frames
    (account_silent some.0 old mid.heap mid.tree mid.names mid.fifos mid.locks c.args.place.pid c.wait_in.new.self some.1 c.close_each.ensures.closes c.requires.alive between c.wait_in.ensures frames has)

pub returns-clause-holds : goal.returns-clause-holds
returns-clause-holds c = λ numbers others files hold.
    let some = c.requires.kept in
    let old = c.args.objects.now in
    let pid = c.args.place.pid in
    let mid = with_heap old c.close_each.new.heap c.close_each.new.tree c.close_each.new.names c.close_each.new.fifos c.close_each.new.locks in
    let now = c.wait_in.new.self in
    let new : Objects = record { heap = c.end.new.heap; procs = c.end.new.self; tree = now.tree; names = now.names; fifos = now.fifos; locks = now.locks } in
    let closed = c.close_each.ensures.closed numbers others files hold in
    let between : AreKept some.0 mid =
    kept_shut some.0 old mid.heap mid.tree mid.names mid.fifos mid.locks pid some.1 c.close_each.ensures.closes c.close_each.ensures.listed c.close_each.ensures.owners closed.bound c.close_each.ensures.places
    c.close_each.ensures.chain c.close_each.ensures.locked (keeps_some numbers others mid (closed_each files pid) closed) in
    let silent : HoldBeside numbers others now (after_end_of files pid) =
    held_shut some.0 old mid.heap mid.tree mid.names mid.fifos mid.locks pid now some.1 c.close_each.ensures.closes c.requires.alive between c.wait_in.ensures numbers others files closed in
    held_moved numbers others now.heap new.heap now.procs new.procs now.tree now.names (after_end_of files pid) c.end.ensures.moves
    (opens_ended some.0 now new pid c.args.status numbers (after_end_of files pid)
    (kept_silent some.0 old mid.heap mid.tree mid.names mid.fifos mid.locks pid now some.1 c.close_each.ensures.closes c.requires.alive between c.wait_in.ensures)
    (closed_silent some.0 old mid.heap mid.tree mid.names mid.fifos mid.locks pid now some.1 c.close_each.ensures.closes c.requires.alive between c.wait_in.ensures)
    c.end.ensures.moves c.end.ensures.ended c.end.ensures.last silent.held.opened) silent

locks_each : (shelf : List (Option HeldLock)) (first : Option ℕ) (files : Files) (pid : ℕ) → HoldsLocks shelf first (closed_each files pid).locks → HoldsLocks shelf first (after_end_of files pid).locks
unfolding closed_each after_end_of
locks_each shelf first files pid holds = holds

pub returns-clause-locks : goal.returns-clause-locks
returns-clause-locks c = λ numbers others files hold held.
    let closed = locks_each c.close_each.new.heap.locks c.close_each.new.locks files c.args.place.pid (c.close_each.ensures.locks numbers others files hold held) in
    let same : c.end.new.heap.locks ≡ c.close_each.new.heap.locks = ap (λ (h : Heap). h.locks) c.end.ensures.moves.kept ∙ ap (λ (h : Heap). h.locks) c.wait_in.ensures.turns.after in
    subst (λ first. HoldsLocks c.end.new.heap.locks first (after_end_of files c.args.place.pid).locks) (sym c.wait_in.ensures.locks)
    (subst (λ (shelf : List (Option HeldLock)). HoldsLocks shelf c.close_each.new.locks (after_end_of files c.args.place.pid).locks) (sym same) closed)

pub returns-clause-queues : goal.returns-clause-queues
returns-clause-queues c =
    let now = c.wait_in.new.self in
    queues_then _ _ _ c.close_each.ensures.queues
    (queues_then c.close_each.new.heap now.heap c.end.new.heap
    (queues_same c.close_each.new.heap now.heap (ap (λ (h : Heap). h.pipes) c.wait_in.ensures.turns.after) (ap (λ (h : Heap). h.socks) c.wait_in.ensures.turns.after))
    (queues_same now.heap c.end.new.heap (ap (λ (h : Heap). h.pipes) c.end.ensures.moves.kept) (ap (λ (h : Heap). h.socks) c.end.ensures.moves.kept)))

stays_each : (files : Files) (pid : ℕ) → ends_node files (after_end_of files pid) ≡ false → ends_node files (closed_each files pid) ≡ false
unfolding closed_each after_end_of
stays_each files pid none = none

pub returns-clause-stays : goal.returns-clause-stays
returns-clause-stays c = λ numbers others files hold none.
    c.wait_in.ensures.tree ∙ c.close_each.ensures.stays numbers others files hold (stays_each files c.args.place.pid none)

pub returns-clause-reads : goal.returns-clause-reads
returns-clause-reads c =
    subst (λ (fs : TreeView). c.args.objects.now.tree.disk.reads ≤ fs.disk.reads) (sym c.wait_in.ensures.tree) c.close_each.ensures.reads

pub returns-clause-paid : goal.returns-clause-paid
returns-clause-paid c =
    let old = c.args.objects.now in
    let now = c.wait_in.new.self in
    IsPaid-trans old.heap c.args.purse.now now.heap c.close_each.new.purse c.end.new.heap c.close_each.new.purse
    (IsPaid-trans old.heap c.args.purse.now c.close_each.new.heap c.close_each.new.purse now.heap c.close_each.new.purse c.close_each.ensures.paid
    (IsPaid-nothing c.close_each.new.heap now.heap c.close_each.new.purse c.close_each.new.purse c.wait_in.ensures.takes refl refl))
    (IsPaid-nothing now.heap c.end.new.heap c.close_each.new.purse c.close_each.new.purse c.end.ensures.takes refl refl)
