use Rattle.std.proofs.Common.{◌≡◌, ◌∙◌, None, ap, pos, refl, subst, sym, w64}
use Rattle.std.proofs.lemmas.Int.{to_z-of_z}
use Rattle.kabi_types.specs.Arguments.{count_of}
use Rattle.kheap_laws.proofs.PaidLemmas.{IsPaid-refl}
use Rattle.memfs_ops.proofs.CachedLemmas.{cached_still}
use Rattle.lock_table.specs.Chain.{HoldsLocks}
use Rattle.posix_defs.specs.Files.Closing.{after_close}
use Rattle.posix_defs.specs.Files.State.{Files}
use Rattle.proc_numbers.proofs.Fronts.{queues_same}
use Rattle.proc_numbers.proofs.NumberCloses.{no_some, unopened}
use Rattle.proc_numbers.proofs.OpenedBy.{is_counted, is_none}
use Rattle.proc_numbers.specs.Having.{node_closed}
use Rattle.proc_numbers.specs.Naming.{named_at, named_by}
use Rattle.proc_files.proofs.Unopened.{closes_nothing, opened_found}
use Rattle.proc_files.specs.Closing.{ClosesHolding, with_locks_of}
use Rattle.proc_files.specs.NameHolding.{HoldNames}
use Rattle.proc_files.proofs.closing.close_at.Goals as goal

-- ---- it isn't open

pub returns-in_default-clause-closed : goal.returns-in_default-clause-closed
returns-in_default-clause-closed c = λ numbers others files hold.
    let number : c.opened-on.result.fd ≡ pos c.args.fd = c.opened-on.ensures.number ∙ to_z-of_z w64 c.from.result (record { sfits = c.from.type_inv }) ∙ c.from.ensures in
    let none : named_at c.args.heap.now c.args.procs.now c.args.place.pid c.args.fd ≡ None =
    ap (named_by c.args.heap.now c.args.procs.now c.args.place.pid) (sym number) ∙ is_none c.args.heap.now c.args.procs.now c.args.place.pid c.opened-on.result c.opened-on.ensures.opened (no_some c.opened-on.result.found c.in_default.not-Some) in
    subst (HoldNames numbers others c.args.heap.now c.args.procs.now c.args.tree.now c.args.names.now) (sym (unopened numbers c.args.heap.now c.args.procs.now files c.args.place.pid c.args.fd none hold.held.opened)) hold

pub returns-in_default-clause-locks : goal.returns-in_default-clause-locks
returns-in_default-clause-locks c = λ numbers others files hold held.
    let number : c.opened-on.result.fd ≡ pos c.args.fd = c.opened-on.ensures.number ∙ to_z-of_z w64 c.from.result (record { sfits = c.from.type_inv }) ∙ c.from.ensures in
    let none : named_at c.args.heap.now c.args.procs.now c.args.place.pid c.args.fd ≡ None =
    ap (named_by c.args.heap.now c.args.procs.now c.args.place.pid) (sym number) ∙ is_none c.args.heap.now c.args.procs.now c.args.place.pid c.opened-on.result c.opened-on.ensures.opened (no_some c.opened-on.result.found c.in_default.not-Some) in
    subst (λ (f : Files). HoldsLocks c.args.heap.now.locks c.args.locks.now f.locks) (sym (unopened numbers c.args.heap.now c.args.procs.now files c.args.place.pid c.args.fd none hold.held.opened)) held

pub returns-in_default-clause-closes : goal.returns-in_default-clause-closes
returns-in_default-clause-closes c =
    let number : c.opened-on.result.fd ≡ pos c.args.fd = c.opened-on.ensures.number ∙ to_z-of_z w64 c.from.result (record { sfits = c.from.type_inv }) ∙ c.from.ensures in
    let none : named_at c.args.heap.now c.args.procs.now c.args.place.pid c.args.fd ≡ None =
    ap (named_by c.args.heap.now c.args.procs.now c.args.place.pid) (sym number) ∙ is_none c.args.heap.now c.args.procs.now c.args.place.pid c.opened-on.result c.opened-on.ensures.opened (no_some c.opened-on.result.found c.in_default.not-Some) in
    closes_nothing c.args.heap.now c.args.procs.now c.args.place.pid c.args.fd c.args.place.key c.requires.listed c.requires.there none

pub returns-in_default-clause-queues : goal.returns-in_default-clause-queues
returns-in_default-clause-queues c = queues_same c.args.heap.now c.args.heap.now refl refl

pub returns-in_default-clause-paid : goal.returns-in_default-clause-paid
returns-in_default-clause-paid c = IsPaid-refl c.args.heap.now c.args.purse.now

pub returns-in_default-clause-cached : goal.returns-in_default-clause-cached
returns-in_default-clause-cached c = cached_still c.args.tree.now

-- ---- it is

pub close_open-requires-clause-opened : goal.close_open-requires-clause-opened
close_open-requires-clause-opened c = opened_found c.args.heap.now c.args.procs.now c.args.place.pid c.opened-on.result c.opened-on.ensures.opened c.in-Some.found c.in-Some.is

pub returns-clause-closed : goal.returns-clause-closed
returns-clause-closed c = λ numbers others files hold.
    let number : c.opened-on.result.fd ≡ pos c.args.fd = c.opened-on.ensures.number ∙ to_z-of_z w64 c.from.result (record { sfits = c.from.type_inv }) ∙ c.from.ensures in
    let same : c.in-Some.found.number ≡ c.args.fd = is_counted c.args.heap.now c.args.procs.now c.args.place.pid c.opened-on.result c.opened-on.ensures.opened c.in-Some.found c.in-Some.is ∙ ap count_of number in
    subst (λ n. HoldNames numbers others c.close_open.new.heap c.args.procs.now c.close_open.new.tree c.close_open.new.names (after_close files c.args.place.pid n)) same (c.close_open.ensures.closed numbers others files hold)

pub returns-clause-locks : goal.returns-clause-locks
returns-clause-locks c = λ numbers others files hold held.
    let number : c.opened-on.result.fd ≡ pos c.args.fd = c.opened-on.ensures.number ∙ to_z-of_z w64 c.from.result (record { sfits = c.from.type_inv }) ∙ c.from.ensures in
    let same : c.in-Some.found.number ≡ c.args.fd = is_counted c.args.heap.now c.args.procs.now c.args.place.pid c.opened-on.result c.opened-on.ensures.opened c.in-Some.found c.in-Some.is ∙ ap count_of number in
    subst (λ n. HoldsLocks c.close_open.new.heap.locks c.close_open.new.locks (after_close files c.args.place.pid n).locks) same (c.close_open.ensures.locks numbers others files hold held)

pub returns-clause-closes : goal.returns-clause-closes
returns-clause-closes c =
    let number : c.opened-on.result.fd ≡ pos c.args.fd = c.opened-on.ensures.number ∙ to_z-of_z w64 c.from.result (record { sfits = c.from.type_inv }) ∙ c.from.ensures in
    let same : c.in-Some.found.number ≡ c.args.fd = is_counted c.args.heap.now c.args.procs.now c.args.place.pid c.opened-on.result c.opened-on.ensures.opened c.in-Some.found c.in-Some.is ∙ ap count_of number in
    subst (ClosesHolding (with_locks_of c.args.heap.now c.close_open.new.heap) c.close_open.new.heap c.args.procs.now c.args.place.pid) same c.close_open.ensures.closes

pub returns-clause-cached : goal.returns-clause-cached
returns-clause-cached c = c.close_open.ensures.cached

pub returns-clause-stays : goal.returns-clause-stays
returns-clause-stays c = λ none.
    let number : c.opened-on.result.fd ≡ pos c.args.fd = c.opened-on.ensures.number ∙ to_z-of_z w64 c.from.result (record { sfits = c.from.type_inv }) ∙ c.from.ensures in
    let same : c.in-Some.found.number ≡ c.args.fd = is_counted c.args.heap.now c.args.procs.now c.args.place.pid c.opened-on.result c.opened-on.ensures.opened c.in-Some.found c.in-Some.is ∙ ap count_of number in
    c.close_open.ensures.stays (ap (λ n. node_closed c.args.heap.now (named_at c.args.heap.now c.args.procs.now c.args.place.pid n)) same ∙ none)
