use Rattle.std.proofs.Common.{is_some, ap, ◌≡◌, ℕ, cond, refl, subst, sym}
use Rattle.lock_table.specs.Chain.{HoldsLocks}
use Rattle.memfs_ops.proofs.CachedLemmas.{cached_still}
use Rattle.posix_defs.specs.Files.Closing.{after_close}
use Rattle.proc_numbers.proofs.Fronts.{queues_same}
use Rattle.proc_files.specs.Ending.{ClosesIf, OnlyGoes}
use Rattle.proc_files.specs.Holders.{openings}
use Rattle.proc_files.specs.NameHolding.{HoldNames}
use Rattle.proc_files.proofs.Finding.{is_at}
use Rattle.proc_files.proofs.Endings.{marked_closes, not_marked}
use Rattle.proc_files.proofs.NodesEnd.{closing_goes, goes_still, none_goes, only_goes}
use Rattle.proc_files.proofs.ending.close_if.Goals as goal

pub returns-then-not-marked-clause-closed : goal.returns-then-not-marked-clause-closed
returns-then-not-marked-clause-closed c = λ numbers others files hold.
    subst (λ b. HoldNames numbers others c.args.heap.now c.args.procs.now c.args.tree.now c.args.names.now (cond b (after_close files c.args.place.pid c.args.fd) files)) (sym c.if-not-marked.true) hold

pub returns-then-not-marked-clause-locks : goal.returns-then-not-marked-clause-locks
returns-then-not-marked-clause-locks c = λ numbers others files hold held.
    subst (λ b. HoldsLocks c.args.heap.now.locks c.args.locks.now (cond b (after_close files c.args.place.pid c.args.fd) files).locks) (sym c.if-not-marked.true) held

pub returns-then-not-marked-clause-closes : goal.returns-then-not-marked-clause-closes
returns-then-not-marked-clause-closes c =
    subst (ClosesIf c.args.heap.now c.args.heap.now c.args.procs.now c.args.place.pid c.args.fd) (sym c.if-not-marked.true)
    (not_marked c.args.heap.now c.args.procs.now c.args.place.pid c.args.fd (is_at c.args.heap.now c.args.procs.now c.args.place.pid c.requires.listed (ap is_some c.requires.there)))

pub returns-then-not-marked-clause-queues : goal.returns-then-not-marked-clause-queues
returns-then-not-marked-clause-queues c = queues_same c.args.heap.now c.args.heap.now refl refl

pub returns-clause-closed : goal.returns-clause-closed
returns-clause-closed c = λ numbers others files hold.
    subst (λ b. HoldNames numbers others c.close_at.new.heap c.args.procs.now c.close_at.new.tree c.close_at.new.names (cond b (after_close files c.args.place.pid c.args.fd) files)) (sym c.if-not-marked.false)
    (c.close_at.ensures.closed numbers others files hold)

pub returns-clause-locks : goal.returns-clause-locks
returns-clause-locks c = λ numbers others files hold held.
    subst (λ b. HoldsLocks c.close_at.new.heap.locks c.close_at.new.locks (cond b (after_close files c.args.place.pid c.args.fd) files).locks) (sym c.if-not-marked.false)
    (c.close_at.ensures.locks numbers others files hold held)

pub returns-clause-closes : goal.returns-clause-closes
returns-clause-closes c =
    subst (ClosesIf c.args.heap.now c.close_at.new.heap c.args.procs.now c.args.place.pid c.args.fd) (sym c.if-not-marked.false)
    (marked_closes c.args.heap.now c.close_at.new.heap c.args.procs.now c.args.place.pid c.args.fd c.close_at.ensures.closes)

pub returns-then-not-marked-clause-goes : goal.returns-then-not-marked-clause-goes
returns-then-not-marked-clause-goes c = λ numbers others files hold.
    subst (λ b. OnlyGoes files (cond b (after_close files c.args.place.pid c.args.fd) files)) (sym c.if-not-marked.true) (goes_still files)

pub returns-clause-goes : goal.returns-clause-goes
returns-clause-goes c = λ numbers others files hold.
    subst (λ b. OnlyGoes files (cond b (after_close files c.args.place.pid c.args.fd) files)) (sym c.if-not-marked.false)
    (only_goes files (after_close files c.args.place.pid c.args.fd) _
    (closing_goes c.args.heap.now c.close_at.new.heap c.args.procs.now c.args.place.pid c.args.fd numbers files c.requires.listed c.requires.owners c.close_at.ensures.listed c.close_at.ensures.owners c.close_at.ensures.closes hold.held.opened
    (c.close_at.ensures.closed numbers others files hold).held.opened))

pub returns-clause-stays : goal.returns-clause-stays
returns-clause-stays c = λ numbers others files hold same.
    c.close_at.ensures.stays
    (none_goes files (after_close files c.args.place.pid c.args.fd) _
    (closing_goes c.args.heap.now c.close_at.new.heap c.args.procs.now c.args.place.pid c.args.fd numbers files c.requires.listed c.requires.owners c.close_at.ensures.listed c.close_at.ensures.owners c.close_at.ensures.closes hold.held.opened
    (c.close_at.ensures.closed numbers others files hold).held.opened)
    (subst (λ b. (n : ℕ) → openings (cond b (after_close files c.args.place.pid c.args.fd) files) n ≡ openings files n) c.if-not-marked.false same))

pub returns-then-not-marked-clause-cached : goal.returns-then-not-marked-clause-cached
returns-then-not-marked-clause-cached c = cached_still c.args.tree.now

pub returns-clause-cached : goal.returns-clause-cached
returns-clause-cached c = c.close_at.ensures.cached
