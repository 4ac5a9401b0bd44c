use Rattle.std.proofs.Common.{is_some, ap, ◌∙◌, refl, subst, sym}
use Rattle.lock_table.specs.Chain.{HoldsLocks}
use Rattle.posix_defs.specs.Files.State.{Files}
use Rattle.proc_numbers.proofs.Fronts.{queues_same}
use Rattle.proc_files.specs.Ending.{OnlyGoes, closed_each, is_marked}
use Rattle.proc_files.specs.Holders.{openings}
use Rattle.proc_files.specs.NameHolding.{HoldNames}
use Rattle.proc_files.proofs.Finding.{is_at}
use Rattle.proc_files.proofs.Endings.{each_closed, each_none, end_rest, ends_same}
use Rattle.proc_files.proofs.NodesEnd.{ends_none}
use Rattle.proc_files.proofs.ending.close_each.Goals as goal

-- ---- nothing is open

pub returns-then-has_none_open-clause-closed : goal.returns-then-has_none_open-clause-closed
returns-then-has_none_open-clause-closed c =
    λ numbers others files hold.
    let it = (is_at c.args.heap.now c.args.procs.now c.args.place.pid c.requires.listed (ap is_some c.requires.there)) in
    subst (HoldNames numbers others c.args.heap.now c.args.procs.now c.args.tree.now c.args.names.now)
    (sym (ends_same numbers c.args.heap.now c.args.procs.now files c.args.place.pid it (c.has_none_open.ensures c.if-has_none_open.true it.proc it.found) hold.held.opened)) hold

pub returns-then-has_none_open-clause-locks : goal.returns-then-has_none_open-clause-locks
returns-then-has_none_open-clause-locks c =
    λ numbers others files hold held.
    let it = (is_at c.args.heap.now c.args.procs.now c.args.place.pid c.requires.listed (ap is_some c.requires.there)) in
    subst (λ (f : Files). HoldsLocks c.args.heap.now.locks c.args.locks.now f.locks)
    (sym (ends_same numbers c.args.heap.now c.args.procs.now files c.args.place.pid it (c.has_none_open.ensures c.if-has_none_open.true it.proc it.found) hold.held.opened)) held

pub returns-then-has_none_open-clause-closes : goal.returns-then-has_none_open-clause-closes
returns-then-has_none_open-clause-closes c =
    let it = (is_at c.args.heap.now c.args.procs.now c.args.place.pid c.requires.listed (ap is_some c.requires.there)) in
    each_none c.args.heap.now c.args.procs.now c.args.place.pid it (c.has_none_open.ensures c.if-has_none_open.true it.proc it.found)

pub returns-then-has_none_open-clause-queues : goal.returns-then-has_none_open-clause-queues
returns-then-has_none_open-clause-queues c = queues_same c.args.heap.now c.args.heap.now refl refl

-- ---- something is

pub returns-clause-closed : goal.returns-clause-closed
returns-clause-closed c =
    λ numbers others files hold.
    subst (HoldNames numbers others c.close_marked.new.heap c.args.procs.now c.close_marked.new.tree c.close_marked.new.names)
    (end_rest numbers c.args.heap.now c.close_marked.new.heap c.args.procs.now files c.args.place.pid c.reach_of-below.result (is_marked c.all_marks-marks.result) c.all_marks-marks.ensures c.reach_of-below.ensures.within c.requires.listed c.close_marked.ensures.listed
    c.reach_of-below.ensures.rest c.close_marked.ensures.closes (c.close_marked.ensures.closed numbers others files hold).held.opened)
    (c.close_marked.ensures.closed numbers others files hold)

pub returns-clause-locks : goal.returns-clause-locks
returns-clause-locks c =
    λ numbers others files hold held.
    subst (λ (f : Files). HoldsLocks c.close_marked.new.heap.locks c.close_marked.new.locks f.locks)
    (end_rest numbers c.args.heap.now c.close_marked.new.heap c.args.procs.now files c.args.place.pid c.reach_of-below.result (is_marked c.all_marks-marks.result) c.all_marks-marks.ensures c.reach_of-below.ensures.within c.requires.listed c.close_marked.ensures.listed
    c.reach_of-below.ensures.rest c.close_marked.ensures.closes (c.close_marked.ensures.closed numbers others files hold).held.opened)
    (c.close_marked.ensures.locks numbers others files hold held)

pub returns-clause-closes : goal.returns-clause-closes
returns-clause-closes c =
    each_closed c.args.heap.now c.close_marked.new.heap c.args.procs.now c.args.place.pid c.reach_of-below.result (is_marked c.all_marks-marks.result) c.all_marks-marks.ensures c.is_well_formed.ensures c.requires.listed c.close_marked.ensures.listed
    c.reach_of-below.ensures.rest c.close_marked.ensures.closes

pub returns-clause-stays : goal.returns-clause-stays
returns-clause-stays c =
    λ numbers others files hold none.
    let end =
    end_rest numbers c.args.heap.now c.close_marked.new.heap c.args.procs.now files c.args.place.pid c.reach_of-below.result (is_marked c.all_marks-marks.result) c.all_marks-marks.ensures c.reach_of-below.ensures.within c.requires.listed c.close_marked.ensures.listed
    c.reach_of-below.ensures.rest c.close_marked.ensures.closes (c.close_marked.ensures.closed numbers others files hold).held.opened in
    c.close_marked.ensures.stays numbers others files hold
    (λ n. ap (λ (f : Files). openings f n) end
    ∙ ends_none files (closed_each files c.args.place.pid) none (subst (OnlyGoes files) end (c.close_marked.ensures.goes numbers others files hold)) n)
