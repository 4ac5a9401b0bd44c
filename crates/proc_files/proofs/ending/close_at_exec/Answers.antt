use Rattle.std.proofs.Common.{◌∙◌, ap, subst}
use Rattle.lock_table.specs.Chain.{HoldsLocks}
use Rattle.posix_defs.specs.Files.Closing.{after_exec_of}
use Rattle.posix_defs.specs.Files.State.{Files}
use Rattle.proc_files.specs.Ending.{OnlyGoes, is_marked}
use Rattle.proc_files.specs.Holders.{openings}
use Rattle.proc_files.specs.NameHolding.{HoldNames}
use Rattle.proc_files.proofs.Endings.{exec_rest}
use Rattle.proc_files.proofs.NodesEnd.{ends_none}
use Rattle.proc_files.proofs.ending.close_at_exec.Goals as goal

pub returns-clause-closed : goal.returns-clause-closed
returns-clause-closed c = λ numbers others files hold.
    subst (HoldNames numbers others c.close_marked.new.heap c.args.procs.now c.close_marked.new.tree c.close_marked.new.names)
    (exec_rest (is_marked c.marks_of-marks.result) numbers c.args.heap.now c.args.procs.now files c.args.place.pid c.reach_of-below.result c.reach_of-below.ensures.within c.marks_of-marks.ensures.below c.marks_of-marks.ensures.behind
    c.reach_of-below.ensures.rest hold.held.opened)
    (c.close_marked.ensures.closed numbers others files hold)

pub returns-clause-locks : goal.returns-clause-locks
returns-clause-locks c = λ numbers others files hold held.
    subst (λ (f : Files). HoldsLocks c.close_marked.new.heap.locks c.close_marked.new.locks f.locks)
    (exec_rest (is_marked c.marks_of-marks.result) numbers c.args.heap.now c.args.procs.now files c.args.place.pid c.reach_of-below.result c.reach_of-below.ensures.within c.marks_of-marks.ensures.below c.marks_of-marks.ensures.behind
    c.reach_of-below.ensures.rest hold.held.opened)
    (c.close_marked.ensures.locks numbers others files hold held)

pub returns-clause-stays : goal.returns-clause-stays
returns-clause-stays c = λ numbers others files hold none.
    let end =
    exec_rest (is_marked c.marks_of-marks.result) numbers c.args.heap.now c.args.procs.now files c.args.place.pid c.reach_of-below.result c.reach_of-below.ensures.within c.marks_of-marks.ensures.below c.marks_of-marks.ensures.behind
    c.reach_of-below.ensures.rest hold.held.opened in
    c.close_marked.ensures.stays numbers others files hold
    (λ n. ap (λ (f : Files). openings f n) end
    ∙ ends_none files (after_exec_of files c.args.place.pid) none (subst (OnlyGoes files) end (c.close_marked.ensures.goes numbers others files hold)) n)

pub returns-clause-changes : goal.returns-clause-changes
returns-clause-changes c = c.close_marked.ensures.closes.changes
