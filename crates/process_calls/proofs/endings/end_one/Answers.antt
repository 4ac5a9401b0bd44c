use Rattle.std.proofs.Common.{◌∙◌, ◌≤◌, ap, refl, subst, sym}
use Rattle.kheap_laws.proofs.PaidLemmas.{IsPaid-nothing, IsPaid-trans}
use Rattle.posix_defs.specs.Files.Closing.{after_end_of}
use Rattle.posix_defs.specs.Memory.{after_clear}
use Rattle.memfs_ops.specs.FileTree.{TreeView}
use Rattle.proc_numbers.proofs.Fronts.{queues_then}
use Rattle.proc_table.specs.Standing.{ends_in}
use Rattle.store_objects.proofs.LockedOn.{holds_on}
use Rattle.store_objects.specs.Objects.{procs_of}
use Rattle.store_objects.specs.Trees.{kept_by}
use Rattle.store_objects.proofs.Pinning.{kept_then, pinned_account, pinned_kept, pinned_locks, pinned_procs, pinned_queues, pinned_stays, pinned_table}
use Rattle.process_calls.specs.Endings.{HoldFilesOf, workers_at}
use Rattle.process_calls.proofs.EndingOne.{held_ended, may_let_go}
use Rattle.process_calls.proofs.Holding.{keeps_some}
use Rattle.process_calls.proofs.endings.end_one.Goals as goal

pub directory_of-directory-requires-clause-stored : goal.directory_of-directory-requires-clause-stored
directory_of-directory-requires-clause-stored c = c.requires.kept.1.holds.stored

pub let_go-requires : goal.let_go-requires
let_go-requires c = record {
  held = λ other.
      let some = c.requires.kept in
      let held = c.requires.holds in
      may_let_go some.0 c.args.objects.now c.shut_down.new.objects c.args.place.pid c.directory_of-directory.result c.requires.alive.proc held.0 (after_end_of held.1 c.args.place.pid)
      some.1 c.requires.alive.there c.requires.alive.runs (c.directory_of-directory.ensures c.requires.alive.proc c.requires.alive.there) other
      (c.shut_down.ensures.holds held.0 (workers_at (procs_of c.args.objects.now)) held.1 held.2);
}

pub returns-clause-holds : goal.returns-clause-holds
returns-clause-holds c = λ numbers files hold.
    let some = c.requires.kept in
    held_ended some.0 c.args.objects.now c.shut_down.new.objects c.let_go.new.objects c.args.place.pid c.args.status c.directory_of-directory.result c.requires.alive.proc numbers (after_end_of files c.args.place.pid)
    some.1 c.requires.alive.there c.requires.alive.runs (c.directory_of-directory.ensures c.requires.alive.proc c.requires.alive.there)
    c.shut_down.ensures.ended c.let_go.ensures.only c.let_go.ensures.stands
    (c.shut_down.ensures.holds numbers (workers_at (procs_of c.args.objects.now)) files hold)

pub returns-clause-kept : goal.returns-clause-kept
returns-clause-kept c = λ script kept.
    let some = c.requires.kept in
    let held = c.requires.holds in
    let then : HoldFilesOf held.0 c.let_go.new.objects (after_end_of held.1 c.args.place.pid) =
    held_ended some.0 c.args.objects.now c.shut_down.new.objects c.let_go.new.objects c.args.place.pid c.args.status c.directory_of-directory.result c.requires.alive.proc held.0 (after_end_of held.1 c.args.place.pid)
    some.1 c.requires.alive.there c.requires.alive.runs (c.directory_of-directory.ensures c.requires.alive.proc c.requires.alive.there)
    c.shut_down.ensures.ended c.let_go.ensures.only c.let_go.ensures.stands
    (c.shut_down.ensures.holds held.0 (workers_at (procs_of c.args.objects.now)) held.1 held.2) in
    pinned_kept c.shut_down.new.objects c.let_go.new.objects c.let_go.ensures.only script (c.shut_down.ensures.kept script kept)
    (keeps_some held.0 (workers_at (procs_of c.let_go.new.objects)) c.let_go.new.objects (after_end_of held.1 c.args.place.pid) then)

pub returns-clause-last : goal.returns-clause-last
returns-clause-last c = ap (λ view. view.last) c.let_go.ensures.only.procs ∙ c.shut_down.ensures.last

pub returns-clause-ended : goal.returns-clause-ended
returns-clause-ended c = pinned_procs c.shut_down.new.objects c.let_go.new.objects c.let_go.ensures.only ∙ c.shut_down.ensures.ended

pub returns-clause-table : goal.returns-clause-table
returns-clause-table c = λ table is.
    pinned_table c.shut_down.new.objects c.let_go.new.objects c.let_go.ensures.only (ends_in table c.args.place.pid c.args.status) (c.shut_down.ensures.table table is)

pub returns-clause-account : goal.returns-clause-account
returns-clause-account c = λ frames has.
    pinned_account c.shut_down.new.objects c.let_go.new.objects c.let_go.ensures.only (after_clear frames c.args.place.pid) (c.shut_down.ensures.account frames has)

pub returns-clause-queues : goal.returns-clause-queues
returns-clause-queues c = queues_then _ _ _ c.shut_down.ensures.queues (pinned_queues c.shut_down.new.objects c.let_go.new.objects c.let_go.ensures.only)

pub returns-clause-stays : goal.returns-clause-stays
returns-clause-stays c = λ numbers files hold none.
    let same = c.shut_down.ensures.stays numbers (workers_at (procs_of c.args.objects.now)) files hold none in
    kept_then c.args.objects.now.tree c.shut_down.new.objects.tree c.let_go.new.objects.tree
    (record { kept = ap kept_by same; reads = ap (λ (fs : TreeView). fs.disk.reads) same })
    (pinned_stays c.shut_down.new.objects c.let_go.new.objects c.let_go.ensures.only)

pub returns-clause-reads : goal.returns-clause-reads
returns-clause-reads c =
    subst (λ n. c.args.objects.now.tree.disk.reads ≤ n) (sym (ap (λ (fs : TreeView). fs.disk.reads) c.let_go.ensures.only.tree)) c.shut_down.ensures.reads

pub returns-clause-paid : goal.returns-clause-paid
returns-clause-paid c =
    IsPaid-trans c.args.objects.now.heap c.args.purse.now c.shut_down.new.objects.heap c.shut_down.new.purse c.let_go.new.objects.heap c.shut_down.new.purse c.shut_down.ensures.paid
    (IsPaid-nothing c.shut_down.new.objects.heap c.let_go.new.objects.heap c.shut_down.new.purse c.shut_down.new.purse c.let_go.ensures.takes refl refl)

pub returns-clause-locks : goal.returns-clause-locks
returns-clause-locks c = λ numbers files hold held.
    holds_on c.shut_down.new.objects c.let_go.new.objects (pinned_locks c.shut_down.new.objects c.let_go.new.objects c.let_go.ensures.only) (after_end_of files c.args.place.pid).locks
    (c.shut_down.ensures.locks numbers (workers_at (procs_of c.args.objects.now)) files hold held)
