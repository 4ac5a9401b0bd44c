use Rattle.std.proofs.Common.{refl, subst, sym}
use Rattle.store_objects.proofs.LockedOn.{locks_follow}
use Rattle.answer_laws.proofs.KeptLocks.{leaves_locks}
use Rattle.kabi_types.specs.declared.calls.Call.TheVariants as call
use Rattle.posix_defs.specs.Calls.OnFiles.{fstat}
use Rattle.proc_numbers.proofs.Fronts.{queues_same}
use Rattle.proc_files.specs.Answering.{AnswersHolding}
use Rattle.proc_files.proofs.OpenFiles.{used_reads}
use Rattle.store_objects.proofs.Replying.{no_frames}
use Rattle.store_objects.proofs.Keeping.{listed_in}
use Rattle.store_objects.proofs.Within.{within_nothing}
use Rattle.store_objects.proofs.CallingOpens.{holds_some, kept_mid, mid, runs_mid, serves_holding, takes_none, unchanged}
use Rattle.store_objects.proofs.Reached.{first_off, leaves_numbers}
use Rattle.file_calls.proofs.telling.fstat.Goals as goal

pub stat_number-told-requires-clause-listed : goal.stat_number-told-requires-clause-listed
stat_number-told-requires-clause-listed c = listed_in c.args.script.now c.args.objects.now c.requires.stands.1.kept

pub stat_number-told-requires-clause-owners : goal.stat_number-told-requires-clause-owners
stat_number-told-requires-clause-owners c = c.requires.stands.1.kept.owners

pub stat_number-told-requires-clause-hold : goal.stat_number-told-requires-clause-hold
stat_number-told-requires-clause-hold c =
    holds_some c.args.script.now c.args.objects.now c.requires.stands.0 c.requires.stands.1 c.requires.stands.2 c.heap_is_well_formed.ensures

pub go_on-requires-clause-kept : goal.go_on-requires-clause-kept
go_on-requires-clause-kept c =
    let old = c.args.objects.now in
    let kept = c.requires.stands.1.kept in
    kept_mid c.args.script.now old old.heap c.stat_number-told.new.tree old.names old.fifos old.locks c.args.caller.now.place.pid c.args.caller.now.control kept c.requires.runs
    (unchanged c.args.script.now old c.args.caller.now.place.pid c.args.caller.now.control kept c.requires.runs) (listed_in c.args.script.now old kept) kept.owners kept.chain kept.locked kept.bound refl c.stat_number-told.ensures.hold

pub go_on-requires-clause-runs : goal.go_on-requires-clause-runs
go_on-requires-clause-runs c =
    let old = c.args.objects.now in
    let kept = c.requires.stands.1.kept in
    runs_mid c.args.script.now old old.heap c.stat_number-told.new.tree old.names old.fifos old.locks c.args.caller.now.place.pid c.args.caller.now.control kept c.requires.runs
    (unchanged c.args.script.now old c.args.caller.now.place.pid c.args.caller.now.control kept c.requires.runs) (listed_in c.args.script.now old kept) kept.owners kept.chain kept.locked kept.bound refl c.stat_number-told.ensures.hold

pub returns-clause-does : goal.returns-clause-does
returns-clause-does c =
    let script = c.args.script.now in
    let old = c.args.objects.now in
    let pid = c.args.caller.now.place.pid in
    let n = c.stat_number-told in
    let kept = c.requires.stands.1.kept in
    let which = call.Fstat c.args.on.now.fd in
    let said = c.stat.result in
    let same = unchanged script old pid c.args.caller.now.control kept c.requires.runs in
    let then = mid script old old.heap n.new.tree old.names old.fifos old.locks pid c.args.caller.now.control kept c.requires.runs same (listed_in script old kept) kept.owners kept.chain kept.locked kept.bound refl n.ensures.hold in
    serves_holding script old old.heap n.new.tree old.names old.fifos old.locks pid c.args.caller.now.control kept c.requires.runs same (listed_in script old kept) kept.owners kept.chain kept.locked kept.bound refl n.ensures.hold
    which said c.go_on.result c.go_on.new.objects (λ plain. fstat script plain pid c.args.on.now.fd) c.heap_is_well_formed.ensures
    (within_nothing old then which (takes_none old.heap) (used_reads old.tree n.new.tree n.ensures.used))
    (queues_same old.heap old.heap refl refl) c.go_on.ensures.told c.go_on.ensures.goes (no_frames which (λ frames pid value. refl) pid said)
    (λ numbers others plain hold.
    subst (AnswersHolding numbers others old.heap old.procs n.new.tree script plain pid (fstat script plain pid c.args.on.now.fd)) (sym c.stat.ensures)
    (n.ensures.answers numbers others script plain hold))
    (λ world next stands.
    leaves_numbers old then world pid which (record { right = refl; paths = refl; leaves = λ plain pid. refl; walks = refl }) said next
    (λ off.
    n.ensures.stays stands.files.numbers world.plain.files stands.files.opened (first_off _ _ off)))
    (locks_follow script old then pid (λ plain. fstat script plain pid c.args.on.now.fd) said (record { shelf = refl; first = refl })
    (λ plain. leaves_locks script plain pid which refl))
