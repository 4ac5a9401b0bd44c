use Rattle.std.proofs.Common.{◌≡◌, ℕ, false, None, Some, ap, refl, subst, sym, w64}
use Rattle.std.proofs.lemmas.Int.{to_z-of_z}
use Rattle.answer_laws.proofs.KeptLocks.{open_leaves}
use Rattle.kabi_types.specs.Arguments.{argument_fault}
use Rattle.kabi_types.specs.declared.calls.Call.TheVariants as call
use Rattle.kabi_types.specs.declared.classes.Need.{Need}
use Rattle.kheap_slabs.specs.declared.objects.Proc.{Proc}
use Rattle.kheap_laws.proofs.PaidLemmas.{IsPaid-nothing, IsPaid-trans}
use Rattle.memfs_ops.specs.FileTree.{KnowsWay, Stands, in_call}
use Rattle.posix_defs.specs.Calls.OnFiles.{open_by}
use Rattle.posix_defs.specs.Files.Descriptions.{has_flag, o_trunc}
use Rattle.posix_defs.specs.Tree.{Tree}
use Rattle.proc_files.specs.Opening.{AnswersOpening}
use Rattle.store_objects.proofs.Replying.{no_frames}
use Rattle.proc_table.specs.Procs.{proc_of}
use Rattle.store_objects.specs.Objects.{procs_of}
use Rattle.store_objects.proofs.StoreFiles.{works_somewhere}
use Rattle.store_objects.proofs.Keeping.{listed_in}
use Rattle.store_objects.proofs.Within.{within_paid}
use Rattle.file_calls.proofs.CallingOpens.{serves_opening}
use Rattle.store_objects.proofs.CallingOpens.{alive_who_runs, bound_still, kept_mid, locked_still, mid, runs_mid}
use Rattle.file_calls.proofs.Opens.{leaf_left, leaves_open, one_left, pipe_left}
use Rattle.file_calls.proofs.opening.open_anew.Goals as goal

pub open_path-came-requires-clause-listed : goal.open_path-came-requires-clause-listed
open_path-came-requires-clause-listed c = listed_in c.args.script.now c.args.objects.now c.requires.stands.1.kept

pub open_path-came-requires-clause-owners : goal.open_path-came-requires-clause-owners
open_path-came-requires-clause-owners c = c.requires.stands.1.kept.owners

pub open_path-came-requires-clause-works : goal.open_path-came-requires-clause-works
open_path-came-requires-clause-works c =
    let some = c.requires.stands in
    works_somewhere c.args.script.now c.args.objects.now some.0 some.1 c.heap_is_well_formed.ensures some.2 c.args.caller.now.place.pid (alive_who_runs c.args.objects.now c.args.caller.now.place.pid c.args.caller.now.control c.requires.runs)

pub open_path-came-requires-clause-right : goal.open_path-came-requires-clause-right
open_path-came-requires-clause-right c =
    subst (λ z. argument_fault (call.OpenFile c.args.path.now z) ≡ _) (sym (to_z-of_z w64 c.args.flags c.ranges.flags)) c.requires.right

pub open_path-came-requires-clause-left : goal.open_path-came-requires-clause-left
open_path-came-requires-clause-left c = one_left c.args.path.now c.args.flags c.args.purse.now c.requires.right c.requires.needed

pub open_path-came-requires-clause-left_leaf : goal.open_path-came-requires-clause-left_leaf
open_path-came-requires-clause-left_leaf c = leaf_left c.args.path.now c.args.flags c.args.purse.now c.requires.right c.requires.needed

pub open_path-came-requires-clause-left_pipe : goal.open_path-came-requires-clause-left_pipe
open_path-came-requires-clause-left_pipe c = pipe_left c.args.path.now c.args.flags c.args.purse.now c.requires.right c.requires.needed

pub open_path-came-requires-clause-chain : goal.open_path-came-requires-clause-chain
open_path-came-requires-clause-chain c = c.requires.stands.1.kept.chain

pub go_on_opened-requires-clause-kept : goal.go_on_opened-requires-clause-kept
go_on_opened-requires-clause-kept c =
    let n = c.open_path-came in
    let kept = c.requires.stands.1.kept in
    kept_mid c.args.script.now c.args.objects.now n.new.heap n.new.tree c.args.objects.now.names n.new.fifos c.args.objects.now.locks c.args.caller.now.place.pid c.args.caller.now.control kept c.requires.runs n.ensures.changes n.ensures.listed n.ensures.owners
    n.ensures.chain (locked_still c.args.objects.now n.new.heap n.ensures.locks kept.locked) (bound_still c.args.script.now c.args.objects.now n.new.heap kept n.ensures.socks) refl n.ensures.hold

pub go_on_opened-requires-clause-runs : goal.go_on_opened-requires-clause-runs
go_on_opened-requires-clause-runs c =
    let n = c.open_path-came in
    let kept = c.requires.stands.1.kept in
    runs_mid c.args.script.now c.args.objects.now n.new.heap n.new.tree c.args.objects.now.names n.new.fifos c.args.objects.now.locks c.args.caller.now.place.pid c.args.caller.now.control kept c.requires.runs n.ensures.changes n.ensures.listed n.ensures.owners
    n.ensures.chain (locked_still c.args.objects.now n.new.heap n.ensures.locks kept.locked) (bound_still c.args.script.now c.args.objects.now n.new.heap kept n.ensures.socks) refl n.ensures.hold

pub returns-clause-paid : goal.returns-clause-paid
returns-clause-paid c =
    let n = c.open_path-came in
    IsPaid-trans c.args.objects.now.heap c.args.purse.now n.new.heap n.new.purse c.go_on_opened.new.objects.heap n.new.purse n.ensures.paid
    (IsPaid-nothing n.new.heap c.go_on_opened.new.objects.heap n.new.purse n.new.purse c.go_on_opened.ensures.takes refl refl)

pub returns-clause-does : goal.returns-clause-does
returns-clause-does c =
    let script = c.args.script.now in
    let old = c.args.objects.now in
    let pid = c.args.caller.now.place.pid in
    let path = c.args.path.now in
    let n = c.open_path-came in
    let kept = c.requires.stands.1.kept in
    let which = call.OpenFile path c.args.flags in
    let flags = to_z-of_z w64 c.args.flags c.ranges.flags in
    let bound = bound_still script old n.new.heap kept n.ensures.socks in
    let then = mid script old n.new.heap n.new.tree old.names n.new.fifos old.locks pid c.args.caller.now.control kept c.requires.runs n.ensures.changes n.ensures.listed n.ensures.owners n.ensures.chain (locked_still old n.new.heap n.ensures.locks kept.locked) bound refl n.ensures.hold in
    serves_opening script old n.new.heap n.new.tree old.names n.new.fifos old.locks pid c.args.caller.now.control kept c.requires.runs n.ensures.changes n.ensures.listed n.ensures.owners n.ensures.chain (locked_still old n.new.heap n.ensures.locks kept.locked) bound refl n.ensures.hold
    which c.go_on_opened.result c.go_on_opened.new.objects (λ plain. open_by script plain pid path c.args.flags None) c.heap_is_well_formed.ensures
    (within_paid old then c.args.purse.now n.new.purse which n.ensures.paid
    (ap (λ (need : Need). need.name) c.requires.needed) (ap (λ (need : Need). need.block) c.requires.needed) (ap (λ (need : Need). need.vnode) c.requires.needed) n.ensures.reads)
    n.ensures.queues (λ frames said. no_frames which (λ frames pid value. refl) pid said frames)
    (record { shelf = n.ensures.locks; first = refl }) (λ plain. open_leaves script plain pid path c.args.flags None) n.result c.go_on_opened.ensures.told c.go_on_opened.ensures.goes
    (λ numbers others plain table hold.
    subst (λ z. AnswersOpening numbers others old.heap n.new.heap old.procs n.new.tree script plain pid (open_by script plain pid path z None) n.result) flags
    (n.ensures.answers numbers others script plain table hold))
    (λ world stands it.
    leaves_open script old then c.args.purse.now pid path c.args.flags c.requires.runs.proc c.requires.runs.found c.requires.runs.up c.requires.right n.result
    (subst (λ z. (proc : Proc) (plain : Tree) (pins : ℕ → ℕ) → proc_of (procs_of old) pid ≡ Some proc → Stands old.heap old.tree plain pins
    → KnowsWay (in_call old.heap c.args.purse.now old.tree) plain proc.cwd path → has_flag z o_trunc ≡ false → n.new.tree.disk ≡ old.tree.disk) flags n.ensures.saved)
    n.ensures.kept world stands stands.files.numbers it)
