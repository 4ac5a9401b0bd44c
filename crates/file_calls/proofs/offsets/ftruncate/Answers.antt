use Rattle.std.proofs.Common.{◌≡◌, ℕ, ℤ, [], None, Result, refl, ap, subst, sym, w64}
use Rattle.std.proofs.lemmas.Int.{to_z-of_z}
use Rattle.answer_laws.proofs.KeptLocks.{leaves_locks}
use Rattle.kabi_types.specs.Arguments.{argument_fault}
use Rattle.kabi_types.specs.declared.calls.Call.TheVariants as call
use Rattle.kabi_types.specs.declared.scripts.Script.{Script}
use Rattle.kabi_types.specs.declared.errnos.Errno.{Errno}
use Rattle.kabi_types.specs.declared.replies.Reply.{Reply}
use Rattle.kheap_laws.proofs.PaidLemmas.{IsPaid-nothing, IsPaid-trans}
use Rattle.kheap_slabs.specs.Heap.{Heap, IsWellFormed}
use Rattle.memfs_ops.specs.FileTree.{TreeView}
use Rattle.open_laws.specs.Owned.{HasItsOwners}
use Rattle.store_objects.proofs.Replying.{no_frames}
use Rattle.posix_defs.specs.Calls.OnFiles.{ftruncate}
use Rattle.posix_defs.specs.World.{World}
use Rattle.proc_numbers.specs.Having.{AreListed}
use Rattle.proc_files.specs.Answering.{StaysOffNodes}
use Rattle.proc_numbers.specs.Answering.{zero_of}
use Rattle.store_objects.specs.declared.objects.Objects.{Objects}
use Rattle.store_objects.specs.Standing.{IsSound, StandsFor}
use Rattle.store_objects.proofs.Keeping.{listed_in}
use Rattle.store_objects.proofs.Within.{within_paid}
use Rattle.file_calls.proofs.Calling.{AnswersSo, HasChanged, holds_some, kept_changed, leaves_others, mid_of, runs_changed, serves_changed}
use Rattle.file_calls.proofs.offsets.ftruncate.Goals as goal

changed : {X : Type 0} (script : Script) (old : Objects) (heap : Heap) (fs : TreeView) (pid : ℕ) (fd size as_size : ℤ) (is : Result X Errno) (said : Reply) → as_size ≡ size
    → said ≡ zero_of is → heap ≡ record old.heap { vnodes = heap.vnodes; names = heap.names; blocks = heap.blocks; high = heap.high } → (world : World) × StandsFor script old world × IsSound world.plain
    → IsWellFormed old.heap → AreListed heap old.procs → HasItsOwners heap [] → argument_fault (call.Ftruncate fd size) ≡ None → StaysOffNodes old.heap old.procs pid fd old.tree fs
    → AnswersSo script old heap fs pid (λ plain. ftruncate script plain pid fd as_size) (zero_of is)
    → HasChanged script old heap fs pid (call.Ftruncate fd size) fd (λ plain. ftruncate script plain pid fd size) said
changed script old heap fs pid fd size as_size is said same_size tells beside world well listed owners right stays answers = record {
  world = world;
  well = well;
  others = leaves_others old.heap heap (record old.heap { vnodes = heap.vnodes; names = heap.names; blocks = heap.blocks; high = heap.high }) beside refl refl refl refl refl;
  nodes = ap (λ (h : Heap). h.nodes) beside;
  pages = ap (λ (h : Heap). h.pages) beside;
  listed = listed;
  owners = owners;
  names = record { right = right; paths = refl; numbers = refl; leaves = λ plain pid. refl; walks = refl };
  stays = stays;
  answers = subst (λ size1. AnswersSo script old heap fs pid (λ plain. ftruncate script plain pid fd size1) said)
      same_size (subst (AnswersSo script old heap fs pid (λ plain. ftruncate script plain pid fd as_size)) (sym tells) answers);
}

pub size_number-done-requires-clause-listed : goal.size_number-done-requires-clause-listed
size_number-done-requires-clause-listed c = listed_in c.args.script.now c.args.objects.now c.requires.stands.1.kept

pub size_number-done-requires-clause-owners : goal.size_number-done-requires-clause-owners
size_number-done-requires-clause-owners c = c.requires.stands.1.kept.owners

pub size_number-done-requires-clause-hold : goal.size_number-done-requires-clause-hold
size_number-done-requires-clause-hold c = holds_some c.args.script.now c.args.objects.now c.requires.stands.0 c.requires.stands.1 c.requires.stands.2 c.heap_is_well_formed.ensures

pub go_on-requires-clause-kept : goal.go_on-requires-clause-kept
go_on-requires-clause-kept c =
    kept_changed c.args.script.now c.args.objects.now c.size_number-done.new.heap c.size_number-done.new.tree c.args.caller.now.place.pid (call.Ftruncate c.args.on.now.fd c.args.size) c.args.on.now.fd (λ plain. ftruncate c.args.script.now plain c.args.caller.now.place.pid c.args.on.now.fd c.args.size) c.zero.result
    (changed c.args.script.now c.args.objects.now c.size_number-done.new.heap c.size_number-done.new.tree c.args.caller.now.place.pid c.args.on.now.fd c.args.size _ c.size_number-done.result c.zero.result
    (to_z-of_z w64 c.args.size c.ranges.size) c.zero.ensures c.size_number-done.ensures.pays.only c.requires.stands
    c.heap_is_well_formed.ensures c.size_number-done.ensures.listed c.size_number-done.ensures.owners c.requires.right c.size_number-done.ensures.stays (λ numbers others plain. c.size_number-done.ensures.answers numbers others c.args.script.now plain))

pub go_on-requires-clause-runs : goal.go_on-requires-clause-runs
go_on-requires-clause-runs c =
    runs_changed c.args.script.now c.args.objects.now c.size_number-done.new.heap c.size_number-done.new.tree c.args.caller.now.place.pid (call.Ftruncate c.args.on.now.fd c.args.size) c.args.on.now.fd (λ plain. ftruncate c.args.script.now plain c.args.caller.now.place.pid c.args.on.now.fd c.args.size) c.zero.result
    (changed c.args.script.now c.args.objects.now c.size_number-done.new.heap c.size_number-done.new.tree c.args.caller.now.place.pid c.args.on.now.fd c.args.size _ c.size_number-done.result c.zero.result
    (to_z-of_z w64 c.args.size c.ranges.size) c.zero.ensures c.size_number-done.ensures.pays.only c.requires.stands
    c.heap_is_well_formed.ensures c.size_number-done.ensures.listed c.size_number-done.ensures.owners c.requires.right c.size_number-done.ensures.stays (λ numbers others plain. c.size_number-done.ensures.answers numbers others c.args.script.now plain))
    c.args.caller.now.control c.requires.runs

pub returns-clause-paid : goal.returns-clause-paid
returns-clause-paid c =
    IsPaid-trans c.args.objects.now.heap c.args.purse.now c.size_number-done.new.heap c.size_number-done.new.purse c.go_on.new.objects.heap c.size_number-done.new.purse c.size_number-done.ensures.pays.paid
    (IsPaid-nothing c.size_number-done.new.heap c.go_on.new.objects.heap c.size_number-done.new.purse c.size_number-done.new.purse c.go_on.ensures.takes refl refl)

pub returns-clause-does : goal.returns-clause-does
returns-clause-does c =
    serves_changed c.args.script.now c.args.objects.now c.size_number-done.new.heap c.size_number-done.new.tree c.args.caller.now.place.pid (call.Ftruncate c.args.on.now.fd c.args.size) c.args.on.now.fd (λ plain. ftruncate c.args.script.now plain c.args.caller.now.place.pid c.args.on.now.fd c.args.size) c.zero.result
    (changed c.args.script.now c.args.objects.now c.size_number-done.new.heap c.size_number-done.new.tree c.args.caller.now.place.pid c.args.on.now.fd c.args.size _ c.size_number-done.result c.zero.result
    (to_z-of_z w64 c.args.size c.ranges.size) c.zero.ensures c.size_number-done.ensures.pays.only c.requires.stands
    c.heap_is_well_formed.ensures c.size_number-done.ensures.listed c.size_number-done.ensures.owners c.requires.right c.size_number-done.ensures.stays (λ numbers others plain. c.size_number-done.ensures.answers numbers others c.args.script.now plain))
    c.go_on.result c.go_on.new.objects
    (within_paid c.args.objects.now (mid_of c.args.objects.now c.size_number-done.new.heap c.size_number-done.new.tree) c.args.purse.now c.size_number-done.new.purse (call.Ftruncate c.args.on.now.fd c.args.size) c.size_number-done.ensures.pays.paid
    (ap (λ need. need.name) c.requires.needed) (ap (λ need. need.block) c.requires.needed) (ap (λ need. need.vnode) c.requires.needed) c.size_number-done.ensures.pays.reads)
    c.go_on.ensures.told c.go_on.ensures.goes (no_frames (call.Ftruncate c.args.on.now.fd c.args.size) (λ frames pid value. refl) c.args.caller.now.place.pid c.zero.result)
    (λ plain. leaves_locks c.args.script.now plain c.args.caller.now.place.pid (call.Ftruncate c.args.on.now.fd c.args.size) refl)
