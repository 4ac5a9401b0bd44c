use Rattle.std.proofs.Common.{◌≡◌, ℕ, ◌≤◌, ℤ, [], None, Result, refl, ap, subst, sym, w64, arith}
use Rattle.std.proofs.lemmas.Int.{to_z-of_z}
use Rattle.answer_laws.proofs.KeptLocks.{leaves_locks}
use Rattle.kabi_types.specs.Arguments.{argument_fault}
use Rattle.kabi_types.specs.declared.calls.Call.TheVariants as call
use Rattle.kabi_types.specs.declared.scripts.Script.{Script}
use Rattle.kabi_types.specs.declared.errnos.Errno.{Errno}
use Rattle.kabi_types.specs.declared.replies.Reply.{Reply}
use Rattle.kheap_laws.proofs.PaidLemmas.{TakesNothing-trans}
use Rattle.kheap_slabs.specs.Heap.{Heap, IsWellFormed}
use Rattle.memfs_ops.specs.FileTree.{IsUsed, TreeView}
use Rattle.open_laws.specs.Owned.{HasItsOwners}
use Rattle.store_objects.proofs.Replying.{no_frames}
use Rattle.posix_defs.specs.Calls.OnFiles.{lseek}
use Rattle.posix_defs.specs.World.{World}
use Rattle.proc_numbers.specs.Having.{AreListed}
use Rattle.proc_files.specs.Answering.{StaysOffNodes}
use Rattle.proc_numbers.specs.Answering.{value_of}
use Rattle.store_objects.specs.declared.objects.Objects.{Objects}
use Rattle.store_objects.specs.Standing.{IsSound, StandsFor}
use Rattle.store_objects.specs.Trees.{others_in}
use Rattle.store_objects.proofs.StoreFiles.{holds_names}
use Rattle.store_objects.proofs.Keeping.{listed_in}
use Rattle.store_objects.proofs.Within.{within_nothing}
use Rattle.file_calls.proofs.Calling.{AnswersSo, HasChanged, holds_some, kept_changed, leaves_others, mid_of, runs_changed, serves_changed}
use Rattle.store_objects.proofs.Needed.{of_two}
use Rattle.file_calls.proofs.Sought.{told_within}
use Rattle.file_calls.proofs.offsets.lseek.Goals as goal

reads_used : (was is : TreeView) → IsUsed was is → was.disk.reads ≤ is.disk.reads
reads_used was is used = let same : is.disk.reads ≡ was.disk.reads = ap (λ (fs : TreeView). fs.disk.reads) used.same in omega arith

changed : (script : Script) (old : Objects) (heap : Heap) (fs : TreeView) (pid : ℕ) (fd distance whence as_distance as_whence : ℤ) (is : Result ℕ Errno) (said : Reply) → as_distance ≡ distance → as_whence ≡ whence
    → said ≡ value_of is → heap ≡ record old.heap { descs = heap.descs } → (world : World) × StandsFor script old world × IsSound world.plain
    → IsWellFormed old.heap → AreListed heap old.procs → HasItsOwners heap [] → argument_fault (call.Lseek fd distance whence) ≡ None → StaysOffNodes old.heap old.procs pid fd old.tree fs
    → AnswersSo script old heap fs pid (λ plain. lseek script plain pid fd as_distance as_whence) (value_of is)
    → HasChanged script old heap fs pid (call.Lseek fd distance whence) fd (λ plain. lseek script plain pid fd distance whence) said
changed script old heap fs pid fd distance whence as_distance as_whence is said same_distance same_whence tells beside world well listed owners right stays answers = record {
  world = world;
  well = well;
  others = leaves_others old.heap heap (record old.heap { descs = heap.descs }) beside refl refl refl refl refl;
  nodes = ap (λ (h : Heap). h.nodes) beside;
  pages = ap (λ (h : Heap). h.pages) beside;
  listed = listed;
  owners = owners;
  names = record { right = right; paths = refl; numbers = refl; leaves = λ plain pid. refl; walks = refl };
  stays = stays;
  answers = of_two (λ distance1 whence1. AnswersSo script old heap fs pid (λ plain. lseek script plain pid fd distance1 whence1) said)
      as_distance as_whence distance whence same_distance same_whence (subst (AnswersSo script old heap fs pid (λ plain. lseek script plain pid fd as_distance as_whence)) (sym tells) answers);
}

pub seek_number-sought-requires-clause-listed : goal.seek_number-sought-requires-clause-listed
seek_number-sought-requires-clause-listed c = listed_in c.args.script.now c.args.objects.now c.requires.stands.1.kept

pub seek_number-sought-requires-clause-owners : goal.seek_number-sought-requires-clause-owners
seek_number-sought-requires-clause-owners c = c.requires.stands.1.kept.owners

pub seek_number-sought-requires-clause-hold : goal.seek_number-sought-requires-clause-hold
seek_number-sought-requires-clause-hold c = holds_some c.args.script.now c.args.objects.now c.requires.stands.0 c.requires.stands.1 c.requires.stands.2 c.heap_is_well_formed.ensures

pub offset-requires : goal.offset-requires
offset-requires c =
    let some = c.requires.stands in
    let holds = holds_names c.args.script.now c.args.objects.now some.0 some.1 c.heap_is_well_formed.ensures some.2 in
    let it = c.seek_number-sought.ensures.answers some.1.files.numbers (others_in some.0.plain) c.args.script.now some.0.plain holds.held in
    told_within c.args.script.now some.0.plain c.args.caller.now.place.pid _ _ _ c.seek_number-sought.result it.files it.replies

pub go_on-requires-clause-kept : goal.go_on-requires-clause-kept
go_on-requires-clause-kept c =
    kept_changed c.args.script.now c.args.objects.now c.seek_number-sought.new.heap c.seek_number-sought.new.tree c.args.caller.now.place.pid (call.Lseek c.args.on.now.fd c.args.distance c.args.whence) c.args.on.now.fd (λ plain. lseek c.args.script.now plain c.args.caller.now.place.pid c.args.on.now.fd c.args.distance c.args.whence) c.offset.result
    (changed c.args.script.now c.args.objects.now c.seek_number-sought.new.heap c.seek_number-sought.new.tree c.args.caller.now.place.pid c.args.on.now.fd c.args.distance c.args.whence _ _ c.seek_number-sought.result c.offset.result
    (to_z-of_z w64 c.args.distance c.ranges.distance) (to_z-of_z w64 c.args.whence c.ranges.whence) c.offset.ensures c.seek_number-sought.ensures.beside c.requires.stands
    c.heap_is_well_formed.ensures c.seek_number-sought.ensures.listed c.seek_number-sought.ensures.owners c.requires.right c.seek_number-sought.ensures.stays (λ numbers others plain. c.seek_number-sought.ensures.answers numbers others c.args.script.now plain))

pub go_on-requires-clause-runs : goal.go_on-requires-clause-runs
go_on-requires-clause-runs c =
    runs_changed c.args.script.now c.args.objects.now c.seek_number-sought.new.heap c.seek_number-sought.new.tree c.args.caller.now.place.pid (call.Lseek c.args.on.now.fd c.args.distance c.args.whence) c.args.on.now.fd (λ plain. lseek c.args.script.now plain c.args.caller.now.place.pid c.args.on.now.fd c.args.distance c.args.whence) c.offset.result
    (changed c.args.script.now c.args.objects.now c.seek_number-sought.new.heap c.seek_number-sought.new.tree c.args.caller.now.place.pid c.args.on.now.fd c.args.distance c.args.whence _ _ c.seek_number-sought.result c.offset.result
    (to_z-of_z w64 c.args.distance c.ranges.distance) (to_z-of_z w64 c.args.whence c.ranges.whence) c.offset.ensures c.seek_number-sought.ensures.beside c.requires.stands
    c.heap_is_well_formed.ensures c.seek_number-sought.ensures.listed c.seek_number-sought.ensures.owners c.requires.right c.seek_number-sought.ensures.stays (λ numbers others plain. c.seek_number-sought.ensures.answers numbers others c.args.script.now plain))
    c.args.caller.now.control c.requires.runs

pub returns-clause-takes : goal.returns-clause-takes
returns-clause-takes c = TakesNothing-trans c.args.objects.now.heap c.seek_number-sought.new.heap c.go_on.new.objects.heap c.seek_number-sought.ensures.takes c.go_on.ensures.takes

pub returns-clause-does : goal.returns-clause-does
returns-clause-does c =
    serves_changed c.args.script.now c.args.objects.now c.seek_number-sought.new.heap c.seek_number-sought.new.tree c.args.caller.now.place.pid (call.Lseek c.args.on.now.fd c.args.distance c.args.whence) c.args.on.now.fd (λ plain. lseek c.args.script.now plain c.args.caller.now.place.pid c.args.on.now.fd c.args.distance c.args.whence) c.offset.result
    (changed c.args.script.now c.args.objects.now c.seek_number-sought.new.heap c.seek_number-sought.new.tree c.args.caller.now.place.pid c.args.on.now.fd c.args.distance c.args.whence _ _ c.seek_number-sought.result c.offset.result
    (to_z-of_z w64 c.args.distance c.ranges.distance) (to_z-of_z w64 c.args.whence c.ranges.whence) c.offset.ensures c.seek_number-sought.ensures.beside c.requires.stands
    c.heap_is_well_formed.ensures c.seek_number-sought.ensures.listed c.seek_number-sought.ensures.owners c.requires.right c.seek_number-sought.ensures.stays (λ numbers others plain. c.seek_number-sought.ensures.answers numbers others c.args.script.now plain))
    c.go_on.result c.go_on.new.objects
    (within_nothing c.args.objects.now (mid_of c.args.objects.now c.seek_number-sought.new.heap c.seek_number-sought.new.tree) (call.Lseek c.args.on.now.fd c.args.distance c.args.whence) c.seek_number-sought.ensures.takes (reads_used c.args.objects.now.tree c.seek_number-sought.new.tree c.seek_number-sought.ensures.used))
    c.go_on.ensures.told c.go_on.ensures.goes (no_frames (call.Lseek c.args.on.now.fd c.args.distance c.args.whence) (λ frames pid value. refl) c.args.caller.now.place.pid c.offset.result)
    (λ plain. leaves_locks c.args.script.now plain c.args.caller.now.place.pid (call.Lseek c.args.on.now.fd c.args.distance c.args.whence) refl)
