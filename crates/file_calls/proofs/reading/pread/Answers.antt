use Rattle.std.proofs.Common.{◌≡◌, ℕ, ℤ, None, Result, refl, ap, subst, sym, w64}
use Rattle.std.proofs.lemmas.Int.{to_z-of_z}
use Rattle.answer_laws.proofs.KeptLocks.{leaves_locks}
use Rattle.kabi_types.specs.Arguments.{argument_fault, count_of}
use Rattle.kabi_types.specs.declared.calls.Call.TheVariants as call
use Rattle.kabi_types.specs.declared.scripts.Script.{Script}
use Rattle.kabi_types.specs.declared.errnos.Errno.{Errno}
use Rattle.kabi_types.specs.declared.replies.Reply.{Reply}
use Rattle.kheap_laws.proofs.PaidLemmas.{IsPaid-nothing, IsPaid-trans}
use Rattle.kheap_slabs.specs.Heap.{Heap, IsWellFormed}
use Rattle.kheap_slabs.specs.declared.objects.Desc.{Desc}
use Rattle.memfs_ops.specs.FileTree.{TreeView}
use Rattle.posix_defs.specs.Calls.Reading.{pread}
use Rattle.posix_defs.specs.World.{World}
use Rattle.proc_files.specs.Answering.{StaysOffNodes}
use Rattle.proc_numbers.specs.Answering.{value_of}
use Rattle.proc_numbers.specs.Standing.{IsKept}
use Rattle.store_objects.specs.declared.objects.Objects.{Objects}
use Rattle.store_objects.specs.Standing.{IsSound, StandsFor}
use Rattle.store_objects.proofs.Within.{within_paid}
use Rattle.file_calls.proofs.Calling.{HasMoved, Leads, alive_who_runs, holds_some, is_kept, kept_moved, leaves_others, mid_of, runs_moved, serves_moved}
use Rattle.file_calls.proofs.Kin.{pread_kin}
use Rattle.store_objects.proofs.Needed.{of_three, pages_for}
use Rattle.file_calls.proofs.BytesCached.{bytes_cached}
use Rattle.file_calls.proofs.reading.pread.Goals as goal

moved : (script : Script) (old : Objects) (heap : Heap) (fs : TreeView) (pid : ℕ) (fd addr n at as_addr as_n as_at : ℤ) (count : Result ℕ Errno) (said : Reply) → as_addr ≡ addr → as_n ≡ n → as_at ≡ at
    → said ≡ value_of count → heap ≡ record old.heap { nodes = heap.nodes; pages = heap.pages; blocks = heap.blocks; high = heap.high } → (world : World) × StandsFor script old world × IsSound world.plain
    → IsWellFormed old.heap → IsKept heap old.procs → argument_fault (call.Pread fd addr n at) ≡ None → StaysOffNodes old.heap old.procs pid fd old.tree fs
    → Leads script old heap fs pid (call.Pread fd as_addr as_n as_at) (λ plain. pread script plain pid fd as_addr as_n as_at) (value_of count)
    → HasMoved script old heap fs pid (call.Pread fd addr n at) fd (λ plain. pread script plain pid fd addr n at) said
moved script old heap fs pid fd addr n at as_addr as_n as_at count said same_addr same_n same_at tells beside world well is right stays leads = record {
  world = world;
  well = well;
  others = leaves_others old.heap heap (record old.heap { nodes = heap.nodes; pages = heap.pages; blocks = heap.blocks; high = heap.high }) beside refl refl refl refl refl;
  is = is;
  names = record { right = right; paths = refl; numbers = refl; leaves = λ plain pid. refl; walks = refl };
  stays = stays;
  leads = of_three (λ addr1 n1 at1. Leads script old heap fs pid (call.Pread fd addr1 n1 at1) (λ plain. pread script plain pid fd addr1 n1 at1) said)
      as_addr as_n as_at addr n at same_addr same_n same_at (subst (Leads script old heap fs pid (call.Pread fd as_addr as_n as_at) (λ plain. pread script plain pid fd as_addr as_n as_at)) (sym tells) leads);
}

pub pread_file-moved-requires-clause-kept : goal.pread_file-moved-requires-clause-kept
pread_file-moved-requires-clause-kept c = is_kept c.args.script.now c.args.objects.now c.requires.stands.1.kept

pub pread_file-moved-requires-clause-alive : goal.pread_file-moved-requires-clause-alive
pread_file-moved-requires-clause-alive c = alive_who_runs c.args.objects.now c.args.caller.now.place.pid c.args.caller.now.control c.requires.runs

pub pread_file-moved-requires-clause-hold : goal.pread_file-moved-requires-clause-hold
pread_file-moved-requires-clause-hold c = holds_some c.args.script.now c.args.objects.now c.requires.stands.0 c.requires.stands.1 c.requires.stands.2 c.heap_is_well_formed.ensures

pub pread_file-moved-requires-clause-left : goal.pread_file-moved-requires-clause-left
pread_file-moved-requires-clause-left c =
    pages_for c.args.purse.now.left.page c.args.addr c.args.n _ _ (call.Pread c.args.on.now.fd c.args.addr c.args.n c.args.at) (sym (to_z-of_z w64 c.args.addr c.ranges.addr)) (sym (to_z-of_z w64 c.args.n c.ranges.n))
    c.requires.right (ap (λ need. need.page) c.requires.needed) refl

pub go_on-requires-clause-kept : goal.go_on-requires-clause-kept
go_on-requires-clause-kept c =
    kept_moved c.args.script.now c.args.objects.now c.pread_file-moved.new.heap c.pread_file-moved.new.tree c.args.caller.now.place.pid (call.Pread c.args.on.now.fd c.args.addr c.args.n c.args.at) c.args.on.now.fd (λ plain. pread c.args.script.now plain c.args.caller.now.place.pid c.args.on.now.fd c.args.addr c.args.n c.args.at) c.value.result
    (moved c.args.script.now c.args.objects.now c.pread_file-moved.new.heap c.pread_file-moved.new.tree c.args.caller.now.place.pid c.args.on.now.fd c.args.addr c.args.n c.args.at _ _ _ c.pread_file-moved.result c.value.result
    (to_z-of_z w64 c.args.addr c.ranges.addr) (to_z-of_z w64 c.args.n c.ranges.n) (to_z-of_z w64 c.args.at c.ranges.at) c.value.ensures c.pread_file-moved.ensures.beside c.requires.stands
    c.heap_is_well_formed.ensures c.pread_file-moved.ensures.kept c.requires.right c.pread_file-moved.ensures.stays (c.pread_file-moved.ensures.leads c.args.script.now))

pub go_on-requires-clause-runs : goal.go_on-requires-clause-runs
go_on-requires-clause-runs c =
    runs_moved c.args.script.now c.args.objects.now c.pread_file-moved.new.heap c.pread_file-moved.new.tree c.args.caller.now.place.pid (call.Pread c.args.on.now.fd c.args.addr c.args.n c.args.at) c.args.on.now.fd (λ plain. pread c.args.script.now plain c.args.caller.now.place.pid c.args.on.now.fd c.args.addr c.args.n c.args.at) c.value.result
    (moved c.args.script.now c.args.objects.now c.pread_file-moved.new.heap c.pread_file-moved.new.tree c.args.caller.now.place.pid c.args.on.now.fd c.args.addr c.args.n c.args.at _ _ _ c.pread_file-moved.result c.value.result
    (to_z-of_z w64 c.args.addr c.ranges.addr) (to_z-of_z w64 c.args.n c.ranges.n) (to_z-of_z w64 c.args.at c.ranges.at) c.value.ensures c.pread_file-moved.ensures.beside c.requires.stands
    c.heap_is_well_formed.ensures c.pread_file-moved.ensures.kept c.requires.right c.pread_file-moved.ensures.stays (c.pread_file-moved.ensures.leads c.args.script.now))
    c.args.caller.now.control c.requires.runs

pub returns-clause-paid : goal.returns-clause-paid
returns-clause-paid c =
    IsPaid-trans c.args.objects.now.heap c.args.purse.now c.pread_file-moved.new.heap c.pread_file-moved.new.purse c.go_on.new.objects.heap c.pread_file-moved.new.purse c.pread_file-moved.ensures.paid
    (IsPaid-nothing c.pread_file-moved.new.heap c.go_on.new.objects.heap c.pread_file-moved.new.purse c.pread_file-moved.new.purse c.go_on.ensures.takes refl refl)

pub returns-clause-does : goal.returns-clause-does
returns-clause-does c =
    serves_moved c.args.script.now c.args.objects.now c.pread_file-moved.new.heap c.pread_file-moved.new.tree c.args.caller.now.place.pid (call.Pread c.args.on.now.fd c.args.addr c.args.n c.args.at) c.args.on.now.fd (λ plain. pread c.args.script.now plain c.args.caller.now.place.pid c.args.on.now.fd c.args.addr c.args.n c.args.at) c.value.result
    (moved c.args.script.now c.args.objects.now c.pread_file-moved.new.heap c.pread_file-moved.new.tree c.args.caller.now.place.pid c.args.on.now.fd c.args.addr c.args.n c.args.at _ _ _ c.pread_file-moved.result c.value.result
    (to_z-of_z w64 c.args.addr c.ranges.addr) (to_z-of_z w64 c.args.n c.ranges.n) (to_z-of_z w64 c.args.at c.ranges.at) c.value.ensures c.pread_file-moved.ensures.beside c.requires.stands
    c.heap_is_well_formed.ensures c.pread_file-moved.ensures.kept c.requires.right c.pread_file-moved.ensures.stays (c.pread_file-moved.ensures.leads c.args.script.now))
    c.go_on.result c.go_on.new.objects
    (within_paid c.args.objects.now (mid_of c.args.objects.now c.pread_file-moved.new.heap c.pread_file-moved.new.tree) c.args.purse.now c.pread_file-moved.new.purse (call.Pread c.args.on.now.fd c.args.addr c.args.n c.args.at) c.pread_file-moved.ensures.paid
    (ap (λ need. need.name) c.requires.needed) (ap (λ need. need.block) c.requires.needed) (ap (λ need. need.vnode) c.requires.needed) c.pread_file-moved.ensures.reads)
    c.go_on.ensures.told c.go_on.ensures.goes (λ plain. pread_kin c.args.script.now plain c.args.caller.now.place.pid c.args.on.now.fd c.args.addr c.args.n c.args.at) (λ plain. leaves_locks c.args.script.now plain c.args.caller.now.place.pid (call.Pread c.args.on.now.fd c.args.addr c.args.n c.args.at) refl)

pub returns-clause-cached : goal.returns-clause-cached
returns-clause-cached c =
    let m = c.pread_file-moved in
    bytes_cached c.args.objects.now c.go_on.new.objects m.new.tree c.args.caller.now.place.pid c.args.on.now.fd _ (λ (desc : Desc). count_of c.args.at) m.result c.value.result c.go_on.result
    (ap {B = Desc → ℕ} (λ (z : ℤ) (desc : Desc). count_of z) (to_z-of_z w64 c.args.at c.ranges.at)) c.value.ensures c.go_on.ensures.told c.go_on.ensures.tree m.ensures.saved m.ensures.last
