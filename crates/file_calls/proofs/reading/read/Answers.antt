use Rattle.std.proofs.Common.{◌≡◌, ℕ, ℤ, None, Result, refl, ap, subst, sym, w64}
use Rattle.std.proofs.lemmas.Int.{to_z-of_z}
use Rattle.answer_laws.proofs.KeptLocks.{leaves_locks}
use Rattle.kabi_types.specs.Arguments.{argument_fault}
use Rattle.kabi_types.specs.declared.calls.Call.TheVariants as call
use Rattle.kabi_types.specs.declared.scripts.Script.{Script}
use Rattle.kabi_types.specs.declared.errnos.Errno.{Errno}
use Rattle.kabi_types.specs.declared.replies.Reply.{Reply}
use Rattle.kheap_laws.proofs.PaidLemmas.{IsPaid-nothing, IsPaid-trans}
use Rattle.kheap_slabs.specs.Heap.{Heap, IsWellFormed}
use Rattle.kheap_slabs.specs.declared.objects.Desc.{Desc}
use Rattle.memfs_ops.specs.FileTree.{TreeView}
use Rattle.posix_defs.specs.Calls.Reading.{read}
use Rattle.posix_defs.specs.World.{World}
use Rattle.proc_files.specs.Answering.{StaysOffNodes}
use Rattle.proc_numbers.specs.Answering.{value_of}
use Rattle.proc_numbers.specs.Standing.{IsKept}
use Rattle.store_objects.specs.declared.objects.Objects.{Objects}
use Rattle.store_objects.specs.Standing.{IsSound, StandsFor}
use Rattle.store_objects.proofs.Within.{within_paid}
use Rattle.file_calls.proofs.Calling.{HasMoved, Leads, alive_who_runs, holds_some, is_kept, kept_moved, leaves_others, mid_of, runs_moved, serves_moved}
use Rattle.file_calls.proofs.Kin.{read_kin}
use Rattle.store_objects.proofs.Needed.{of_two, pages_for}
use Rattle.file_calls.proofs.BytesCached.{bytes_cached}
use Rattle.file_calls.proofs.reading.read.Goals as goal

moved : (script : Script) (old : Objects) (heap : Heap) (fs : TreeView) (pid : ℕ) (fd addr n as_addr as_n : ℤ) (count : Result ℕ Errno) (said : Reply) → as_addr ≡ addr → as_n ≡ n
    → said ≡ value_of count → heap ≡ record old.heap { nodes = heap.nodes; pages = heap.pages; descs = heap.descs; blocks = heap.blocks; high = heap.high } → (world : World) × StandsFor script old world × IsSound world.plain
    → IsWellFormed old.heap → IsKept heap old.procs → argument_fault (call.Read fd addr n) ≡ None → StaysOffNodes old.heap old.procs pid fd old.tree fs
    → Leads script old heap fs pid (call.Read fd as_addr as_n) (λ plain. read script plain pid fd as_addr as_n) (value_of count)
    → HasMoved script old heap fs pid (call.Read fd addr n) fd (λ plain. read script plain pid fd addr n) said
moved script old heap fs pid fd addr n as_addr as_n count said same_addr same_n tells beside world well is right stays leads = record {
  world = world;
  well = well;
  others = leaves_others old.heap heap (record old.heap { nodes = heap.nodes; pages = heap.pages; descs = heap.descs; blocks = heap.blocks; high = heap.high }) beside refl refl refl refl refl;
  is = is;
  names = record { right = right; paths = refl; numbers = refl; leaves = λ plain pid. refl; walks = refl };
  stays = stays;
  leads = of_two (λ addr1 n1. Leads script old heap fs pid (call.Read fd addr1 n1) (λ plain. read script plain pid fd addr1 n1) said)
      as_addr as_n addr n same_addr same_n (subst (Leads script old heap fs pid (call.Read fd as_addr as_n) (λ plain. read script plain pid fd as_addr as_n)) (sym tells) leads);
}

pub read_file-moved-requires-clause-kept : goal.read_file-moved-requires-clause-kept
read_file-moved-requires-clause-kept c = is_kept c.args.script.now c.args.objects.now c.requires.stands.1.kept

pub read_file-moved-requires-clause-alive : goal.read_file-moved-requires-clause-alive
read_file-moved-requires-clause-alive c = alive_who_runs c.args.objects.now c.args.caller.now.place.pid c.args.caller.now.control c.requires.runs

pub read_file-moved-requires-clause-hold : goal.read_file-moved-requires-clause-hold
read_file-moved-requires-clause-hold c = holds_some c.args.script.now c.args.objects.now c.requires.stands.0 c.requires.stands.1 c.requires.stands.2 c.heap_is_well_formed.ensures

pub read_file-moved-requires-clause-left : goal.read_file-moved-requires-clause-left
read_file-moved-requires-clause-left c =
    pages_for c.args.purse.now.left.page c.args.addr c.args.n _ _ (call.Read c.args.on.now.fd c.args.addr c.args.n) (sym (to_z-of_z w64 c.args.addr c.ranges.addr)) (sym (to_z-of_z w64 c.args.n c.ranges.n))
    c.requires.right (ap (λ need. need.page) c.requires.needed) refl

pub go_on-requires-clause-kept : goal.go_on-requires-clause-kept
go_on-requires-clause-kept c =
    kept_moved c.args.script.now c.args.objects.now c.read_file-moved.new.heap c.read_file-moved.new.tree c.args.caller.now.place.pid (call.Read c.args.on.now.fd c.args.addr c.args.n) c.args.on.now.fd (λ plain. read c.args.script.now plain c.args.caller.now.place.pid c.args.on.now.fd c.args.addr c.args.n) c.value.result
    (moved c.args.script.now c.args.objects.now c.read_file-moved.new.heap c.read_file-moved.new.tree c.args.caller.now.place.pid c.args.on.now.fd c.args.addr c.args.n _ _ c.read_file-moved.result c.value.result
    (to_z-of_z w64 c.args.addr c.ranges.addr) (to_z-of_z w64 c.args.n c.ranges.n) c.value.ensures c.read_file-moved.ensures.beside c.requires.stands
    c.heap_is_well_formed.ensures c.read_file-moved.ensures.kept c.requires.right c.read_file-moved.ensures.stays (c.read_file-moved.ensures.leads c.args.script.now))

pub go_on-requires-clause-runs : goal.go_on-requires-clause-runs
go_on-requires-clause-runs c =
    runs_moved c.args.script.now c.args.objects.now c.read_file-moved.new.heap c.read_file-moved.new.tree c.args.caller.now.place.pid (call.Read c.args.on.now.fd c.args.addr c.args.n) c.args.on.now.fd (λ plain. read c.args.script.now plain c.args.caller.now.place.pid c.args.on.now.fd c.args.addr c.args.n) c.value.result
    (moved c.args.script.now c.args.objects.now c.read_file-moved.new.heap c.read_file-moved.new.tree c.args.caller.now.place.pid c.args.on.now.fd c.args.addr c.args.n _ _ c.read_file-moved.result c.value.result
    (to_z-of_z w64 c.args.addr c.ranges.addr) (to_z-of_z w64 c.args.n c.ranges.n) c.value.ensures c.read_file-moved.ensures.beside c.requires.stands
    c.heap_is_well_formed.ensures c.read_file-moved.ensures.kept c.requires.right c.read_file-moved.ensures.stays (c.read_file-moved.ensures.leads c.args.script.now))
    c.args.caller.now.control c.requires.runs

pub returns-clause-paid : goal.returns-clause-paid
returns-clause-paid c =
    IsPaid-trans c.args.objects.now.heap c.args.purse.now c.read_file-moved.new.heap c.read_file-moved.new.purse c.go_on.new.objects.heap c.read_file-moved.new.purse c.read_file-moved.ensures.paid
    (IsPaid-nothing c.read_file-moved.new.heap c.go_on.new.objects.heap c.read_file-moved.new.purse c.read_file-moved.new.purse c.go_on.ensures.takes refl refl)

pub returns-clause-does : goal.returns-clause-does
returns-clause-does c =
    serves_moved c.args.script.now c.args.objects.now c.read_file-moved.new.heap c.read_file-moved.new.tree c.args.caller.now.place.pid (call.Read c.args.on.now.fd c.args.addr c.args.n) c.args.on.now.fd (λ plain. read c.args.script.now plain c.args.caller.now.place.pid c.args.on.now.fd c.args.addr c.args.n) c.value.result
    (moved c.args.script.now c.args.objects.now c.read_file-moved.new.heap c.read_file-moved.new.tree c.args.caller.now.place.pid c.args.on.now.fd c.args.addr c.args.n _ _ c.read_file-moved.result c.value.result
    (to_z-of_z w64 c.args.addr c.ranges.addr) (to_z-of_z w64 c.args.n c.ranges.n) c.value.ensures c.read_file-moved.ensures.beside c.requires.stands
    c.heap_is_well_formed.ensures c.read_file-moved.ensures.kept c.requires.right c.read_file-moved.ensures.stays (c.read_file-moved.ensures.leads c.args.script.now))
    c.go_on.result c.go_on.new.objects
    (within_paid c.args.objects.now (mid_of c.args.objects.now c.read_file-moved.new.heap c.read_file-moved.new.tree) c.args.purse.now c.read_file-moved.new.purse (call.Read c.args.on.now.fd c.args.addr c.args.n) c.read_file-moved.ensures.paid
    (ap (λ need. need.name) c.requires.needed) (ap (λ need. need.block) c.requires.needed) (ap (λ need. need.vnode) c.requires.needed) c.read_file-moved.ensures.reads)
    c.go_on.ensures.told c.go_on.ensures.goes (λ plain. read_kin c.args.script.now plain c.args.caller.now.place.pid c.args.on.now.fd c.args.addr c.args.n) (λ plain. leaves_locks c.args.script.now plain c.args.caller.now.place.pid (call.Read c.args.on.now.fd c.args.addr c.args.n) refl)

pub returns-clause-cached : goal.returns-clause-cached
returns-clause-cached c =
    let m = c.read_file-moved in
    bytes_cached c.args.objects.now c.go_on.new.objects m.new.tree c.args.caller.now.place.pid c.args.on.now.fd _ (λ (desc : Desc). desc.offset) m.result c.value.result c.go_on.result
    refl c.value.ensures c.go_on.ensures.told c.go_on.ensures.tree m.ensures.saved m.ensures.last
