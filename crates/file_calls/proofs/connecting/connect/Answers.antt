use Rattle.std.proofs.Common.{◌≡◌, ℕ, ℤ, List, [], Option, Result, length, refl, ap, subst, sym}
use Rattle.answer_laws.proofs.KeptLocks.{leaves_locks}
use Rattle.kabi_types.specs.declared.calls.Call.TheVariants as call
use Rattle.kabi_types.specs.declared.scripts.Script.{Script}
use Rattle.kabi_types.specs.declared.errnos.Errno.{Errno}
use Rattle.kabi_types.specs.declared.replies.Reply.{Reply}
use Rattle.kheap_laws.proofs.PaidLemmas.{IsPaid-nothing, IsPaid-trans}
use Rattle.kheap_slabs.specs.Heap.{Heap, IsWellFormed}
use Rattle.store_objects.specs.FileWorlds.{LeavesCached}
use Rattle.memfs_ops.specs.FileTree.{TreeView}
use Rattle.open_laws.specs.Owned.{HasItsOwners}
use Rattle.posix_defs.specs.Calls.OnSockets.{connect}
use Rattle.posix_defs.specs.Plain.{with_files}
use Rattle.posix_defs.specs.World.{World}
use Rattle.proc_numbers.specs.Having.{AreListed}
use Rattle.proc_numbers.specs.Queues.{QueuesStand}
use Rattle.proc_files.specs.NameAnswering.{NamesChange}
use Rattle.proc_numbers.specs.Answering.{zero_of}
use Rattle.store_objects.specs.declared.objects.Objects.{Objects}
use Rattle.store_objects.specs.Standing.{IsSound, StandsFor}
use Rattle.store_objects.proofs.StoreFiles.{works_in_some}
use Rattle.store_objects.proofs.Keeping.{listed_in}
use Rattle.store_objects.proofs.Replying.{no_frames}
use Rattle.file_calls.proofs.CallingNames.{AnswersSo, HasNamed, alive_who_runs, connect_cached, kept_named, left_sock, mid_of, runs_named, serves_named}
use Rattle.file_calls.proofs.connecting.connect.Goals as goal

named : (script : Script) (old : Objects) (heap : Heap) (fs : TreeView) (names : List (Option ℕ)) (pid : ℕ) (fd : ℤ) (path : List ℕ) (is : Result (Unit {0}) Errno) (said : Reply) → said ≡ zero_of is
    → (world : World) × StandsFor script old world × IsSound world.plain → IsWellFormed old.heap → NamesChange old.heap heap → AreListed heap old.procs → HasItsOwners heap [] → QueuesStand old.heap heap
    → length names ≡ length old.names → AnswersSo old heap fs names script pid (λ plain. connect script plain pid fd path) (zero_of is)
    → HasNamed script old heap fs names pid (λ plain. connect script plain pid fd path) said
named script old heap fs names pid fd path is said tells world well changes listed owners queues places answers = record {
  world = world;
  well = well;
  changes = changes;
  listed = listed;
  owners = owners;
  queues = queues;
  places = places;
  answers = subst (AnswersSo old heap fs names script pid (λ plain. connect script plain pid fd path)) (sym tells) answers;
}

pub connect_number-done-requires-clause-listed : goal.connect_number-done-requires-clause-listed
connect_number-done-requires-clause-listed c =
    listed_in c.args.script.now c.args.objects.now c.requires.stands.1.kept

pub connect_number-done-requires-clause-owners : goal.connect_number-done-requires-clause-owners
connect_number-done-requires-clause-owners c =
    c.requires.stands.1.kept.owners

pub connect_number-done-requires-clause-hold : goal.connect_number-done-requires-clause-hold
connect_number-done-requires-clause-hold c =
    works_in_some c.args.script.now c.args.objects.now c.requires.stands.0 c.requires.stands.1 c.heap_is_well_formed.ensures c.requires.stands.2 c.args.caller.now.place.pid
    (alive_who_runs c.args.objects.now c.args.caller.now.place.pid c.args.caller.now.control c.requires.runs)

pub connect_number-done-requires-clause-path : goal.connect_number-done-requires-clause-path
connect_number-done-requires-clause-path c =
    c.requires.right

pub connect_number-done-requires-clause-left : goal.connect_number-done-requires-clause-left
connect_number-done-requires-clause-left c =
    left_sock c.args.purse.now.left.sock (call.Connect c.args.on.now.fd c.args.path.now) c.requires.right (ap (λ need. need.sock) c.requires.needed) refl

pub go_on-requires-clause-kept : goal.go_on-requires-clause-kept
go_on-requires-clause-kept c =
    kept_named c.args.script.now c.args.objects.now c.connect_number-done.new.heap c.connect_number-done.new.tree c.args.objects.now.names c.args.caller.now.place.pid (λ plain. connect c.args.script.now plain c.args.caller.now.place.pid c.args.on.now.fd c.args.path.now) c.zero.result
    (named c.args.script.now c.args.objects.now c.connect_number-done.new.heap c.connect_number-done.new.tree c.args.objects.now.names c.args.caller.now.place.pid c.args.on.now.fd c.args.path.now c.connect_number-done.result c.zero.result c.zero.ensures c.requires.stands
    c.heap_is_well_formed.ensures c.connect_number-done.ensures.changes c.connect_number-done.ensures.listed c.connect_number-done.ensures.owners c.connect_number-done.ensures.queues refl
    (λ n o plain hold works. c.connect_number-done.ensures.answers n o c.args.script.now plain hold works))

pub go_on-requires-clause-runs : goal.go_on-requires-clause-runs
go_on-requires-clause-runs c =
    runs_named c.args.script.now c.args.objects.now c.connect_number-done.new.heap c.connect_number-done.new.tree c.args.objects.now.names c.args.caller.now.place.pid (λ plain. connect c.args.script.now plain c.args.caller.now.place.pid c.args.on.now.fd c.args.path.now) c.zero.result
    (named c.args.script.now c.args.objects.now c.connect_number-done.new.heap c.connect_number-done.new.tree c.args.objects.now.names c.args.caller.now.place.pid c.args.on.now.fd c.args.path.now c.connect_number-done.result c.zero.result c.zero.ensures c.requires.stands
    c.heap_is_well_formed.ensures c.connect_number-done.ensures.changes c.connect_number-done.ensures.listed c.connect_number-done.ensures.owners c.connect_number-done.ensures.queues refl
    (λ n o plain hold works. c.connect_number-done.ensures.answers n o c.args.script.now plain hold works))
    c.args.caller.now.control c.requires.runs

pub returns-clause-paid : goal.returns-clause-paid
returns-clause-paid c =
    IsPaid-trans c.args.objects.now.heap c.args.purse.now c.connect_number-done.new.heap c.connect_number-done.new.purse c.go_on.new.objects.heap c.connect_number-done.new.purse c.connect_number-done.ensures.paid
    (IsPaid-nothing c.connect_number-done.new.heap c.go_on.new.objects.heap c.connect_number-done.new.purse c.connect_number-done.new.purse c.go_on.ensures.takes refl refl)

pub returns-clause-does : goal.returns-clause-does
returns-clause-does c =
    serves_named c.args.script.now c.args.objects.now c.connect_number-done.new.heap c.connect_number-done.new.tree c.args.objects.now.names c.args.caller.now.place.pid (λ plain. connect c.args.script.now plain c.args.caller.now.place.pid c.args.on.now.fd c.args.path.now) c.zero.result
    (named c.args.script.now c.args.objects.now c.connect_number-done.new.heap c.connect_number-done.new.tree c.args.objects.now.names c.args.caller.now.place.pid c.args.on.now.fd c.args.path.now c.connect_number-done.result c.zero.result c.zero.ensures c.requires.stands
    c.heap_is_well_formed.ensures c.connect_number-done.ensures.changes c.connect_number-done.ensures.listed c.connect_number-done.ensures.owners c.connect_number-done.ensures.queues refl
    (λ n o plain hold works. c.connect_number-done.ensures.answers n o c.args.script.now plain hold works))
    (call.Connect c.args.on.now.fd c.args.path.now) c.args.purse.now c.connect_number-done.new.purse c.go_on.result c.go_on.new.objects c.connect_number-done.ensures.paid c.requires.needed c.connect_number-done.ensures.reads c.go_on.ensures.told c.go_on.ensures.goes
    (no_frames (call.Connect c.args.on.now.fd c.args.path.now) (λ frames pid value. refl) c.args.caller.now.place.pid c.zero.result)
    (λ world stands files then.
    let m = c.connect_number-done in
    subst (λ said. LeavesCached c.args.objects.now (mid_of c.args.objects.now m.new.heap m.new.tree c.args.objects.now.names) world c.args.caller.now.place.pid (call.Connect c.args.on.now.fd c.args.path.now) said (with_files world.plain files)) (sym c.zero.ensures)
    (connect_cached c.args.script.now c.args.objects.now (mid_of c.args.objects.now m.new.heap m.new.tree c.args.objects.now.names) c.args.caller.now.place.pid c.args.caller.now.control c.requires.runs c.args.on.now.fd c.args.path.now c.args.purse.now m.result
    c.requires.right m.ensures.bytes m.ensures.saved m.ensures.kept m.ensures.found world stands files then))
    (λ plain. leaves_locks c.args.script.now plain c.args.caller.now.place.pid (call.Connect c.args.on.now.fd c.args.path.now) refl)
