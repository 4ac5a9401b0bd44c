-- A store goes on where only what is open has changed, and what a process has in memory.
use Rattle.std.proofs.Common.{◌≡◌, ℕ, ◌<◌, List, length, Option, None, Some, ap, sym, ◌∙◌, subst}
use Rattle.std.specs.List.{AllByRecursion}
use Rattle.std.specs.Option.{option_map}
use Rattle.std.specs.Prelude.{unwrap_or}
use Rattle.kabi_types.specs.declared.scripts.Control.{Control}
use Rattle.kabi_types.specs.declared.scripts.Script.{Script}
use Rattle.kheap_slabs.specs.declared.objects.Proc.{Proc}
use Rattle.lock_table.specs.Chain.{HoldsLocks}
use Rattle.posix_defs.specs.ByPid.{at_pid}
use Rattle.posix_defs.specs.Control.{settled}
use Rattle.posix_defs.specs.Plain.{Plain, at_start}
use Rattle.posix_defs.specs.World.{World}
use Rattle.proc_files.specs.Names.{AreBound, name_of}
use Rattle.proc_files.proofs.Bindings.{bound_on}
use Rattle.proc_table.specs.Procs.{IsAlive, proc_of}
use Rattle.proc_table.specs.Standing.{IsTable}
use Rattle.proc_table.specs.Table.{Holds}
use Rattle.proc_table.proofs.OwnLemmas.{has_it, rising_procs}
use Rattle.store_objects.proofs.LockedOn.{holds_on, locked_on}
use Rattle.store_objects.specs.declared.objects.Objects.{Objects}
use Rattle.store_objects.specs.Objects.{AreAtCalls, AreKept, IsAtCall, Runs, most_nodes, procs_of}
use Rattle.store_objects.specs.Standing.{AreProcesses, StandsFor}
use Rattle.store_objects.proofs.GoingOn.{mapped_from}
use Rattle.store_objects.proofs.RunningProcs.{all_found}
use Rattle.store_objects.proofs.TreesOn.{tree_goes_on, tree_kept, works_on}
use Rattle.store_objects.specs.OpenMoves.{OpenMoves, ProcsStay, opening}
use Rattle.store_objects.specs.OpenWorlds.{HasReached}

-- ---- processes that stay but for their descriptors

-- who is there was there, with other descriptors maybe
pub was_there : (old new : Objects) (pid : ℕ) (proc : Proc) → (stay : ProcsStay old new) → proc_of (procs_of new) pid ≡ Some proc
    → (was : Proc) × (proc_of (procs_of old) pid ≡ Some was) × (proc ≡ opening proc was)
was_there old new pid proc stay is =
    let one = stay.each pid in
    let it = mapped_from (opening one.0) (proc_of (procs_of old) pid) proc (sym one.1 ∙ is) in
    (it.0, it.1, it.2 ∙ ap (λ (p : Proc). opening p it.0) (sym it.2))

-- what all had whatever their descriptors, all have
pub all_stay : (P : Proc → Type 0) (old new : Objects) → ProcsStay old new → Holds new.heap new.procs → AllByRecursion P (procs_of old)
    → ((proc now : Proc) → P proc → P (opening now proc)) → AllByRecursion P (procs_of new)
all_stay P old new stay holds all lasts =
    all_found P (procs_of new) 0 (rising_procs new.heap.procs new.procs.listed 0 new.procs.last holds.stored holds.rising)
    (λ pid proc above is.
    let it = was_there old new pid proc stay is in
    subst P (sym it.2) (lasts it.0 proc (has_it P (procs_of old) pid it.0 all it.1)))

-- each has four groups of pages
pub groups_stay : (old new : Objects) → ProcsStay old new → Holds new.heap new.procs → AllByRecursion (λ proc. length proc.nodes ≡ 4) (procs_of old)
    → AllByRecursion (λ proc. length proc.nodes ≡ 4) (procs_of new)
groups_stay old new stay holds groups = all_stay (λ proc. length proc.nodes ≡ 4) old new stay holds groups (λ proc now four. four)

-- and stands at its call
pub calls_stay : (script : Script) (old new : Objects) → ProcsStay old new → Holds new.heap new.procs → AreAtCalls script (procs_of old) → AreAtCalls script (procs_of new)
calls_stay script old new stay holds calls =
    all_stay (λ proc. proc.status ≡ None → IsAtCall script proc) old new stay holds calls
    (λ proc now at up. let here : IsAtCall script proc = at up in record { stands = here.stands; rests = here.rests })

-- who ran runs, where he stood
pub runs_stay : (old new : Objects) (pid : ℕ) (control : Control) → ProcsStay old new → Runs old pid control → Runs new pid control
runs_stay old new pid control stay runs =
    let one = stay.each pid in
    record {
      proc = opening one.0 runs.proc;
      found = one.1 ∙ ap (option_map (opening one.0)) runs.found;
      up = runs.up;
      at_call = runs.at_call;
    }

-- they are the machine's, with whose table they go on, where the machine's controls stay
pub processes_stay : (script : Script) (old new : Objects) (plain next : Plain) → ProcsStay old new → AreProcesses script old plain → IsTable new.heap new.procs next.table
    → next.controls ≡ plain.controls → AreProcesses script new next
processes_stay script old new plain next stay are table same = record {
  table = table;
  last = ap (λ k. k.last) stay.same ∙ are.last ∙ ap length (sym same);
  controls = λ pid proc is up.
      let it = was_there old new pid proc stay is in
      ap (λ (all : List Control). settled script (unwrap_or (at_pid all pid) (at_start 0))) same
      ∙ are.controls pid it.0 it.1 (sym (ap (λ (p : Proc). p.status) it.2) ∙ up) ∙ sym (ap (λ (p : Proc). p.control) it.2);
}

-- ---- a store of which only what is open has changed

-- The objects are kept.
pub kept_opened : (script : Script) (old new : Objects) → AreKept script old → OpenMoves old new → AreKept script new
kept_opened script old new kept moves = record {
  holds = moves.holds;
  all = moves.all;
  leaves = moves.leaves;
  owners = moves.owners;
  groups = groups_stay old new moves.procs moves.holds kept.groups;
  calls = calls_stay script old new moves.procs moves.holds kept.calls;
  bound = subst (AreBound (name_of new.heap.socks)) (sym moves.tree.names) (bound_on (name_of old.heap.socks) (name_of new.heap.socks) old.names kept.bound moves.names);
  places = subst (λ (names : List (Option ℕ)). most_nodes < length names) (sym moves.tree.names) kept.places;
  chain = moves.chain;
  locked = locked_on old new moves.locks kept.locked;
  caches = tree_kept old new moves.tree kept.caches;
  size = moves.tree.caches.size ∙ kept.size;
}

-- who ran runs, where he stood
pub runs_opened : (old new : Objects) (pid : ℕ) (control : Control) → OpenMoves old new → Runs old pid control → Runs new pid control
runs_opened old new pid control moves runs = runs_stay old new pid control moves.procs runs

pub alive_opened : (old new : Objects) (pid : ℕ) → OpenMoves old new → IsAlive (procs_of old) pid → IsAlive (procs_of new) pid
alive_opened old new pid moves alive =
    let one = moves.procs.each pid in
    record { proc = opening one.0 alive.proc; there = one.1 ∙ ap (option_map (opening one.0)) alive.there; runs = alive.runs }

-- The objects stand for a world of which they have what has changed.
pub stands_opened : (script : Script) (old new : Objects) (world next : World) → StandsFor script old world → OpenMoves old new → HasReached new world next
    → next.plain.files.locks ≡ world.plain.files.locks → StandsFor script new next
stands_opened script old new world next stands moves reached same = record {
  valid = stands.valid;
  kept = kept_opened script old new stands.kept moves;
  processes = processes_stay script old new world.plain next.plain moves.procs stands.processes reached.table reached.controls;
  memory = reached.memory;
  files = reached.files;
  locks = subst (HoldsLocks new.heap.locks new.locks) (sym same) (holds_on old new moves.locks world.plain.files.locks stands.locks);
  tree = tree_goes_on script old new world next stands reached.opens reached.works moves.tree reached.tree reached.kept reached.reads;
  family = reached.family;
  works = works_on world.plain next.plain reached.tree reached.works stands.works;
}
