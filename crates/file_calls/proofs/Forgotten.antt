-- A process has nothing in memory any more.
use Rattle.std.proofs.Common.{◌≡◌, ℕ, ◌==◌, Bool, true, false, cond, List, [], ◌∷◌, map, length, None, Some, refl, ap, sym, ◌∙◌, subst}
use Rattle.std.specs.List.{AllByRecursion}
use Rattle.std.specs.Option.{option_map}
use Rattle.store_objects.proofs.LockedOn.{holds_on, stay_moved}
use Rattle.kabi_types.specs.declared.scripts.Control.{Control}
use Rattle.kabi_types.specs.declared.scripts.Script.{Script}
use Rattle.kheap_slabs.specs.declared.objects.Proc.{Proc}
use Rattle.kheap_slabs.specs.Heap.{Heap}
use Rattle.kheap_slabs.specs.Leaves.{HoldLeaves}
use Rattle.posix_defs.specs.Memory.{after_clear, no_memory}
use Rattle.posix_defs.specs.MemoryCalls.{remembered}
use Rattle.posix_defs.specs.World.{World, directories_of}
use Rattle.kern_laws.proofs.Remembering.{remembers_family}
use Rattle.proc_table.specs.Accounting.{HasAccount}
use Rattle.proc_table.specs.Changes.{cleared}
use Rattle.proc_table.specs.Moves.{TableMoves}
use Rattle.proc_numbers.specs.Having.{HaveDescriptors}
use Rattle.proc_table.specs.Opening.{HaveOpen as TableOpen}
use Rattle.proc_table.specs.Procs.{no_nodes, numbers_in, proc_of}
use Rattle.proc_table.proofs.LeafEnds.{hold_nodes}
use Rattle.proc_table.proofs.OpenLemmas.{have_nodes}
use Rattle.proc_table.specs.Standing.{IsTable, cleared_in}
use Rattle.proc_table.specs.Table.{TableView, processes}
use Rattle.store_objects.specs.declared.objects.Objects.{Objects}
use Rattle.store_objects.specs.Files.{HaveFiles}
use Rattle.store_objects.specs.Objects.{AreAtCalls, AreKept, IsAtCall, Runs, procs_of}
use Rattle.store_objects.specs.Standing.{StandsFor}
use Rattle.store_objects.proofs.GoingOn.{mapped_from, rising_in}
use Rattle.store_objects.proofs.Keeping.{kept_on, moved_caches}
use Rattle.store_objects.proofs.Namings.{names_in, names_nodes}
use Rattle.store_objects.proofs.Opening.{by_pids, by_procs, files_moved, leaves_on}
use Rattle.store_objects.proofs.TreesOn.{tree_goes_on, works_on}
use Rattle.store_objects.proofs.WorkingOn.{works_remembered}
use Rattle.file_calls.specs.Starting.{forgotten_in}

-- ---- the processes

-- what all have whatever their nodes, all have
all_cleared : (P : Proc → Type 0) (pid : ℕ) (procs : List Proc) → ((proc : Proc) → P proc → P (record proc { nodes = no_nodes })) → AllByRecursion P procs → AllByRecursion P (map (cleared pid) procs)
all_cleared P pid [] lasts all = tt
all_cleared P pid (proc ∷ procs) lasts all = (by_pid (proc.pid == pid), all_cleared P pid procs lasts all.1)
  where
    by_pid : (b : Bool) → P (cond b (record proc { nodes = no_nodes }) proc)
    by_pid true = lasts proc all.0
    by_pid false = all.0

pid_in : Proc → ℕ
pid_in proc = proc.pid

cleared_pid : (pid : ℕ) (proc : Proc) → pid_in (cleared pid proc) ≡ proc.pid
unfolding pid_in
cleared_pid pid proc = by_pid (proc.pid == pid)
  where
    by_pid : (b : Bool) → pid_in (cond b (record proc { nodes = no_nodes }) proc) ≡ proc.pid
    by_pid true = refl
    by_pid false = refl

found_cleared : (procs : List Proc) (pid q : ℕ) → proc_of (map (cleared pid) procs) q ≡ option_map (cleared pid) (proc_of procs q)
unfolding pid_in
found_cleared [] pid q = refl
found_cleared (proc ∷ procs) pid q =
    ap (λ n. cond (n == q) (Some (cleared pid proc)) (proc_of (map (cleared pid) procs) q)) (cleared_pid pid proc)
    ∙ by_first (proc.pid == q) (found_cleared procs pid q)
  where
    by_first : (b : Bool) → proc_of (map (cleared pid) procs) q ≡ option_map (cleared pid) (proc_of procs q)
        → cond b (Some (cleared pid proc)) (proc_of (map (cleared pid) procs) q) ≡ option_map (cleared pid) (cond b (Some proc) (proc_of procs q))
    by_first true rest = refl
    by_first false rest = rest

-- a process but for its nodes
pub record SameButNodes (old new : Proc) : Type 0 where
  pub status : new.status ≡ old.status
  pub control : new.control ≡ old.control

but_nodes : (pid : ℕ) (proc : Proc) → SameButNodes proc (cleared pid proc)
but_nodes pid proc = by_pid (proc.pid == pid)
  where
    by_pid : (b : Bool) → SameButNodes proc (cond b (record proc { nodes = no_nodes }) proc)
    by_pid true = record { status = refl; control = refl }
    by_pid false = record { status = refl; control = refl }

-- ---- the store

module _ (script : Script) (old new : Objects) (pid : ℕ) (same : new.procs ≡ old.procs) (tree : new.tree ≡ old.tree) (names : new.names ≡ old.names) (fifos : new.fifos ≡ old.fifos)
    (locks : new.locks ≡ old.locks) (are : procs_of new ≡ map (cleared pid) (procs_of old)) (moves : TableMoves old.heap old.procs new.heap new.procs) where
  pub kept_forgotten : AreKept script old → AreKept script new
  kept_forgotten kept =
      kept_on script old new kept tree names fifos locks moves
      (subst (HoldLeaves new.heap.leaves) (sym are) (subst (λ leaves. HoldLeaves leaves (map (cleared pid) (procs_of old))) (sym (ap (λ (h : Heap). h.leaves) moves.kept)) (hold_nodes old.heap pid no_nodes (procs_of old) kept.leaves)))
      (subst (AllByRecursion (λ proc. length proc.nodes ≡ 4)) (sym are) (all_cleared (λ proc. length proc.nodes ≡ 4) pid (procs_of old) (λ proc long. refl) kept.groups))
      (subst (AreAtCalls script) (sym are)
      (all_cleared (λ proc. proc.status ≡ None → IsAtCall script proc) pid (procs_of old)
      (λ proc at up. let here : IsAtCall script proc = at up in record { stands = here.stands; rests = here.rests }) kept.calls))
      (λ key. ap (names_in key) are ∙ names_nodes key pid no_nodes (procs_of old))

  pub runs_forgotten : (control : Control) → Runs old pid control → Runs new pid control
  runs_forgotten control runs =
      let beside = but_nodes pid runs.proc in
      record {
        proc = cleared pid runs.proc;
        found = ap (λ procs. proc_of procs pid) are ∙ found_cleared (procs_of old) pid pid ∙ ap (option_map (cleared pid)) runs.found;
        up = beside.status ∙ runs.up;
        at_call = beside.control ∙ runs.at_call;
      }

  -- by the table of the old
  are_still : processes new.heap old.procs ≡ map (cleared pid) (procs_of old)
  are_still = ap (processes new.heap) (sym same) ∙ are

  module _ (world : World) (stands : StandsFor script old world) (table : IsTable new.heap new.procs (cleared_in world.plain.table pid)) (memory : HasAccount new.heap new.procs (after_clear world.account.frames pid)) where
    works : directories_of (remembered world.plain pid no_memory).table ≡ directories_of world.plain.table
    works = works_remembered world.plain.table pid no_memory

    files : HaveFiles new world.plain.files (forgotten_in world pid).account
    files = files_moved old new world.plain.files world.plain.files world.account (forgotten_in world pid).account moves refl refl refl refl refl
        (λ number have.
        subst (λ (view : TableView). HaveDescriptors (numbers_in new.heap) number (processes new.heap view) view.last world.plain.files) (sym same)
        (by_pids new.heap number (processes new.heap old.procs) old.procs.last world.plain.files
        (subst (λ procs. TableOpen (numbers_in new.heap) procs old.procs.last number world.plain.files) (sym are_still)
        (leaves_on old.heap new.heap number (map (cleared pid) (procs_of old)) old.procs.last world.plain.files (ap (λ (h : Heap). h.leaves) moves.kept)
        (have_nodes old.heap pid no_nodes (procs_of old) old.procs.last number world.plain.files
        (by_procs old.heap number (procs_of old) old.procs.last world.plain.files (rising_in script old stands.kept) have))))))
        stands.files

    controls_kept : (q : ℕ) (it : Proc) → proc_of (procs_of new) q ≡ Some it → (was : Proc) × (proc_of (procs_of old) q ≡ Some was) × SameButNodes was it
    controls_kept q it found =
        let was = mapped_from (cleared pid) (proc_of (procs_of old) q) it (sym (found_cleared (procs_of old) pid q) ∙ ap (λ procs. proc_of procs q) (sym are) ∙ found) in
        (was.0, was.1, subst (SameButNodes was.0) (sym was.2) (but_nodes pid was.0))

    pub stands_forgotten : StandsFor script new (forgotten_in world pid)
    stands_forgotten = record {
      valid = stands.valid;
      kept = kept_forgotten stands.kept;
      processes = record {
        table = table;
        last = ap (λ (view : TableView). view.last) same ∙ stands.processes.last;
        controls = λ q it found up.
            let was = controls_kept q it found in
            stands.processes.controls q was.0 was.1 (sym was.2.status ∙ up) ∙ sym was.2.control;
      };
      memory = memory;
      files = files;
      locks = holds_on old new (stay_moved old new moves locks) world.plain.files.locks stands.locks;
      tree = tree_goes_on script old new world (forgotten_in world pid) stands refl works
          (record { tree = tree; names = names; caches = moved_caches old.heap new.heap old.procs new.procs moves }) refl refl refl;
      family = remembers_family world.plain.table pid no_memory stands.family;
      works = works_on world.plain (remembered world.plain pid no_memory) refl works stands.works;
    }
