-- A process's space was in hand and is back.
use Rattle.std.proofs.Common.{◌≡◌, ℕ, ◌==◌, Bool, true, false, cond, List, [], ◌∷◌, map, length, Option, None, Some, refl, ap, sym, ◌∙◌, subst}
use Rattle.std.specs.List.{AllByRecursion}
use Rattle.std.specs.Option.{option_map}
use Rattle.kabi_types.specs.declared.scripts.Control.{Control}
use Rattle.kabi_types.specs.declared.scripts.Script.{Script}
use Rattle.kheap_slabs.specs.declared.objects.Proc.{Proc}
use Rattle.kheap_slabs.specs.Heap.{Heap}
use Rattle.page_space.specs.Accounts.{AccountMoves}
use Rattle.page_space.specs.Contents.{StandsFor as IsMemory}
use Rattle.posix_defs.specs.Memory.{Frames, Memory}
use Rattle.posix_defs.specs.MemoryCalls.{remembered}
use Rattle.posix_defs.specs.Plain.{Plain}
use Rattle.posix_defs.specs.Process.{memory_in, memory_of}
use Rattle.posix_defs.specs.World.{World, directories_of}
use Rattle.kern_laws.proofs.Remembering.{remembers_family}
use Rattle.proc_table.specs.Accounting.{HasAccount}
use Rattle.proc_table.specs.Changes.{with_nodes}
use Rattle.proc_table.specs.Moves.{SpaceTurns, TableMoves}
use Rattle.proc_numbers.specs.Having.{HaveDescriptors}
use Rattle.proc_table.specs.Opening.{HaveOpen as TableOpen}
use Rattle.proc_table.specs.Procs.{memory_at, numbers_in, proc_of, process_of}
use Rattle.kheap_slabs.specs.Leaves.{HoldLeaves}
use Rattle.proc_table.proofs.LeafEnds.{hold_nodes}
use Rattle.proc_table.proofs.OpenLemmas.{have_nodes}
use Rattle.proc_table.specs.Standing.{IsTable}
use Rattle.proc_table.specs.Table.{Holds, TableView, processes}
use Rattle.proc_table.proofs.FamilyLemmas.{process_is}
use Rattle.proc_table.proofs.LawLemmas.{back-account, back-moves, back-procs, back-table}
use Rattle.store_objects.proofs.LockedOn.{holds_on, stay_moved}
use Rattle.store_objects.specs.declared.objects.Objects.{Objects}
use Rattle.store_objects.specs.Objects.{AreAtCalls, AreKept, IsAtCall, Runs, procs_of}
use Rattle.store_objects.specs.Standing.{AreProcesses, StandsFor, remembered_in}
use Rattle.store_objects.proofs.Namings.{names_in, names_nodes}
use Rattle.store_objects.proofs.Opening.{by_pids, by_procs, files_moved, leaves_on}
use Rattle.store_objects.proofs.GoingOn.{rising_in, some_same}
use Rattle.store_objects.proofs.Keeping.{kept_on, moved_caches}
use Rattle.store_objects.proofs.TreesOn.{tree_goes_on, works_on}
use Rattle.store_objects.proofs.WorkingOn.{works_remembered}
use Rattle.store_objects.specs.Files.{HaveFiles}

all_with_nodes : (P : Proc → Type 0) (pid : ℕ) (now : List (Option ℕ)) (procs : List Proc) → ((p : Proc) → P p → P (record p { nodes = now })) → AllByRecursion P procs
    → AllByRecursion P (map (with_nodes pid now) procs)
all_with_nodes P pid now [] keeps all = tt
all_with_nodes P pid now (proc ∷ procs) keeps all = (go (proc.pid == pid), all_with_nodes P pid now procs keeps all.1)
  where
    go : (b : Bool) → P (cond b (record proc { nodes = now }) proc)
    go true = keeps proc all.0
    go false = all.0

pid_in : Proc → ℕ
pid_in proc = proc.pid

same_pid : (pid : ℕ) (now : List (Option ℕ)) (proc : Proc) → pid_in (with_nodes pid now proc) ≡ proc.pid
unfolding pid_in
same_pid pid now proc = go (proc.pid == pid)
  where
    go : (b : Bool) → pid_in (cond b (record proc { nodes = now }) proc) ≡ proc.pid
    go true = refl
    go false = refl

found_with : (procs : List Proc) (pid : ℕ) (now : List (Option ℕ)) (q : ℕ) → proc_of (map (with_nodes pid now) procs) q ≡ option_map (with_nodes pid now) (proc_of procs q)
unfolding pid_in
found_with [] pid now q = refl
found_with (proc ∷ procs) pid now q =
    ap (λ n. cond (n == q) (Some (with_nodes pid now proc)) (proc_of (map (with_nodes pid now) procs) q)) (same_pid pid now proc)
    ∙ go (proc.pid == q) (found_with procs pid now q)
  where
    go : (b : Bool) → proc_of (map (with_nodes pid now) procs) q ≡ option_map (with_nodes pid now) (proc_of procs q)
        → cond b (Some (with_nodes pid now proc)) (proc_of (map (with_nodes pid now) procs) q) ≡ option_map (with_nodes pid now) (cond b (Some proc) (proc_of procs q))
    go true rest = refl
    go false rest = rest

-- a process but for its nodes
record SameButNodes (old new : Proc) : Type 0 where
  pub status : new.status ≡ old.status
  pub control : new.control ≡ old.control

but_nodes : (pid : ℕ) (now : List (Option ℕ)) (proc : Proc) → SameButNodes proc (with_nodes pid now proc)
but_nodes pid now proc = go (proc.pid == pid)
  where
    go : (b : Bool) → SameButNodes proc (cond b (record proc { nodes = now }) proc)
    go true = record { status = refl; control = refl }
    go false = record { status = refl; control = refl }

was : (pid : ℕ) (now : List (Option ℕ)) (o : Option Proc) (it : Proc) → option_map (with_nodes pid now) o ≡ Some it → (old : Proc) × (o ≡ Some old) × SameButNodes old it
was pid now None it e = cc
was pid now (Some old) it e =
    (old, refl, subst (SameButNodes old) (some_same (Some (with_nodes pid now old)) (with_nodes pid now old) it refl e) (but_nodes pid now old))

procs_back : (script : Script) (old new : Objects) (mid : Heap) (pid key : ℕ) (proc : Proc) (now : List (Option ℕ)) → Holds old.heap old.procs
    → SpaceTurns old.heap mid new.heap old.procs pid key proc now → new.procs ≡ old.procs → procs_of new ≡ map (with_nodes pid now) (procs_of old)
procs_back script old new mid pid key proc now holds turns same =
    ap (processes new.heap) same ∙ back-procs old.heap mid new.heap old.procs pid key proc now holds turns

-- the objects are kept
pub kept_back : (script : Script) (old new : Objects) (mid : Heap) (pid key : ℕ) (proc : Proc) (now : List (Option ℕ)) → AreKept script old
    → SpaceTurns old.heap mid new.heap old.procs pid key proc now → new.procs ≡ old.procs → new.tree ≡ old.tree → new.names ≡ old.names → new.fifos ≡ old.fifos → new.locks ≡ old.locks → length now ≡ 4 → AreKept script new
kept_back script old new mid pid key proc now kept turns same tree names fifos locks four =
    let procs = procs_back script old new mid pid key proc now kept.holds turns same in
    let moves = back-moves old.heap mid new.heap old.procs pid key proc now kept.holds turns in
    kept_on script old new kept tree names fifos locks
    (subst (TableMoves old.heap old.procs new.heap) (sym same) moves)
    (subst (HoldLeaves new.heap.leaves) (sym procs) (subst (λ leaves. HoldLeaves leaves (map (with_nodes pid now) (procs_of old))) (sym (ap (λ (h : Heap). h.leaves) moves.kept)) (hold_nodes old.heap pid now (procs_of old) kept.leaves)))
    (subst (AllByRecursion (λ p. length p.nodes ≡ 4)) (sym procs) (all_with_nodes (λ p. length p.nodes ≡ 4) pid now (procs_of old) (λ p long. four) kept.groups))
    (subst (AreAtCalls script) (sym procs)
    (all_with_nodes (λ p. p.status ≡ None → IsAtCall script p) pid now (procs_of old) (λ p at up. let here = at up in record { stands = here.stands; rests = here.rests }) kept.calls))
    (λ key. ap (names_in key) procs ∙ names_nodes key pid now (procs_of old))

-- who ran runs
pub runs_back : (script : Script) (old new : Objects) (mid : Heap) (pid key : ℕ) (proc : Proc) (now : List (Option ℕ)) → AreKept script old
    → SpaceTurns old.heap mid new.heap old.procs pid key proc now → new.procs ≡ old.procs → (control : Control) → Runs old pid control → Runs new pid control
runs_back script old new mid pid key proc now kept turns same control runs =
    let beside = but_nodes pid now runs.proc in
    record {
      proc = with_nodes pid now runs.proc;
      found = ap (λ ps. proc_of ps pid) (procs_back script old new mid pid key proc now kept.holds turns same) ∙ found_with (procs_of old) pid now pid ∙ ap (option_map (with_nodes pid now)) runs.found;
      up = beside.status ∙ runs.up;
      at_call = beside.control ∙ runs.at_call;
    }

-- what a process has in memory
pub memory_here : (script : Script) (objects : Objects) (plain : Plain) (pid : ℕ) (proc : Proc) → AreProcesses script objects plain
    → proc_of (procs_of objects) pid ≡ Some proc → memory_of plain.table pid ≡ memory_at objects.heap proc.nodes
memory_here script objects plain pid proc are found =
    ap memory_in (process_is objects.heap plain.table (procs_of objects) pid are.table.present ∙ ap (option_map (process_of objects.heap)) found)

-- The objects stand for the world with another memory.
pub stand_back : (script : Script) (old new : Objects) (mid : Heap) (pid key : ℕ) (proc : Proc) (now : List (Option ℕ)) (world : World) (after : Frames) (memory : Memory)
    → (stands : StandsFor script old world) → SpaceTurns old.heap mid new.heap old.procs pid key proc now → new.procs ≡ old.procs → new.tree ≡ old.tree → new.names ≡ old.names → new.fifos ≡ old.fifos → new.locks ≡ old.locks → length now ≡ 4
    → IsMemory mid now memory → length memory ≡ 256 → AccountMoves old.heap mid proc.nodes now stands.memory.number world.account.frames after pid
    → StandsFor script new (remembered_in world pid memory after)
stand_back script old new mid pid key proc now world after memory stands turns same tree names fifos locks four is whole moved = record {
  valid = stands.valid;
  kept = kept;
  processes = record {
    table = subst (λ k. IsTable new.heap k (remembered world.plain pid memory).table) (sym same)
        (back-table old.heap mid new.heap old.procs pid key proc now stands.kept.holds turns world.plain.table memory is whole stands.processes.table);
    last = ap (λ k. k.last) same ∙ stands.processes.last;
    controls = λ q it found up.
        let old_one = was pid now (proc_of (procs_of old) q) it
        (sym (found_with (procs_of old) pid now q) ∙ ap (λ ps. proc_of ps q) (sym (procs_back script old new mid pid key proc now stands.kept.holds turns same)) ∙ found) in
        stands.processes.controls q old_one.0 old_one.1 (sym old_one.2.status ∙ up) ∙ sym old_one.2.control;
  };
  memory = subst (λ k. HasAccount new.heap k after) (sym same)
      (back-account old.heap mid new.heap old.procs pid key proc now stands.kept.holds turns world.account.frames after stands.memory moved);
  files = files;
  locks = holds_on old new (stay_moved old new moves locks) world.plain.files.locks stands.locks;
  tree = tree_goes_on script old new world (remembered_in world pid memory after) stands refl works
      (record { tree = tree; names = names; caches = moved_caches old.heap new.heap old.procs new.procs moves }) refl refl refl;
  family = remembers_family world.plain.table pid memory stands.family;
  works = works_on world.plain (remembered world.plain pid memory) refl works stands.works;
}
  where
    kept : AreKept script new
    kept = kept_back script old new mid pid key proc now stands.kept turns same tree names fifos locks four

    moves : TableMoves old.heap old.procs new.heap new.procs
    moves = subst (TableMoves old.heap old.procs new.heap) (sym same) (back-moves old.heap mid new.heap old.procs pid key proc now stands.kept.holds turns)

    works : directories_of (remembered world.plain pid memory).table ≡ directories_of world.plain.table
    works = works_remembered world.plain.table pid memory

    files : HaveFiles new world.plain.files (remembered_in world pid memory after).account
    files = files_moved old new world.plain.files world.plain.files world.account (remembered_in world pid memory after).account moves refl refl refl refl refl
        (λ number have.
        subst (λ (procs : TableView). HaveDescriptors (numbers_in new.heap) number (processes new.heap procs) procs.last world.plain.files) (sym same)
        (by_pids new.heap number (processes new.heap old.procs) old.procs.last world.plain.files
        (subst (λ procs. TableOpen (numbers_in new.heap) procs old.procs.last number world.plain.files) (sym (back-procs old.heap mid new.heap old.procs pid key proc now stands.kept.holds turns))
        (leaves_on old.heap new.heap number (map (with_nodes pid now) (procs_of old)) old.procs.last world.plain.files (ap (λ (h : Heap). h.leaves) moves.kept)
        (have_nodes old.heap pid now (procs_of old) old.procs.last number world.plain.files
        (by_procs old.heap number (procs_of old) old.procs.last world.plain.files (rising_in script old stands.kept) have))))))
        stands.files
