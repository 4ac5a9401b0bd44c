-- A process that has entered a directory works there from then on, and has let the one go in which it worked.
use Rattle.std.proofs.Common.{◌≡◌, ◌≢◌, ℕ, zero, suc, ◌+◌, ◌-◌, ◌<◌, ◌==◌, not, Bool, true, false, cond, List, [], ◌∷◌, filter, map, None, Some, is_none, unwrap_or, slice_get, slice_set, refl, ap, sym, ◌∙◌, subst, arith}
use Rattle.std.specs.List.{AllByRecursion}
use Rattle.std.specs.Option.{option_map}
use Rattle.kabi_types.specs.declared.scripts.Control.{Control}
use Rattle.kabi_types.specs.declared.scripts.Script.{Script}
use Rattle.kern_laws.proofs.Remembering.{moves_on}
use Rattle.kheap_slabs.specs.declared.objects.Proc.{Proc}
use Rattle.kheap_slabs.specs.Heap.{Heap}
use Rattle.memfs_ops.specs.Closing.{one_less}
use Rattle.memfs_ops.specs.FileTree.{Stands, one_more}
use Rattle.posix_defs.specs.Control.{settled}
use Rattle.posix_defs.specs.Plain.{Plain, control_of, root}
use Rattle.posix_defs.specs.Process.{Process, Table, process_at, with_directory, working_in as working}
use Rattle.posix_defs.specs.Tree.{Tree, is_directory}
use Rattle.posix_defs.specs.World.{World}
use Rattle.proc_files.specs.Holders.{openings}
use Rattle.proc_table.specs.Changes.{is_other, replaced}
use Rattle.proc_table.specs.Procs.{proc_of, process_of}
use Rattle.proc_table.specs.Standing.{AreFrom, IsTable, gone, nobody, there}
use Rattle.proc_table.specs.Table.{TableView}
use Rattle.proc_table.proofs.FamilyLemmas.{length-with_pid, proc_has_pid}
use Rattle.proc_table.proofs.HoldLemmas.{content_kept}
use Rattle.proc_table.proofs.LawLemmas.{on-procs, only_one}
use Rattle.proc_table.proofs.MemoryLemmas.{process_of-same}
use Rattle.proc_table.proofs.OwnLemmas.{has_it}
use Rattle.proc_table.proofs.PlaceLemmas.{eqb_is, eqb_other, eqb_same}
use Rattle.store_objects.proofs.LockedOn.{holds_on, stay_moved}
use Rattle.store_objects.specs.declared.objects.Objects.{Objects}
use Rattle.store_objects.specs.Files.{HaveFiles}
use Rattle.store_objects.specs.Objects.{AreKept, IsAtCall, Runs, WorksElsewhere, procs_of}
use Rattle.store_objects.specs.Standing.{HasEntered, StandsFor, working_in}
use Rattle.store_objects.specs.Trees.{KeptStays, TreeStays, but_root, held_nodes, pins_in}
use Rattle.store_objects.specs.Working.{AreDirectories, OnlyPins, directories_in, entered_pins, left_pins}
use Rattle.store_objects.proofs.Families.{SameMemory, processes_on}
use Rattle.store_objects.proofs.GoingOn.{account_changed, descriptors_changed, kept_changed, mapped_from, moves_changed, proc_made, procs_changed, replaced_at, rising_in, some_same}
use Rattle.store_objects.proofs.HeldNodes.{in_counts, one_if}
use Rattle.store_objects.proofs.Keeping.{moved_caches}
use Rattle.store_objects.proofs.Opening.{files_moved}
use Rattle.store_objects.proofs.Pinning.{kept_then, kept_where, pinned_account, pinned_files, pinned_kept, pinned_locks, pinned_procs, pinned_stays, pinned_table, stands_where}
use Rattle.store_objects.proofs.TreesOn.{held_by_procs, same_pins, works_in, works_worked}
use Rattle.store_objects.proofs.WorkPlaces.{away, count, entered_more, holds_it, left_less, others_by, others_hold}

-- ---- how often a node is held

-- once more and once less
pub one_back : (pins : ℕ → ℕ) (directory n : ℕ) → one_less (one_more pins directory) directory n ≡ pins n
one_back pins directory n = by_node (directory == n)
  where
    back : (k : ℕ) → k + 1 - 1 ≡ k
    back k = omega arith

    by_node : (b : Bool) → cond b (cond b (pins n + 1) (pins n) - 1) (cond b (pins n + 1) (pins n)) ≡ pins n
    by_node true = back (pins n)
    by_node false = refl

pub some_once : (pins : ℕ → ℕ) (directory : ℕ) → 0 < one_more pins directory directory
some_once pins directory = subst (λ b. 0 < cond b (pins directory + 1) (pins directory)) (sym (eqb_same directory directory refl)) (omega arith)

some_more : (pins : ℕ → ℕ) (directory n : ℕ) → 0 < pins n → 0 < entered_pins pins directory n
some_more pins directory n some = let more = entered_more pins directory n in omega (arith, some, more)

pub root_held : (plain : Plain) → 0 < pins_in plain root
root_held plain = in_counts root (held_nodes plain) refl

-- the root is held still where another one is held once less
pub root_stays_held : (plain : Plain) (directory left : ℕ) → left ≢ root → 0 < one_less (entered_pins (pins_in plain) directory) left root
root_stays_held plain directory left other =
    subst (λ b. 0 < cond b (entered_pins (pins_in plain) directory root - 1) (entered_pins (pins_in plain) directory root)) (sym (eqb_other left root other))
    (some_more (pins_in plain) directory root (root_held plain))

-- ---- one of them works elsewhere

-- all others are as before
others_same : (pid : ℕ) (became : Proc) (procs : List Proc) → became.pid ≡ pid → filter (is_other pid) (map (replaced pid became) procs) ≡ filter (is_other pid) procs
others_same pid became [] own = refl
others_same pid became (proc ∷ procs) own = by_pid (proc.pid == pid) refl (others_same pid became procs own)
  where
    by_pid : (b : Bool) → (proc.pid == pid) ≡ b → filter (is_other pid) (map (replaced pid became) procs) ≡ filter (is_other pid) procs
        → filter (is_other pid) (cond b became proc ∷ map (replaced pid became) procs) ≡ cond (not b) (proc ∷ filter (is_other pid) procs) (filter (is_other pid) procs)
    by_pid true e rest =
        ap (λ b. cond (not b) (became ∷ filter (is_other pid) (map (replaced pid became) procs)) (filter (is_other pid) (map (replaced pid became) procs))) (eqb_same became.pid pid own) ∙ rest
    by_pid false e rest =
        ap (λ b. cond (not b) (proc ∷ filter (is_other pid) (map (replaced pid became) procs)) (filter (is_other pid) (map (replaced pid became) procs))) e ∙ ap (λ procs. proc ∷ procs) rest

-- what holds of where all work, and of where the one works now
all_work : (P : ℕ → Type 0) (pid : ℕ) (became : Proc) (procs : List Proc) → P became.cwd → AllByRecursion P (directories_in procs) → AllByRecursion P (directories_in (map (replaced pid became) procs))
all_work P pid became [] it all = tt
all_work P pid became (proc ∷ procs) it all = by_pid (proc.pid == pid) (all_work P pid became procs it (those (is_none proc.status) all))
  where
    rest : List ℕ
    rest = directories_in (map (replaced pid became) procs)

    those : (b : Bool) → AllByRecursion P (cond b (proc.cwd ∷ directories_in procs) (directories_in procs)) → AllByRecursion P (directories_in procs)
    those true all = all.1
    those false all = all

    first : (b : Bool) → AllByRecursion P (cond b (proc.cwd ∷ directories_in procs) (directories_in procs)) → AllByRecursion P rest → AllByRecursion P (cond b (proc.cwd ∷ rest) rest)
    first true all others = (all.0, others)
    first false all others = others

    by_status : (b : Bool) → AllByRecursion P rest → AllByRecursion P (cond b (became.cwd ∷ rest) rest)
    by_status true others = (it, others)
    by_status false others = others

    by_pid : (b : Bool) → AllByRecursion P rest → AllByRecursion P (directories_in (cond b became proc ∷ map (replaced pid became) procs))
    by_pid true others = by_status (is_none became.status) others
    by_pid false others = first (is_none proc.status) all others

-- ---- the machine's table

-- those above are as before
table_above : {old : Heap} {first : ℕ} {table : Table} {procs : List Proc} → AreFrom old first table procs → (new : Heap) (pid : ℕ) (became : Proc)
    → ((proc : Proc) → process_of new proc ≡ process_of old proc) → pid < first → AreFrom new first table (map (replaced pid became) procs)
table_above (nobody old first) new pid became same below = nobody new first
table_above (gone old first table procs rest) new pid became same below =
    gone new first table (map (replaced pid became) procs) (table_above rest new pid became same (omega arith))
table_above (there old first proc table procs e rest) new pid became same below =
    subst (λ p. AreFrom new first (Some (process_of old proc) ∷ table) (p ∷ map (replaced pid became) procs))
    (sym (ap (λ b. cond b became proc) (eqb_other proc.pid pid (λ own. let l : proc.pid ≡ first = e in absurd (omega arith)))))
    (subst (λ process. AreFrom new first (Some process ∷ table) (proc ∷ map (replaced pid became) procs)) (same proc)
    (there new first proc table (map (replaced pid became) procs) e (table_above rest new pid became same (omega arith))))

-- and the one works elsewhere
table_at : {old : Heap} {first : ℕ} {table : Table} {procs : List Proc} → AreFrom old first table procs → (new : Heap) (pid place directory : ℕ) (it : Proc)
    → ((proc : Proc) → process_of new proc ≡ process_of old proc) → pid ≡ first + place → it.pid ≡ pid → AllByRecursion (λ proc. proc.pid ≡ pid → proc ≡ it) procs
    → AreFrom new first (slice_set table place (working directory (unwrap_or (slice_get table place) None))) (map (replaced pid (record it { cwd = directory })) procs)
table_at (nobody old first) new pid place directory it same at own only = nobody new first
table_at (gone old first table procs rest) new pid zero directory it same at own only =
    gone new first table (map (replaced pid (record it { cwd = directory })) procs) (table_above rest new pid (record it { cwd = directory }) same (omega arith))
table_at (gone old first table procs rest) new pid (suc place) directory it same at own only =
    gone new first (slice_set table place (working directory (unwrap_or (slice_get table place) None))) (map (replaced pid (record it { cwd = directory })) procs)
    (table_at rest new pid place directory it same (omega arith) own only)
table_at (there old first proc table procs e rest) new pid zero directory it same at own only =
    let here : proc.pid ≡ pid = (let l : proc.pid ≡ first = e in omega arith) in
    subst (λ p. AreFrom new first (Some (record (process_of old proc) { directory = directory }) ∷ table) (p ∷ map (replaced pid (record it { cwd = directory })) procs))
    (sym (ap (λ b. cond b (record it { cwd = directory }) proc) (eqb_same proc.pid pid here)))
    (subst (λ process. AreFrom new first (Some process ∷ table) (record it { cwd = directory } ∷ map (replaced pid (record it { cwd = directory })) procs))
    (ap (λ (process : Process). record process { directory = directory }) (same it ∙ ap (process_of old) (sym (only.0 here))))
    (there new first (record it { cwd = directory }) table (map (replaced pid (record it { cwd = directory })) procs) (let l : it.pid ≡ pid = own in omega arith)
    (table_above rest new pid (record it { cwd = directory }) same (omega arith))))
table_at (there old first proc table procs e rest) new pid (suc place) directory it same at own only =
    subst (λ p. AreFrom new first (Some (process_of old proc) ∷ slice_set table place (working directory (unwrap_or (slice_get table place) None))) (p ∷ map (replaced pid (record it { cwd = directory })) procs))
    (sym (ap (λ b. cond b (record it { cwd = directory }) proc) (eqb_other proc.pid pid (λ here. let l : proc.pid ≡ first = e in absurd (omega arith)))))
    (subst (λ process. AreFrom new first (Some process ∷ slice_set table place (working directory (unwrap_or (slice_get table place) None))) (proc ∷ map (replaced pid (record it { cwd = directory })) procs)) (same proc)
    (there new first proc (slice_set table place (working directory (unwrap_or (slice_get table place) None))) (map (replaced pid (record it { cwd = directory })) procs) e
    (table_at rest new pid place directory it same (omega arith) own only.1)))

-- so the table is that in which it works there
table_from : {old : Heap} {table : Table} {procs : List Proc} → AreFrom old 1 table procs → (new : Heap) (pid directory : ℕ) (it : Proc)
    → ((proc : Proc) → process_of new proc ≡ process_of old proc) → 0 < pid → it.pid ≡ pid → AllByRecursion (λ proc. proc.pid ≡ pid → proc ≡ it) procs
    → AreFrom new 1 (with_directory table pid directory) (map (replaced pid (record it { cwd = directory })) procs)
table_from are new zero directory it same some own only = absurd (omega (arith, some))
table_from are new (suc place) directory it same some own only = table_at are new (suc place) place directory it same (omega arith) own only

-- ---- the steps of a process that works elsewhere

-- It holds the directory that it has entered once (MID), works there (MOVED), and lets the one go in which it worked (NEW).
module _ (script : Script) (old mid : Objects) (world : World) (directory : ℕ) (has : HasEntered script old world directory)
    (once : OnlyPins old mid) (held : (tree : Tree) (pins : ℕ → ℕ) → Stands old.heap old.tree tree (one_more pins directory) → Stands mid.heap mid.tree tree (entered_pins pins directory))
  where
    abbrev tree : Tree
    tree = world.plain.files.tree

    abbrev entering : ℕ → ℕ
    entering = entered_pins (pins_in world.plain) directory

    pub stands_mid : Stands mid.heap mid.tree tree entering
    stands_mid = held tree (pins_in world.plain) has.tree

    pub kept_mid : AreKept script mid
    kept_mid = pinned_kept old mid once script has.kept (tree, entering, stands_mid)

    module _ (moved : Objects) (pid : ℕ) (moves : WorksElsewhere mid pid directory moved) where
      abbrev at_directory : Proc → Proc
      at_directory proc = record proc { cwd = directory }

      abbrev became : Proc
      became = at_directory moves.proc

      own : moves.proc.pid ≡ pid
      own = proc_has_pid (procs_of mid) pid moves.proc moves.found

      only : AllByRecursion (λ proc. proc.pid ≡ pid → proc ≡ moves.proc) (procs_of mid)
      only = only_one (procs_of mid) 0 pid moves.proc (rising_in script mid kept_mid) moves.found

      pub it_was : (proc : Proc) → proc_of (procs_of old) pid ≡ Some proc → moves.proc ≡ proc
      it_was proc found = some_same (proc_of (procs_of mid) pid) moves.proc proc moves.found (ap (λ procs. proc_of procs pid) (pinned_procs old mid once) ∙ found)

      stays : TreeStays mid moved
      stays = record { tree = moves.tree; names = moves.names; caches = moved_caches mid.heap moved.heap mid.procs moved.procs (moves_changed script mid moved pid at_directory kept_mid moves) }

      pub stands_moved : Stands moved.heap moved.tree tree entering
      stands_moved = stands_where mid moved tree entering stays stands_mid

      at_its_call : IsAtCall script moves.proc → IsAtCall script became
      at_its_call at = record { stands = at.stands; rests = at.rests }

      kept_then_moved : AreKept script moved
      kept_then_moved = kept_changed script mid moved pid at_directory kept_mid moves
          (λ up. at_its_call (has_it (λ proc. proc.status ≡ None → IsAtCall script proc) (procs_of mid) pid moves.proc kept_mid.calls moves.found up))

      table_moved : (table : Table) → IsTable mid.heap mid.procs table → IsTable moved.heap moved.procs (with_directory table pid directory)
      table_moved table is =
          subst (λ (view : TableView). IsTable moved.heap view (with_directory table pid directory)) (sym moves.same)
          (record {
            present = subst (AreFrom moved.heap 1 (with_directory table pid directory))
                (sym (on-procs mid.heap moved.heap mid.procs pid moves.key moves.proc became kept_mid.holds moves.turns))
                (table_from is.present moved.heap pid directory moves.proc
                (λ proc. process_of-same mid.heap moved.heap proc
                (λ page. content_kept mid.heap moved.heap proc.nodes page (ap (λ (h : Heap). h.nodes) moves.turns.after) (ap (λ (h : Heap). h.pages) moves.turns.after)))
                made own only);
            made = length-with_pid table pid (working directory (process_at table pid)) ∙ is.made;
          })
        where
          same : SameMemory old.heap mid.heap
          same = record { procs = ap (λ (h : Heap). h.procs) once.heap; nodes = ap (λ (h : Heap). h.nodes) once.heap; pages = ap (λ (h : Heap). h.pages) once.heap }

          made : 0 < pid
          made = (proc_made script mid world.plain pid moves.proc kept_mid
              (processes_on script old mid world.plain world.plain once.procs same refl refl has.processes) moves.found).0

      found_old : proc_of (procs_of old) pid ≡ Some moves.proc
      found_old = ap (λ procs. proc_of procs pid) (sym (pinned_procs old mid once)) ∙ moves.found

      -- it holds the directory in which it worked until now, if only as the root
      pub is_held : (left : ℕ) → left ≡ moves.proc.cwd → moves.proc.status ≡ None → left ≢ root → 0 < entering left
      is_held left at up other =
          some_more (pins_in world.plain) directory left
          (let held = held_by_procs old world.plain has.processes.table left in let one : 0 < others_by (procs_of old) left = holds_left in omega (arith, held, one))
        where
          holds_left : 0 < others_by (procs_of old) left
          holds_left =
              subst (λ n. 0 < others_by (procs_of old) n) (sym at)
              (holds_it pid (procs_of old) 0 moves.proc (rising_in script old has.kept) found_old up (λ same. other (at ∙ same)))

      module _ (new : Objects) (left : ℕ) (lets : OnlyPins moved new) (gone : (tree : Tree) (pins : ℕ → ℕ) → Stands moved.heap moved.tree tree pins → Stands new.heap new.tree tree (left_pins pins left))
          (at : left ≡ moves.proc.cwd) (up : moves.proc.status ≡ None) where
        stands_new : Stands new.heap new.tree tree (left_pins entering left)
        stands_new = gone tree entering stands_moved

        kept_new : AreKept script new
        kept_new = pinned_kept moved new lets script kept_then_moved (tree, left_pins entering left, stands_new)

        procs_new : procs_of new ≡ map (replaced pid became) (procs_of old)
        procs_new = pinned_procs moved new lets ∙ procs_changed script mid moved pid at_directory kept_mid moves ∙ ap (map (replaced pid became)) (pinned_procs old mid once)

        -- who is found then
        found_then : (q : ℕ) → proc_of (procs_of new) q ≡ option_map (replaced pid became) (proc_of (procs_of old) q)
        found_then q = ap (λ procs. proc_of procs q) procs_new ∙ replaced_at (procs_of old) pid became q own

        pub found_new : proc_of (procs_of new) pid ≡ Some became
        found_new = found_then pid ∙ ap (option_map (replaced pid became)) found_old ∙ ap (λ b. Some (cond b became moves.proc)) (eqb_same moves.proc.pid pid own)

        -- it runs still
        pub runs_new : (control : Control) → Runs old pid control → Runs new pid control
        runs_new control runs = record {
          proc = became;
          found = found_new;
          up = up;
          at_call = ap (λ (proc : Proc). proc.control) (it_was runs.proc runs.found) ∙ runs.at_call;
        }

        -- ---- the families

        table_new : IsTable new.heap new.procs (with_directory world.plain.table pid directory)
        table_new = pinned_table moved new lets (with_directory world.plain.table pid directory)
            (table_moved world.plain.table (pinned_table old mid once world.plain.table has.processes.table))

        -- a process is as it was but for where it works
        as_it_was : (q : ℕ) (was now : Proc) → proc_of (procs_of old) q ≡ Some was → now ≡ replaced pid became was → (now.control ≡ was.control) × (now.status ≡ was.status)
        as_it_was q was now found is = by_pid (was.pid == pid) refl is
          where
            by_pid : (b : Bool) → (was.pid == pid) ≡ b → now ≡ cond b became was → (now.control ≡ was.control) × (now.status ≡ was.status)
            by_pid true e is =
                let here : q ≡ pid = sym (proc_has_pid (procs_of old) q was found) ∙ eqb_is was.pid pid e in
                let same : moves.proc ≡ was = it_was was (subst (λ n. proc_of (procs_of old) n ≡ Some was) here found) in
                (ap (λ (p : Proc). p.control) is ∙ ap (λ (p : Proc). p.control) same, ap (λ (p : Proc). p.status) is ∙ ap (λ (p : Proc). p.status) same)
            by_pid false e is = (ap (λ (p : Proc). p.control) is, ap (λ (p : Proc). p.status) is)

        controls_new : (q : ℕ) (it : Proc) → proc_of (procs_of new) q ≡ Some it → it.status ≡ None → settled script (control_of world.plain q) ≡ it.control
        controls_new q it found runs =
            let was = mapped_from (replaced pid became) (proc_of (procs_of old) q) it (sym (found_then q) ∙ found) in
            let same = as_it_was q was.0 it was.1 was.2 in
            has.processes.controls q was.0 was.1 (sym same.1 ∙ runs) ∙ sym same.0

        files_new : HaveFiles new world.plain.files world.account
        files_new = pinned_files moved new lets world.plain.files world.account
            (files_moved mid moved world.plain.files world.plain.files world.account world.account (moves_changed script mid moved pid at_directory kept_mid moves) refl refl refl refl refl
            (λ number have. descriptors_changed script mid moved pid at_directory kept_mid moves refl world.plain.files number have)
            (pinned_files old mid once world.plain.files world.account has.files))

        -- ---- who holds what

        abbrev next : Plain
        next = (working_in world pid directory).plain

        pins_new : (n : ℕ) → left_pins entering left n ≡ pins_in next n
        pins_new n =
            left_less entering left n (here + (away directory n + others) + opens) as_many
            ∙ sym (held_by_procs new next table_new n
            ∙ ap (λ k. k + opens) (others_hold pid (procs_of new) 0 became (rising_in script new kept_new) found_new up n
            ∙ ap (λ procs. here + (away directory n + count n (but_root (directories_in procs)))) (ap (filter (is_other pid)) procs_new ∙ others_same pid became (procs_of old) own)))
          where
            here : ℕ
            here = one_if (root == n)

            opens : ℕ
            opens = openings world.plain.files n

            others : ℕ
            others = count n (but_root (directories_in (filter (is_other pid) (procs_of old))))

            group : (all was here away enters rest more : ℕ) → all ≡ was + enters → was ≡ here + (away + rest) + more → all ≡ away + (here + (enters + rest) + more)
            group all was here away enters rest more e f = omega arith

            were : pins_in world.plain n ≡ here + (away moves.proc.cwd n + others) + opens
            were = held_by_procs old world.plain has.processes.table n
                ∙ ap (λ k. k + opens) (others_hold pid (procs_of old) 0 moves.proc (rising_in script old has.kept) found_old up n)

            as_many : entering n ≡ away left n + (here + (away directory n + others) + opens)
            as_many = subst (λ cwd. entering n ≡ away cwd n + (here + (away directory n + others) + opens)) (sym at)
                (group (entering n) (pins_in world.plain n) here (away moves.proc.cwd n) (away directory n) others opens (entered_more (pins_in world.plain) directory n) were)

        works_new : AreDirectories tree (directories_in (procs_of new))
        works_new = subst (λ procs. AreDirectories tree (directories_in procs)) (sym procs_new)
            (all_work (λ node. is_directory tree node ≡ true) pid became (procs_of old) has.entered (works_in old tree world.plain.table has.processes.table has.works))

        kept_same : KeptStays old.tree new.tree
        kept_same = kept_then old.tree moved.tree new.tree
            (kept_then old.tree mid.tree moved.tree (pinned_stays old mid once) (kept_where mid moved stays)) (pinned_stays moved new lets)

        pub works_then : StandsFor script new (working_in world pid directory)
        works_then = record {
          valid = has.valid;
          kept = kept_new;
          processes = record {
            table = table_new;
            last = ap (λ (view : TableView). view.last) (lets.procs ∙ moves.same ∙ once.procs) ∙ has.processes.last;
            controls = controls_new;
          };
          memory = pinned_account moved new lets world.account.frames
              (account_changed script mid moved pid at_directory kept_mid moves world.account.frames (pinned_account old mid once world.account.frames has.memory));
          files = files_new;
          locks = holds_on moved new (pinned_locks moved new lets) world.plain.files.locks
              (holds_on mid moved (stay_moved mid moved (moves_changed script mid moved pid at_directory kept_mid moves) moves.locks) world.plain.files.locks
              (holds_on old mid (pinned_locks old mid once) world.plain.files.locks has.locks));
          tree = record {
            stands = same_pins new.heap new.tree tree (left_pins entering left) (pins_in next) pins_new stands_new;
            kept = has.same ∙ sym kept_same.kept;
            reads = has.reads ∙ sym kept_same.reads;
          };
          family = (moves_on world.plain pid directory (record { family = has.family; counted = has.processes.table.made ∙ has.processes.last })).family;
          works = works_worked new tree (with_directory world.plain.table pid directory) table_new works_new;
        }
