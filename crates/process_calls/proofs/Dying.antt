-- The objects stand for the world in which a process has ended.
use Rattle.std.proofs.Common.{◌≡◌, ◌≢◌, ◌⊎◌, ℕ, zero, suc, ◌+◌, ◌-◌, ◌<◌, ◌≤◌, ◌==◌, Bool, true, false, cond, List, [], ◌∷◌, length, None, Some, map, slice_set, refl, ap, sym, ◌∙◌, subst, inl, inr, arith}
use Rattle.std.specs.List.{AllByRecursion, range_with_len}
use Rattle.std.specs.Option.{option_map}
use Rattle.std.proofs.lemmas.Bool.Decides.{eqb_tells}
use Rattle.kabi_types.specs.declared.scripts.Script.{Script}
use Rattle.kabi_types.specs.declared.classes.Class.{Class}
use Rattle.kabi_types.specs.declared.classes.Class.TheVariants as class
use Rattle.kabi_types.specs.Counts.{counted}
use Rattle.kheap_slabs.specs.Purse.{Purse}
use Rattle.kheap_slabs.specs.declared.objects.Proc.{Proc}
use Rattle.kheap_slabs.specs.Heap.{IsWellFormed, counts_of}
use Rattle.kheap_slabs.specs.Paid.{IsPaid}
use Rattle.posix_defs.specs.Account.{account_on, forget_dead}
use Rattle.posix_defs.specs.Control.{settled}
use Rattle.posix_defs.specs.Ending.{closed_by, die}
use Rattle.posix_defs.specs.Family.{IsKept}
use Rattle.posix_defs.specs.Files.Closing.{after_end_of, after_ends_of}
use Rattle.posix_defs.specs.Files.State.{Files}
use Rattle.posix_defs.specs.Memory.{Frames, Places, after_clear, kept_from, no_places, without_dead}
use Rattle.posix_defs.specs.Plain.{Plain, control_of, last_pid, root}
use Rattle.posix_defs.specs.Process.{Table, is_alive, is_alive_in, is_there, process_at}
use Rattle.posix_defs.specs.Reaching.{ends_node}
use Rattle.posix_defs.specs.Tree.{Tree, is_directory}
use Rattle.posix_defs.specs.World.{Kept, World, directories_of}
use Rattle.kern_laws.proofs.Families.{dies_on, first_lives}
use Rattle.kern_laws.proofs.Nexts.{alive_is_there, die_ends}
use Rattle.kern_laws.proofs.TablePlaces.{each_changed}
use Rattle.proc_numbers.specs.Queues.{QueuesStand}
use Rattle.proc_numbers.proofs.Fronts.{queues_then}
use Rattle.proc_files.specs.Holders.{holders, openings}
use Rattle.proc_files.proofs.Holding.{same_pins}
use Rattle.proc_files.specs.NameHolding.{HoldNames}
use Rattle.proc_table.specs.Accounting.{HasAccount}
use Rattle.proc_table.specs.Changes.{ended}
use Rattle.proc_table.specs.Procs.{IsAlive, proc_of, process_of}
use Rattle.proc_table.specs.Standing.{IsTable, ends_from, ends_in}
use Rattle.proc_table.proofs.EndAll.{all_end}
use Rattle.proc_table.proofs.FamilyLemmas.{proc_has_pid, process_is}
use Rattle.proc_table.proofs.LawLemmas.{end_is}
use Rattle.proc_table.proofs.OwnLemmas.{has_it, rising_procs}
use Rattle.proc_table.proofs.PlaceLemmas.{eqb_same}
use Rattle.store_objects.specs.declared.objects.Objects.{Objects}
use Rattle.store_objects.specs.Files.{HaveFiles}
use Rattle.store_objects.specs.Objects.{AreKept, procs_of}
use Rattle.store_objects.specs.Standing.{AreProcesses, IsSound, StandsFor}
use Rattle.store_objects.specs.Trees.{HasTree, KeptStays, but_root, kept_by, pins_in}
use Rattle.store_objects.specs.Working.{AreDirectories, directories_in}
use Rattle.store_objects.proofs.Forgetting.{forgotten}
use Rattle.store_objects.proofs.Fronts.{fronts_stand, settled_after}
use Rattle.store_objects.proofs.HeldNodes.{one_if, pins_split, whole as whole_count}
use Rattle.store_objects.proofs.StoreFiles.{holds_names}
use Rattle.store_objects.proofs.KeptNow.{as_many_blocks, as_many_names, as_many_vnodes}
use Rattle.store_objects.proofs.Pinning.{kept_then}
use Rattle.store_objects.proofs.RunningProcs.{alive_is, all_found}
use Rattle.store_objects.proofs.WorkPlaces.{away_cons, count, directories_from}
use Rattle.process_calls.specs.Ending.{WorldWithout}
use Rattle.process_calls.specs.Endings.{ClearsSome, HaveLocks, HoldFilesOf, cleared_in_turn, shut, workers_at}
use Rattle.process_calls.proofs.EndedProcs.{Lasts, all_ended}
use Rattle.process_calls.proofs.EndingOthers.{alive_made, alive_runs_there}
use Rattle.process_calls.proofs.Going.{none_before, none_then, remain_end, remain_ends}
use Rattle.process_calls.proofs.Shutting.{all_shut}

-- ---- the account

-- whoever is dead may have been cleared before the dead are forgotten
kept_set : (alive : ℕ → Bool) (places : List Places) (first i : ℕ) → alive (first + i) ≡ false
    → kept_from alive first (slice_set places i no_places) ≡ kept_from alive first places
kept_set alive [] first i dead = refl
kept_set alive (one ∷ rest) first zero dead =
    let none : alive first ≡ false = ap alive (let k : first ≡ first + 0 = omega arith in k) ∙ dead in
    ap (λ b. cond b no_places no_places ∷ kept_from alive (first + 1) rest) none ∙ sym (ap (λ b. cond b one no_places ∷ kept_from alive (first + 1) rest) none)
kept_set alive (one ∷ rest) first (suc i) dead =
    ap (λ ps. cond (alive first) one no_places ∷ ps)
    (kept_set alive rest (first + 1) i (ap alive (let k : first + 1 + i ≡ first + suc i = omega arith in k) ∙ dead))

forget_cleared : (alive : ℕ → Bool) (frames : Frames) (pid : ℕ) → alive pid ≡ false → without_dead alive (after_clear frames pid) ≡ without_dead alive frames
forget_cleared alive frames zero dead = refl
forget_cleared alive frames (suc i) dead =
    ap (λ places. record frames { places = places }) (kept_set alive frames.places 1 i (ap alive (let k : 1 + i ≡ suc i = omega arith in k) ∙ dead))

forget_turns : (alive : ℕ → Bool) (frames : Frames) (pids : List ℕ) → ((pid : ℕ) → alive pid ≡ false) → without_dead alive (cleared_in_turn frames pids) ≡ without_dead alive frames
forget_turns alive frames [] dead = refl
forget_turns alive frames (pid ∷ pids) dead = forget_turns alive (after_clear frames pid) pids dead ∙ forget_cleared alive frames pid (dead pid)

-- ---- the tree

-- Whoever holds a node beside descriptions holds a directory: so everybody works in one.
all_directories : (tree : Tree) (nodes : List ℕ) → is_directory tree root ≡ true → ((n : ℕ) → 0 < count n (but_root nodes) → is_directory tree n ≡ true) → AreDirectories tree nodes
all_directories tree [] at_root each = tt
all_directories tree (node ∷ nodes) at_root each =
    (by_root (eqb_tells node root), all_directories tree nodes at_root (λ n held. each n (let all = away_cons n node nodes in omega (arith, held, all))))
  where
    by_root : (((node == root) ≡ true) × (node ≡ root)) ⊎ (((node == root) ≡ false) × (node ≢ root)) → is_directory tree node ≡ true
    by_root (inl same) = ap (is_directory tree) same.1 ∙ at_root
    by_root (inr apart) =
        each node (let all = away_cons node node nodes in let one : cond (node == root) 0 (one_if (node == node)) ≡ 1 = ap (λ b. cond b 0 (one_if (node == node))) apart.0 ∙ ap one_if (eqb_same node node refl) in omega (arith, all, one))

-- what is given back was there before
pub counts_back : (old new : Objects) (before after : Purse) → after ≡ before → IsPaid old.heap before new.heap after → (class : Class) → counted (counts_of new.heap) class ≤ counted (counts_of old.heap) class
counts_back old new before after same paid class =
    cancel (counted (counts_of old.heap) class) (counted (counts_of new.heap) class) (counted before.left class) (counted after.left class) (ap (λ (p : Purse). counted p.left class) same) (paid.counts class)
  where
    cancel : (a b left same : ℕ) → same ≡ left → b + same ≤ a + left → b ≤ a
    cancel a b left same e less = omega arith

-- A world that the objects stand for, in which a process that runs is to end.
module _ (script : Script) (old : Objects) (world : World) (stands : StandsFor script old world) (sound : IsSound world.plain) (whole : IsWellFormed old.heap) where
  abbrev plain : Plain
  plain = world.plain

  abbrev frames : Frames
  frames = world.account.frames

  -- the objects hold its files
  pub held_at_first : HoldFilesOf stands.files.numbers old plain.files
  held_at_first =
      subst (λ (nodes : List ℕ). HoldNames stands.files.numbers (λ number. count number (root ∷ but_root nodes)) old.heap old.procs old.tree old.names plain.files)
      (directories_from stands.processes.table.present) (holds_names script old world stands whole sound)

  counted_so : length plain.table ≡ last_pid plain
  counted_so = stands.processes.table.made ∙ stands.processes.last

  plain_kept : IsKept plain
  plain_kept = record { family = stands.family; counted = counted_so }

  alive_now : (pid : ℕ) → IsAlive (procs_of old) pid → is_alive plain.table pid ≡ true
  alive_now pid alive = alive_is script old plain pid stands.processes ∙ alive_runs_there old pid alive

  -- who runs in the new heap stands where it stood
  controls_on : (new : Objects) (pid status : ℕ) → procs_of new ≡ ended pid status (map (shut pid) (procs_of old))
      → (q : ℕ) (it : Proc) → proc_of (procs_of new) q ≡ Some it → it.status ≡ None → settled script (control_of plain q) ≡ it.control
  controls_on new pid status is q it found up =
      ap (λ n. settled script (control_of plain n)) (sym (proc_has_pid (procs_of new) q it found)) ∙ has_it Leads (procs_of new) q it all found up
    where
      Leads : Proc → Type 0
      Leads proc = proc.status ≡ None → settled script (control_of plain proc.pid) ≡ proc.control

      never : {X : Type 0} (over : ℕ) → Some over ≡ None → X
      never over e = cc

      lasts : Lasts Leads status
      lasts = record { cleared = λ proc leads. leads; moved = λ proc leads. leads; over = λ proc leads over. never status over }

      all : AllByRecursion Leads (procs_of new)
      all = subst (AllByRecursion Leads) (sym is)
          (all_ended Leads pid status (map (shut pid) (procs_of old)) lasts
          (all_shut Leads pid (procs_of old) (λ proc leads. leads)
          (all_found Leads (procs_of old) 0 (rising_procs old.heap.procs old.procs.listed 0 old.procs.last stands.kept.holds.stored stands.kept.holds.rising)
          (λ r proc above there runs. ap (λ n. settled script (control_of plain n)) (proc_has_pid (procs_of old) r proc there) ∙ stands.processes.controls r proc there runs))))

  -- What has become of what is open where a process ends, and all others with the first one.
  pub record Closes (new : Objects) (pid : ℕ) : Type 0 where
    pub held : HoldFilesOf stands.files.numbers new (closed_by plain.files pid)
    pub locks : HaveLocks new (closed_by plain.files pid)
    pub queues : QueuesStand old.heap new.heap
    pub untouched : ends_node plain.files (closed_by plain.files pid) ≡ false → KeptStays old.tree new.tree
    pub reads : old.tree.disk.reads ≤ new.tree.disk.reads
    pub counts : (class : Class) → counted (counts_of new.heap) class ≤ counted (counts_of old.heap) class

  -- the world in which it has ended
  abbrev ended_world : Objects → ℕ → ℕ → World
  ended_world new pid status =
      record { plain = die plain pid status; account = account_on plain (die plain pid status) world.account; kept = kept_by new.tree; reads = new.tree.disk.reads }

  -- the objects stand for that, where processes, memory and what is open do
  module _ (new : Objects) (pid status : ℕ) (kept : AreKept script new) (lives : is_alive plain.table pid ≡ true) (are : AreProcesses script new (die plain pid status))
      (has : HasAccount new.heap new.procs (forget_dead (die plain pid status) frames)) (closes : Closes new pid) where
    abbrev after : Plain
    after = die plain pid status

    same_workers : directories_of after.table ≡ directories_in (procs_of new)
    same_workers = directories_from are.table.present

    files : HaveFiles new after.files (ended_world new pid status).account
    files = record {
      numbers = stands.files.numbers;
      opened = closes.held.held.opened;
      fronts = fronts_stand stands.files.numbers old.heap new.heap plain after world.account closes.queues stands.files.fronts
          stands.files.opened.opened.piped closes.held.held.opened.opened.piped
          stands.files.opened.opened.socketed closes.held.held.opened.opened.socketed;
      settled = settled_after plain after world.account;
    }

    tree : HasTree new (ended_world new pid status)
    tree = record {
      stands = same_pins new.heap new.tree after.files.tree (holders (workers_at (procs_of new)) after.files) (pins_in after)
          (λ n. ap (λ nodes. count n (root ∷ but_root nodes) + openings after.files n) (sym same_workers) ∙ sym (pins_split after n)) closes.held.held.tree;
      kept = refl;
      reads = refl;
    }

    works : AreDirectories after.files.tree (directories_of after.table)
    works = subst (AreDirectories after.files.tree) (sym same_workers)
        (all_directories after.files.tree (directories_in (procs_of new)) (closes.held.held.beside.directories root closes.held.held.beside.root)
        (λ n held. closes.held.held.beside.directories n (let all = whole_count n root (but_root (directories_in (procs_of new))) in omega (arith, held, all))))

    after_stands : StandsFor script new (ended_world new pid status)
    after_stands = record {
      valid = stands.valid;
      kept = kept;
      processes = are;
      memory = has;
      files = files;
      locks = closes.locks;
      tree = tree;
      family = (let on = dies_on plain pid status plain_kept lives in on.family);
      works = works;
    }

    no_more : (now was here there : ℕ) → here ≡ now → there ≡ was → here ≤ there → now ≤ was
    no_more now was here there e f less = omega (arith, e, f, less)

    pub ended_stands : WorldWithout script new world pid status
    ended_stands = record {
      next = ended_world new pid status;
      stands = after_stands;
      plain = refl;
      account = refl;
      names = no_more _ _ _ _ (as_many_names new.heap new.tree after.files.tree (pins_in after) tree.stands)
          (as_many_names old.heap old.tree plain.files.tree (pins_in plain) stands.tree.stands ∙ ap (λ (k : Kept). length k.names) (sym stands.tree.kept)) (closes.counts class.Name);
      blocks = no_more _ _ _ _ (as_many_blocks new.heap new.tree after.files.tree (pins_in after) tree.stands)
          (as_many_blocks old.heap old.tree plain.files.tree (pins_in plain) stands.tree.stands ∙ ap (λ (k : Kept). length k.blocks) (sym stands.tree.kept)) (closes.counts class.Block);
      vnodes = no_more _ _ _ _ (as_many_vnodes new.heap new.tree after.files.tree (pins_in after) tree.stands)
          (as_many_vnodes old.heap old.tree plain.files.tree (pins_in plain) stands.tree.stands ∙ ap (λ (k : Kept). length k.vnodes) (sym stands.tree.kept)) (closes.counts class.Vnode);
      reads = subst (λ n. n ≤ new.tree.disk.reads) (sym stands.tree.reads) closes.reads;
      untouched = λ none.
          let stay = closes.untouched none in
          (stay.kept ∙ sym stands.tree.kept, stay.reads ∙ sym stands.tree.reads);
    }

  -- another than the first
  pub dies_other : (new : Objects) (pid status : ℕ) → AreKept script new → IsAlive (procs_of old) pid → pid ≢ 1 → new.procs.last ≡ old.procs.last
      → procs_of new ≡ ended pid status (map (shut pid) (procs_of old)) → IsTable new.heap new.procs (ends_in plain.table pid status)
      → HasAccount new.heap new.procs (after_clear frames pid)
      → HoldFilesOf stands.files.numbers new (after_end_of plain.files pid) → HaveLocks new (after_end_of plain.files pid)
      → QueuesStand old.heap new.heap → (ends_node plain.files (after_end_of plain.files pid) ≡ false → KeptStays old.tree new.tree)
      → old.tree.disk.reads ≤ new.tree.disk.reads → ((class : Class) → counted (counts_of new.heap) class ≤ counted (counts_of old.heap) class)
      → WorldWithout script new world pid status
  dies_other new pid status kept_new alive other last is table has held locks queues untouched reads counts =
      ended_stands new pid status kept_new lives are
      (subst (HasAccount new.heap new.procs)
      (sym (forgotten script new (die plain pid status) (after_clear frames pid) kept_new are has)
      ∙ forget_cleared (is_alive (die plain pid status).table) frames pid dead) has)
      (record {
        held = subst (HoldFilesOf stands.files.numbers new) (sym (closed pid other)) held;
        locks = subst (HaveLocks new) (sym (closed pid other)) locks;
        queues = queues;
        untouched = λ none. untouched (ap (ends_node plain.files) (sym (closed pid other)) ∙ none);
        reads = reads;
        counts = counts;
      })
    where
      closed : (pid : ℕ) → pid ≢ 1 → closed_by plain.files pid ≡ after_end_of plain.files pid
      closed zero apart = refl
      closed (suc zero) apart = absurd (apart refl)
      closed (suc (suc n)) apart = refl

      lives : is_alive plain.table pid ≡ true
      lives = alive_now pid alive

      dead : is_alive (die plain pid status).table pid ≡ false
      dead = die_ends plain.table pid status

      there : is_there (process_at plain.table 1) ≡ true
      there =
          let one = alive_is_there plain.table pid lives in
          let first = alive_is_there plain.table 1 (first_lives plain.table pid one.0 stands.family one.1) in
          ap is_there first.1

      are : AreProcesses script new (die plain pid status)
      are = record {
        table = subst (IsTable new.heap new.procs) (sym (end_is plain.table pid status other there)) table;
        last = last ∙ stands.processes.last;
        controls = controls_on new pid status is;
      }

  -- the first, and with it all
  pub dies_first : (new : Objects) (status : ℕ) → AreKept script new → IsAlive (procs_of old) 1 → new.procs.last ≡ old.procs.last
      → IsTable new.heap new.procs (ends_from old.procs.last 2 (ends_in plain.table 1 status) 9)
      → (after : Frames) → HasAccount new.heap new.procs after → ClearsSome (after_clear frames 1) after → Closes new 1
      → WorldWithout script new world 1 status
  dies_first new status kept_new alive last table after has some closes =
      ended_stands new 1 status kept_new (alive_now 1 alive) are
      (subst (HasAccount new.heap new.procs)
      (sym (forgotten script new (die plain 1 status) after kept_new are has)
      ∙ ap (forget_dead (die plain 1 status)) some.1
      ∙ forget_turns (is_alive (die plain 1 status).table) (after_clear frames 1) some.0 dead
      ∙ forget_cleared (is_alive (die plain 1 status).table) frames 1 (dead 1)) has)
      closes
    where
      nobody : (q : ℕ) → process_at (die plain 1 status).table q ≡ None
      nobody q = each_changed (λ _. None) plain.table q refl

      dead : (q : ℕ) → is_alive (die plain 1 status).table q ≡ false
      dead q = ap is_alive_in (nobody q)

      is : IsTable new.heap new.procs (die plain 1 status).table
      is = subst (IsTable new.heap new.procs)
          (all_end plain.table status 9 old.procs.last stands.family (let made : length plain.table ≡ old.procs.last = stands.processes.table.made in omega arith)) table

      missing : {X : Type 0} (it : Proc) → None ≡ Some (process_of new.heap it) → X
      missing it e = cc

      are : AreProcesses script new (die plain 1 status)
      are = record {
        table = is;
        last = last ∙ stands.processes.last;
        controls = λ q it found up.
            missing it (sym (nobody q) ∙ process_is new.heap (die plain 1 status).table (procs_of new) q is.present ∙ ap (option_map (process_of new.heap)) found);
      }

  -- its own end, and then that of all others
  pub record EndsFirst (mid : Objects) (pid status : ℕ) : Type 0 where
    pub last : mid.procs.last ≡ old.procs.last
    pub table : IsTable mid.heap mid.procs (ends_in plain.table pid status)
    pub account : HasAccount mid.heap mid.procs (after_clear frames pid)
    pub held : HoldFilesOf stands.files.numbers mid (after_end_of plain.files pid)
    pub locks : HaveLocks mid (after_end_of plain.files pid)
    pub queues : QueuesStand old.heap mid.heap
    pub stays : ends_node plain.files (after_end_of plain.files pid) ≡ false → KeptStays old.tree mid.tree
    pub reads : old.tree.disk.reads ≤ mid.tree.disk.reads

  pub record EndsRest (mid new : Objects) (files : Files) : Type 0 where
    pub last : new.procs.last ≡ mid.procs.last
    pub table : (table : Table) → IsTable mid.heap mid.procs table → IsTable new.heap new.procs (ends_from mid.procs.last 2 table 9)
    pub account : (frames : Frames) → HasAccount mid.heap mid.procs frames → (after : Frames) × HasAccount new.heap new.procs after × ClearsSome frames after
    pub held : HoldFilesOf stands.files.numbers new (after_ends_of files (range_with_len 2 (mid.procs.last - 1)))
    pub locks : HaveLocks new (after_ends_of files (range_with_len 2 (mid.procs.last - 1)))
    pub queues : QueuesStand mid.heap new.heap
    pub stays : ends_node files (after_ends_of files (range_with_len 2 (mid.procs.last - 1))) ≡ false → KeptStays mid.tree new.tree
    pub reads : mid.tree.disk.reads ≤ new.tree.disk.reads

  dies_with_one : (mid new : Objects) (status : ℕ) → AreKept script new → IsAlive (procs_of old) 1 → EndsFirst mid 1 status → EndsRest mid new (after_end_of plain.files 1)
      → ((class : Class) → counted (counts_of new.heap) class ≤ counted (counts_of old.heap) class) → WorldWithout script new world 1 status
  dies_with_one mid new status kept_new alive first rest counts =
      let found = rest.account (after_clear frames 1) first.account in
      dies_first new status kept_new alive (rest.last ∙ first.last)
      (subst (λ n. IsTable new.heap new.procs (ends_from n 2 (ends_in plain.table 1 status) 9)) first.last (rest.table (ends_in plain.table 1 status) first.table))
      found.0 found.1 found.2
      (record {
        held = subst (HoldFilesOf stands.files.numbers new) all_closed rest.held;
        locks = subst (HaveLocks new) all_closed rest.locks;
        queues = queues_then _ _ _ first.queues rest.queues;
        untouched = λ none.
            let still : ends_node plain.files all ≡ false = ap (ends_node plain.files) all_closed ∙ none in
            kept_then old.tree mid.tree new.tree
            (first.stays (none_before plain.files one all (remain_end plain.files 1) (remain_ends one pids) still))
            (rest.stays (none_then plain.files one all (remain_end plain.files 1) (remain_ends one pids) still));
        reads = (let a = first.reads in let b = rest.reads in omega (arith, a, b));
        counts = counts;
      })
    where
      pids : List ℕ
      pids = range_with_len 2 (mid.procs.last - 1)

      one : Files
      one = after_end_of plain.files 1

      all : Files
      all = after_ends_of one pids

      all_closed : all ≡ closed_by plain.files 1
      all_closed =
          let made : length plain.files.descriptors ≡ old.procs.last = stands.files.opened.descriptors.made in
          let within = alive_made old 1 stands.kept.holds alive in
          let last : length plain.files.descriptors ≡ suc (mid.procs.last - 1) = (let l = first.last in omega (arith, made, within, l)) in
          sym (ap (λ n. after_ends_of plain.files (range_with_len 1 n)) last)

  pub dies_with_all : (mid new : Objects) (pid status : ℕ) → pid ≡ 1 → AreKept script new → IsAlive (procs_of old) pid → EndsFirst mid pid status → EndsRest mid new (after_end_of plain.files pid)
      → ((class : Class) → counted (counts_of new.heap) class ≤ counted (counts_of old.heap) class) → WorldWithout script new world pid status
  dies_with_all mid new pid status same kept_new alive first rest counts =
      subst (λ n. WorldWithout script new world n status) (sym same)
      (dies_with_one mid new status kept_new (subst (IsAlive (procs_of old)) same alive) (subst (λ n. EndsFirst mid n status) same first)
      (subst (λ n. EndsRest mid new (after_end_of plain.files n)) same rest) counts)
