-- A process goes on at another control.
use Rattle.std.proofs.Common.{◌≡◌, ◌≢◌, ℕ, zero, suc, ◌<◌, ◌≤◌, ◌==◌, Bool, true, false, cond, List, [], ◌∷◌, map, length, Option, None, Some, unwrap_or, refl, ap, sym, ◌∙◌, subst, inl, inr, arith}
use Rattle.std.specs.List.{AllByRecursion}
use Rattle.std.specs.Option.{option_map}
use Rattle.std.proofs.lemmas.Bool.Decides.{eqb_tells}
use Rattle.std.proofs.lemmas.List.{length-set}
use Rattle.kern_laws.proofs.TablePlaces.{get_set_same, get_set_other}
use Rattle.kabi_types.specs.declared.replies.Reply.{Reply}
use Rattle.kabi_types.specs.declared.scripts.Control.{Control}
use Rattle.kabi_types.specs.declared.scripts.Script.{Script}
use Rattle.kheap_slabs.specs.declared.objects.Proc.{Proc}
use Rattle.posix_defs.specs.ByPid.{at_pid, with_pid}
use Rattle.posix_defs.specs.Control.{after, settled}
use Rattle.posix_defs.specs.Memory.{Frames}
use Rattle.posix_defs.specs.Plain.{Plain, at_start, control_of, last_pid, with_control}
use Rattle.posix_defs.specs.Files.State.{Files, with_opening}
use Rattle.posix_defs.specs.World.{World}
use Rattle.prog_ctl.specs.Runnable.{Rests, Stands}
use Rattle.proc_table.specs.Changes.{replaced}
use Rattle.proc_table.specs.Moves.{TableMoves}
use Rattle.proc_numbers.specs.Having.{HaveDescriptors}
use Rattle.proc_table.specs.Procs.{numbers_in, proc_of}
use Rattle.kheap_slabs.specs.Leaves.{HoldLeaves}
use Rattle.proc_table.proofs.LeafEnds.{hold_turned}
use Rattle.proc_table.proofs.OpenLemmas.{have_asleep, have_turned}
use Rattle.proc_table.specs.Opening.{opening_in}
use Rattle.proc_table.specs.Accounting.{HasAccount}
use Rattle.proc_table.specs.Standing.{IsTable}
use Rattle.proc_table.specs.Table.{TableView, processes}
use Rattle.proc_table.proofs.AccountLemmas.{pids_within}
use Rattle.proc_table.proofs.FamilyLemmas.{proc_has_pid}
use Rattle.proc_table.proofs.LawLemmas.{on-account, on-moves, on-procs, on-table, only_one}
use Rattle.proc_table.proofs.OwnLemmas.{AreRising, has_it, rising_procs}
use Rattle.store_objects.proofs.LockedOn.{holds_on, stay_moved}
use Rattle.store_objects.specs.declared.objects.Objects.{Objects}
use Rattle.store_objects.specs.Objects.{AreAtCalls, AreKept, IsAtCall, MovesOn, OneChanges, Runs, procs_of}
use Rattle.store_objects.specs.Standing.{AreProcesses, StandsFor, answered_in}
use Rattle.store_objects.proofs.Keeping.{kept_on, moved_caches}
use Rattle.store_objects.proofs.TreesOn.{tree_on}
use Rattle.store_objects.proofs.Namings.{names_in, names_replaced}
use Rattle.store_objects.proofs.Opening.{by_pids, by_procs, files_moved}

pub some_same : {X : Type 0} (o : Option X) (x y : X) → o ≡ Some x → o ≡ Some y → x ≡ y
some_same o x y e f = cc

-- what all have and the new one has, all have where one is replaced
pub all_replaced : (P : Proc → Type 0) (procs : List Proc) (pid : ℕ) (now : Proc) → AllByRecursion P procs → P now → AllByRecursion P (map (replaced pid now) procs)
all_replaced P [] pid now all it = tt
all_replaced P (proc ∷ procs) pid now all it = (go (proc.pid == pid), all_replaced P procs pid now all.1 it)
  where
    go : (b : Bool) → P (cond b now proc)
    go true = it
    go false = all.0

pid_in : Proc → ℕ
pid_in proc = proc.pid

replaced_pid : (pid : ℕ) (now proc : Proc) → now.pid ≡ pid → pid_in (replaced pid now proc) ≡ proc.pid
unfolding pid_in
replaced_pid pid now proc is = elim (eqb_tells proc.pid pid) [
  | inl same ↦ ap (λ b. pid_in (cond b now proc)) same.0 ∙ is ∙ sym same.1
  | inr other ↦ ap (λ b. pid_in (cond b now proc)) other.0
]

-- who is found where one is replaced
pub replaced_at : (procs : List Proc) (pid : ℕ) (now : Proc) (q : ℕ) → now.pid ≡ pid → proc_of (map (replaced pid now) procs) q ≡ option_map (replaced pid now) (proc_of procs q)
unfolding pid_in
replaced_at [] pid now q is = refl
replaced_at (proc ∷ procs) pid now q is =
    ap (λ n. cond (n == q) (Some (replaced pid now proc)) (proc_of (map (replaced pid now) procs) q)) (replaced_pid pid now proc is)
    ∙ go (proc.pid == q) (replaced_at procs pid now q is)
  where
    go : (b : Bool) → proc_of (map (replaced pid now) procs) q ≡ option_map (replaced pid now) (proc_of procs q)
        → cond b (Some (replaced pid now proc)) (proc_of (map (replaced pid now) procs) q) ≡ option_map (replaced pid now) (cond b (Some proc) (proc_of procs q))
    go true rest = refl
    go false rest = rest

pub mapped_from : (f : Proc → Proc) (o : Option Proc) (proc : Proc) → option_map f o ≡ Some proc → (old : Proc) × (o ≡ Some old) × (proc ≡ f old)
mapped_from f None proc e = cc
mapped_from f (Some old) proc e = (old, refl, some_same (Some proc) proc (f old) refl (sym e))

-- the control of a pid after it was set
pub length-with : (controls : List Control) (pid : ℕ) (control : Control) → length (with_pid controls pid control) ≡ length controls
length-with controls zero control = refl
length-with controls (suc i) control = length-set controls i control

at_itself : (controls : List Control) (pid : ℕ) (control d : Control) → 0 < pid → pid ≤ length controls → unwrap_or (at_pid (with_pid controls pid control) pid) d ≡ control
at_itself controls zero control d h k = absurd (omega arith)
at_itself controls (suc i) control d h k = ap (λ found. unwrap_or found d) (get_set_same controls i control (omega arith))

at_another : (controls : List Control) (pid other : ℕ) (control d : Control) → other ≢ pid → unwrap_or (at_pid (with_pid controls pid control) other) d ≡ unwrap_or (at_pid controls other) d
at_another controls zero other control d apart = refl
at_another controls (suc i) zero control d apart = refl
at_another controls (suc i) (suc j) control d apart = ap (λ found. unwrap_or found d) (get_set_other controls i j control (λ same. apart (ap (λ k. suc k) same)))

-- a process that is there was made
pub proc_made : (script : Script) (objects : Objects) (plain : Plain) (pid : ℕ) (proc : Proc) → AreKept script objects → AreProcesses script objects plain
    → proc_of (procs_of objects) pid ≡ Some proc → (0 < pid) × (pid ≤ last_pid plain)
proc_made script objects plain pid proc kept are is =
    let own : proc.pid ≡ pid = proc_has_pid (procs_of objects) pid proc is in
    let within : (0 < proc.pid) × (proc.pid ≤ objects.procs.last) = has_it (λ p. (0 < p.pid) × (p.pid ≤ objects.procs.last)) (procs_of objects) pid proc
    (pids_within objects.heap.procs objects.procs.listed 0 objects.procs.last kept.holds.stored kept.holds.rising) is in
    let last : objects.procs.last ≡ last_pid plain = are.last in
    (let l : 0 < proc.pid = within.0 in omega arith, let l : proc.pid ≤ objects.procs.last = within.1 in omega arith)

refl_test : (n : ℕ) → (n == n) ≡ true
refl_test n = elim (eqb_tells n n) [ inl same ↦ same.0 | inr other ↦ absurd (other.1 refl) ]

-- the processes of a store stand by rising pid
pub rising_in : (script : Script) (objects : Objects) → AreKept script objects → AreRising 0 (procs_of objects)
rising_in script objects kept = rising_procs objects.heap.procs objects.procs.listed 0 objects.procs.last kept.holds.stored kept.holds.rising

-- ---- one becomes another

-- One process becomes another: its table moves, and all others are as before.
module _ (script : Script) (old new : Objects) (pid : ℕ) (change : Proc → Proc) (kept : AreKept script old) (changes : OneChanges old pid change new) where
  abbrev became : Proc
  became = change changes.proc

  pub procs_changed : procs_of new ≡ map (replaced pid became) (procs_of old)
  procs_changed = ap (processes new.heap) changes.same ∙ on-procs old.heap new.heap old.procs pid changes.key changes.proc became kept.holds changes.turns

  pub moves_changed : TableMoves old.heap old.procs new.heap new.procs
  moves_changed = subst (TableMoves old.heap old.procs new.heap) (sym changes.same) (on-moves old.heap new.heap old.procs pid changes.key changes.proc became kept.holds changes.turns)

  -- what is kept then, where it stands at its call if it runs
  pub kept_changed : (became.status ≡ None → IsAtCall script became) → AreKept script new
  kept_changed at =
      kept_on script old new kept changes.tree changes.names changes.fifos changes.locks moves_changed
      (subst (λ (view : TableView). HoldLeaves new.heap.leaves (processes new.heap view)) (sym changes.same)
      (hold_turned old.heap new.heap old.procs pid changes.key changes.proc became kept.holds changes.turns kept.leaves))
      (subst (AllByRecursion (λ proc. length proc.nodes ≡ 4)) (sym procs_changed)
      (all_replaced (λ proc. length proc.nodes ≡ 4) (procs_of old) pid became kept.groups
      (subst (λ nodes. length nodes ≡ 4) (sym (ap (λ proc. proc.nodes) changes.turns.same))
      (has_it (λ proc. length proc.nodes ≡ 4) (procs_of old) pid changes.proc kept.groups changes.found))))
      (subst (AreAtCalls script) (sym procs_changed) (all_replaced (λ proc. proc.status ≡ None → IsAtCall script proc) (procs_of old) pid became kept.calls at))
      (λ key. ap (names_in key) procs_changed
      ∙ names_replaced key pid changes.proc became (procs_of old) (ap (λ proc. proc.descriptors) changes.turns.same)
      (only_one (procs_of old) 0 pid changes.proc (rising_in script old kept) changes.found))

  -- its descriptors are what they were, where it sleeps in no other open
  pub descriptors_changed : became.opening ≡ changes.proc.opening → (files : Files) (number : ℕ → ℕ) → HaveDescriptors (numbers_in old.heap) number (procs_of old) old.procs.last files → HaveDescriptors (numbers_in new.heap) number (procs_of new) new.procs.last files
  descriptors_changed still files number have =
      subst (λ (procs : TableView). HaveDescriptors (numbers_in new.heap) number (processes new.heap procs) procs.last files) (sym changes.same)
      (by_pids new.heap number (processes new.heap old.procs) old.procs.last files
      (have_turned old.heap new.heap old.procs pid changes.key changes.proc became number files kept.holds changes.turns still
      (by_procs old.heap number (procs_of old) old.procs.last files (rising_in script old kept) have)))

  -- or it sleeps in another open
  pub descriptors_slept : (files : Files) (number : ℕ → ℕ) → HaveDescriptors (numbers_in old.heap) number (procs_of old) old.procs.last files
      → HaveDescriptors (numbers_in new.heap) number (procs_of new) new.procs.last (with_opening files pid (opening_in became))
  descriptors_slept files number have =
      subst (λ (procs : TableView). HaveDescriptors (numbers_in new.heap) number (processes new.heap procs) procs.last (with_opening files pid (opening_in became))) (sym changes.same)
      (by_pids new.heap number (processes new.heap old.procs) old.procs.last (with_opening files pid (opening_in became))
      (have_asleep old.heap new.heap old.procs pid changes.key changes.proc became number files kept.holds changes.turns
      (by_procs old.heap number (procs_of old) old.procs.last files (rising_in script old kept) have)))

  pub account_changed : (frames : Frames) → HasAccount old.heap old.procs frames → HasAccount new.heap new.procs frames
  account_changed frames has =
      subst (λ k. HasAccount new.heap k frames) (sym changes.same) (on-account old.heap new.heap old.procs pid changes.key changes.proc became kept.holds changes.turns frames has)

  -- who is found then, and who it was
  pub found_changed : (q : ℕ) → became.pid ≡ pid → proc_of (procs_of new) q ≡ option_map (replaced pid became) (proc_of (procs_of old) q)
  found_changed q own = ap (λ procs. proc_of procs q) procs_changed ∙ replaced_at (procs_of old) pid became q own

-- ---- it goes on at another control

abbrev at_control : Control → Proc → Proc
at_control control proc = record proc { control = control }

pub procs_then : (script : Script) (old new : Objects) (pid : ℕ) (control : Control) → AreKept script old → (moves : MovesOn old pid control new)
    → procs_of new ≡ map (replaced pid (record moves.proc { control = control })) (procs_of old)
procs_then script old new pid control kept moves = procs_changed script old new pid (at_control control) kept moves

pub moves_then : (script : Script) (old new : Objects) (pid : ℕ) (control : Control) → AreKept script old → MovesOn old pid control new
    → TableMoves old.heap old.procs new.heap new.procs
moves_then script old new pid control kept moves = moves_changed script old new pid (at_control control) kept moves

pub kept_moved : (script : Script) (old new : Objects) (pid : ℕ) (control : Control) → AreKept script old → MovesOn old pid control new
    → Stands script control → Rests script control → AreKept script new
kept_moved script old new pid control kept moves stands rests =
    kept_changed script old new pid (at_control control) kept moves (λ up. record { stands = stands; rests = rests })

pub descriptors_moved : (script : Script) (old new : Objects) (pid : ℕ) (control : Control) (files : Files) → (kept : AreKept script old) → (moves : MovesOn old pid control new)
    → Stands script control → Rests script control → (number : ℕ → ℕ) → HaveDescriptors (numbers_in old.heap) number (procs_of old) old.procs.last files → HaveDescriptors (numbers_in new.heap) number (procs_of new) new.procs.last files
descriptors_moved script old new pid control files kept moves at rests number have = descriptors_changed script old new pid (at_control control) kept moves refl files number have

-- The objects stand for the world in which its control is another, which leads to the new one; those of all others are what they
-- were.
pub goes_to : (script : Script) (old new : Objects) (world : World) (pid : ℕ) (then control : Control) → StandsFor script old world
    → MovesOn old pid control new → Stands script control → Rests script control → settled script then ≡ control
    → StandsFor script new (record world { plain = with_control world.plain pid then })
goes_to script old new world pid then control stands moves at rests leads = record {
  valid = stands.valid;
  kept = kept_moved script old new pid control stands.kept moves at rests;
  processes = record {
    table = subst (λ k. IsTable new.heap k world.plain.table) (sym moves.same)
        (on-table old.heap new.heap old.procs pid moves.key moves.proc now stands.kept.holds moves.turns world.plain.table refl refl stands.processes.table);
    last = ap (λ k. k.last) moves.same ∙ stands.processes.last ∙ sym (length-with world.plain.controls pid then);
    controls = controls;
  };
  memory = account_changed script old new pid (at_control control) stands.kept moves world.account.frames stands.memory;
  files = files_moved old new world.plain.files world.plain.files world.account world.account (moves_then script old new pid control stands.kept moves)
      refl refl refl refl refl (descriptors_moved script old new pid control world.plain.files stands.kept moves at rests) stands.files;
  locks = holds_on old new (stay_moved old new (moves_then script old new pid control stands.kept moves) moves.locks) world.plain.files.locks stands.locks;
  tree = tree_on old new world (record world { plain = with_control world.plain pid then })
      (record { tree = moves.tree; names = moves.names; caches = moved_caches old.heap new.heap old.procs new.procs (moves_then script old new pid control stands.kept moves) })
      refl refl refl refl stands.tree;
  family = stands.family;
  works = stands.works;
}
  where
    now : Proc
    now = record moves.proc { control = control }

    made : (0 < pid) × (pid ≤ last_pid world.plain)
    made = proc_made script old world.plain pid moves.proc stands.kept stands.processes moves.found

    own : now.pid ≡ pid
    own = proc_has_pid (procs_of old) pid moves.proc moves.found

    controls : (q : ℕ) (it : Proc) → proc_of (procs_of new) q ≡ Some it → it.status ≡ None
        → settled script (control_of (with_control world.plain pid then) q) ≡ it.control
    controls q it found runs =
        let was = mapped_from (replaced pid now) (proc_of (procs_of old) q) it
        (sym (found_changed script old new pid (at_control control) stands.kept moves q own) ∙ found) in
        let old_pid : was.0.pid ≡ q = proc_has_pid (procs_of old) q was.0 was.1 in
        elim (eqb_tells q pid) [
          | inl same ↦
              ap (λ n. settled script (control_of (with_control world.plain pid then) n)) same.1
              ∙ ap (settled script) (at_itself world.plain.controls pid then (at_start 0) made.0 made.1)
              ∙ leads ∙ sym (ap (λ p. p.control) (was.2 ∙ ap (λ b. cond b now was.0) (ap (λ n. n == pid) (old_pid ∙ same.1) ∙ refl_test pid)))
          | inr apart ↦
              let same : it ≡ was.0 = was.2 ∙ ap (λ b. cond b now was.0) (ap (λ n. n == pid) old_pid ∙ apart.0) in
              ap (settled script) (at_another world.plain.controls pid q then (at_start 0) apart.1)
              ∙ stands.processes.controls q was.0 was.1 (sym (ap (λ p. p.status) same) ∙ runs) ∙ sym (ap (λ p. p.control) same)
        ]

-- and so the world in which it goes on behind its call
pub goes_on : (script : Script) (old new : Objects) (world : World) (pid : ℕ) (reply : Reply) (control : Control) → StandsFor script old world
    → MovesOn old pid control new → Stands script control → Rests script control → settled script (after script (control_of world.plain pid) reply) ≡ control
    → StandsFor script new (answered_in script world pid reply)
goes_on script old new world pid reply control stands moves at rests leads =
    goes_to script old new world pid (after script (control_of world.plain pid) reply) control stands moves at rests leads

-- who runs at a call stands there
pub at_its_call : (script : Script) (objects : Objects) (pid : ℕ) (control : Control) → AreKept script objects → Runs objects pid control
    → Stands script control × Rests script control
at_its_call script objects pid control kept runs =
    let at = has_it (λ proc. proc.status ≡ None → IsAtCall script proc) (procs_of objects) pid runs.proc kept.calls runs.found runs.up in
    (subst (Stands script) runs.at_call at.stands, subst (Rests script) runs.at_call at.rests)

-- its machine's control leads there
pub led_to : (script : Script) (objects : Objects) (plain : Plain) (pid : ℕ) (control : Control) → Runs objects pid control
    → AreProcesses script objects plain → settled script (control_of plain pid) ≡ control
led_to script objects plain pid control runs are = are.controls pid runs.proc runs.found runs.up ∙ runs.at_call
