-- What the processes are after one has ended.
use Rattle.std.proofs.Common.{◌≡◌, ◌≢◌, ◌⊎◌, ℕ, ◌==◌, Bool, true, false, cond, List, [], ◌∷◌, filter, map, length, Option, None, Some, refl, ap, sym, ◌∙◌, subst, inl, inr}
use Rattle.std.specs.List.{AllByRecursion, cons_option}
use Rattle.std.proofs.lemmas.Bool.Decides.{eqb_tells}
use Rattle.kabi_types.specs.declared.scripts.Control.{Control}
use Rattle.kabi_types.specs.declared.scripts.Script.{Script}
use Rattle.kheap_slabs.specs.declared.objects.Proc.{Proc}
use Rattle.prog_ctl.specs.Runnable.{Rests, Stands}
use Rattle.proc_table.specs.Changes.{cleared, ended, is_alone, is_other, left_behind, left_by, left_child}
use Rattle.proc_table.specs.Moves.{TableMoves}
use Rattle.proc_table.specs.Procs.{HasClosed, no_nodes, proc_of}
use Rattle.kheap_slabs.specs.Heap.{Heap}
use Rattle.kheap_slabs.specs.Leaves.{HoldLeaves}
use Rattle.proc_table.proofs.LeafEnds.{hold_ended}
use Rattle.proc_table.proofs.FamilyLemmas.{left_pid}
use Rattle.proc_table.proofs.OwnLemmas.{all_filter, all_filter_map}
use Rattle.proc_table.proofs.PlaceLemmas.{eqb_other, eqb_same, some_same}
use Rattle.store_objects.specs.declared.objects.Objects.{Objects}
use Rattle.store_objects.specs.Objects.{AreAtCalls, AreKept, IsAtCall, Runs, procs_of}
use Rattle.store_objects.proofs.Keeping.{kept_on}
use Rattle.store_objects.proofs.Namings.{names_ended, names_in}
use Rattle.process_calls.specs.Endings.{shut}
use Rattle.process_calls.proofs.Shutting.{still_shut}
use Rattle.store_objects.proofs.WithoutOne.{found_other}

-- What a process has it has whatever becomes of it: also without memory, as a child of the first, and once it has ended.
pub record Lasts (P : Proc → Type 0) (status : ℕ) : Type 0 where
  pub cleared : (proc : Proc) → P proc → P (record proc { nodes = no_nodes })
  pub moved : (proc : Proc) → P proc → P (record proc { parent = 1 })
  pub over : (proc : Proc) → P proc → P (record proc { status = Some status })

all_cleared : (P : Proc → Type 0) (pid status : ℕ) (procs : List Proc) → Lasts P status → AllByRecursion P procs → AllByRecursion P (map (cleared pid) procs)
all_cleared P pid status [] lasts all = tt
all_cleared P pid status (proc ∷ procs) lasts all = (by_pid (proc.pid == pid), all_cleared P pid status procs lasts all.1)
  where
    by_pid : (b : Bool) → P (cond b (record proc { nodes = no_nodes }) proc)
    by_pid true = lasts.cleared proc all.0
    by_pid false = all.0

left_has : (P : Proc → Type 0) (pid status : ℕ) (proc now : Proc) → Lasts P status → P proc → left_behind pid status proc ≡ Some now → P now
left_has P pid status proc now lasts it is = by_pid (proc.pid == pid) is
  where
    child : (told : Option ℕ) → left_child told proc ≡ Some now → P now
    child None e = subst P (some_same (Some now) (record proc { parent = 1 }) now (sym e) refl) (lasts.moved proc it)
    child (Some over) e = cc

    by_parent : (b : Bool) → cond b (left_child proc.status proc) (Some proc) ≡ Some now → P now
    by_parent true e = child proc.status e
    by_parent false e = subst P (some_same (Some now) proc now (sym e) refl) it

    by_pid : (b : Bool) → cond b (Some (record proc { status = Some status })) (cond (proc.parent == pid) (left_child proc.status proc) (Some proc)) ≡ Some now → P now
    by_pid true e = subst P (some_same (Some now) (record proc { status = Some status }) now (sym e) refl) (lasts.over proc it)
    by_pid false e = by_parent (proc.parent == pid) e

pub all_ended : (P : Proc → Type 0) (pid status : ℕ) (procs : List Proc) → Lasts P status → AllByRecursion P procs → AllByRecursion P (ended pid status procs)
all_ended P pid status procs lasts all = by_alone (is_alone pid procs)
  where
    left : AllByRecursion P (left_by pid status procs)
    left = all_filter_map P P (left_behind pid status) (map (cleared pid) procs) (λ proc now it is. left_has P pid status proc now lasts it is)
        (all_cleared P pid status procs lasts all)

    by_alone : (b : Bool) → AllByRecursion P (cond b (filter (is_other pid) (left_by pid status procs)) (left_by pid status procs))
    by_alone true = all_filter P (is_other pid) (left_by pid status procs) left
    by_alone false = left

-- what the objects keep they keep when a process ends that has nothing open
pub kept_ended : (script : Script) (old new : Objects) (pid status : ℕ) → AreKept script old → new.tree ≡ old.tree → new.names ≡ old.names → new.fifos ≡ old.fifos → new.locks ≡ old.locks → HasClosed (procs_of old) pid → TableMoves old.heap old.procs new.heap new.procs
    → procs_of new ≡ ended pid status (procs_of old) → AreKept script new
kept_ended script old new pid status kept tree names fifos locks closed moves is =
    kept_on script old new kept tree names fifos locks moves
    (subst (HoldLeaves new.heap.leaves) (sym is) (subst (λ leaves. HoldLeaves leaves (ended pid status (procs_of old))) (sym (ap (λ (h : Heap). h.leaves) moves.kept)) (hold_ended old.heap old.procs pid status kept.holds closed kept.leaves)))
    (subst (AllByRecursion (λ proc. length proc.nodes ≡ 4)) (sym is)
    (all_ended (λ proc. length proc.nodes ≡ 4) pid status (procs_of old) (record { cleared = λ proc four. refl; moved = λ proc four. four; over = λ proc four. four }) kept.groups))
    (subst (AreAtCalls script) (sym is)
    (all_ended (λ proc. proc.status ≡ None → IsAtCall script proc) pid status (procs_of old) calls kept.calls))
    (λ key. ap (names_in key) is ∙ names_ended key pid status (procs_of old) kept.holds.light closed)
  where
    here : (proc now : Proc) → now.control ≡ proc.control → IsAtCall script proc → IsAtCall script now
    here proc now same at = record { stands = subst (λ control. Stands script control) (sym same) at.stands; rests = subst (λ control. Rests script control) (sym same) at.rests }

    never : {X : Type 0} (over : ℕ) → Some over ≡ None → X
    never over e = cc

    calls : Lasts (λ proc. proc.status ≡ None → IsAtCall script proc) status
    calls = record {
      cleared = λ proc at up. here proc (record proc { nodes = no_nodes }) refl (at up);
      moved = λ proc at up. here proc (record proc { parent = 1 }) refl (at up);
      over = λ proc at up. never status up;
    }

-- Another that runs, runs on where it stood.
record Still (procs : List Proc) (pid : ℕ) (control : Control) : Type 0 where
  proc : Proc
  found : proc_of procs pid ≡ Some proc
  up : proc.status ≡ None
  at_call : proc.control ≡ control

behind_first : (proc : Proc) (procs : List Proc) (pid : ℕ) (control : Control) → proc.pid ≢ pid → Still procs pid control → Still (proc ∷ procs) pid control
behind_first proc procs pid control other still = record {
  proc = still.proc;
  found = ap (λ b. cond b (Some proc) (proc_of procs pid)) (eqb_other proc.pid pid other) ∙ still.found;
  up = still.up;
  at_call = still.at_call;
}

still_left : (procs : List Proc) (gone status pid : ℕ) (proc : Proc) → pid ≢ gone → proc_of procs pid ≡ Some proc → proc.status ≡ None
    → Still (left_by gone status procs) pid proc.control
still_left [] gone status pid proc apart is up = cc
still_left (first ∷ procs) gone status pid proc apart is up =
    by_pid (eqb_tells first.pid pid) (λ found. still_left procs gone status pid proc apart found up)
  where
    at_first : (now : Proc) → now.pid ≡ pid → now.status ≡ None → now.control ≡ first.control → first.control ≡ proc.control → Still (now ∷ left_by gone status procs) pid proc.control
    at_first now own runs same it = record {
      proc = now;
      found = ap (λ b. cond b (Some now) (proc_of (left_by gone status procs) pid)) (eqb_same now.pid pid own);
      up = runs;
      at_call = same ∙ it;
    }

    child : (told : Option ℕ) → told ≡ None → first.pid ≡ pid → first.status ≡ None → first.control ≡ proc.control
        → Still (cons_option (left_child told first) (left_by gone status procs)) pid proc.control
    child None e own runs it = at_first (record first { parent = 1 }) own runs refl it
    child (Some over) e own runs it = cc

    by_parent : (b : Bool) → first.pid ≡ pid → first.status ≡ None → first.control ≡ proc.control
        → Still (cons_option (cond b (left_child first.status first) (Some first)) (left_by gone status procs)) pid proc.control
    by_parent true own runs it = child first.status runs own runs it
    by_parent false own runs it = at_first first own runs refl it

    here : first.pid ≡ pid → first ≡ proc → Still (left_by gone status (first ∷ procs)) pid proc.control
    here own same =
        let other : (first.pid == gone) ≡ false = eqb_other first.pid gone (λ e. apart (sym own ∙ e)) in
        subst (λ p. Still (cons_option (left_behind gone status p) (left_by gone status procs)) pid proc.control)
        (sym (ap (λ b. cond b (record first { nodes = no_nodes }) first) other))
        (subst (λ b. Still (cons_option (cond b (Some (record first { status = Some status })) (cond (first.parent == gone) (left_child first.status first) (Some first))) (left_by gone status procs)) pid proc.control)
        (sym other)
        (by_parent (first.parent == gone) own (ap (λ p. p.status) same ∙ up) (ap (λ p. p.control) same)))

    behind : (now : Proc) (o : Option Proc) → left_behind gone status now ≡ o → now.pid ≢ pid → Still (left_by gone status procs) pid proc.control
        → Still (cons_option o (left_by gone status procs)) pid proc.control
    behind now None left other still = still
    behind now (Some after) left other still = behind_first after (left_by gone status procs) pid proc.control (λ same. other (sym (left_pid gone status now after left) ∙ same)) still

    cleared_pid : (b : Bool) → (cond b (record first { nodes = no_nodes }) first).pid ≡ first.pid
    cleared_pid true = refl
    cleared_pid false = refl

    by_pid : (((first.pid == pid) ≡ true) × (first.pid ≡ pid)) ⊎ (((first.pid == pid) ≡ false) × (first.pid ≢ pid))
        → (proc_of procs pid ≡ Some proc → Still (left_by gone status procs) pid proc.control) → Still (left_by gone status (first ∷ procs)) pid proc.control
    by_pid (inl same) later = here same.1 (some_same (proc_of (first ∷ procs) pid) first proc (ap (λ b. cond b (Some first) (proc_of procs pid)) same.0) is)
    by_pid (inr other) later =
        behind (cleared gone first) (left_behind gone status (cleared gone first)) refl (λ same. other.1 (sym (cleared_pid (first.pid == gone)) ∙ same))
        (later (sym (ap (λ b. cond b (Some first) (proc_of procs pid)) other.0) ∙ is))

still_ended : (procs : List Proc) (gone status pid : ℕ) (control : Control) → pid ≢ gone → Still (left_by gone status procs) pid control → Still (ended gone status procs) pid control
still_ended procs gone status pid control apart still = by_alone (is_alone gone procs)
  where
    by_alone : (b : Bool) → Still (cond b (filter (is_other gone) (left_by gone status procs)) (left_by gone status procs)) pid control
    by_alone true = record {
      proc = still.proc;
      found = found_other (left_by gone status procs) gone pid apart ∙ still.found;
      up = still.up;
      at_call = still.at_call;
    }
    by_alone false = still

pub runs_ended : (old new : Objects) (gone status pid : ℕ) (control : Control) → pid ≢ gone → procs_of new ≡ ended gone status (map (shut gone) (procs_of old))
    → Runs old pid control → Runs new pid control
runs_ended old new gone status pid control apart is runs =
    let before = still_shut gone (procs_of old) pid runs.proc apart runs.found in
    let still : Still (procs_of new) pid runs.proc.control =
    subst (λ procs. Still procs pid runs.proc.control) (sym is)
    (still_ended (map (shut gone) (procs_of old)) gone status pid runs.proc.control apart
    (still_left (map (shut gone) (procs_of old)) gone status pid runs.proc apart before runs.up)) in
    record { proc = still.proc; found = still.found; up = still.up; at_call = still.at_call ∙ runs.at_call }
