-- Of the processes that run the lowest behind a pid.
use Rattle.std.proofs.Common.{◌≡◌, ◌≢◌, ◌⊎◌, ℕ, ◌+◌, ◌<◌, ◌≤◌, ◌==◌, ◌&&◌, not, nat_lt, Bool, true, false, cond, List, [], ◌∷◌, length, get_or, drop, Option, None, Some, is_some, refl, ap, sym, ◌∙◌, subst, inl, inr, arith, ltb-true, ltb-false, lt-ltb}
use Rattle.std.proofs.lemmas.Bool.Decides.{eqb_tells}
use Rattle.std.specs.List.{cons_option}
use Rattle.std.proofs.lemmas.List.{at_drop_more, drop_more}
use Rattle.kheap_slabs.specs.Objects.{object}
use Rattle.kheap_slabs.specs.declared.objects.Proc.{Proc}
use Rattle.proc_table.specs.Table.{AreStored, procs_at}
use Rattle.proc_table.specs.declared.places.Place.{Place}
use Rattle.proc_table.proofs.OwnLemmas.{AreRising}
use Rattle.proc_table.proofs.PlaceLemmas.{eqb_other, eqb_same, some_same, stored_is}
use Rattle.process_calls.specs.Endings.{IsLowestBehind}
use Rattle.store_objects.specs.Objects.{is_running}
use Rattle.store_objects.proofs.RunningProcs.{running}

-- the first of these processes that runs and has a higher pid
abbrev pub first_behind : ℕ → List Proc → Option ℕ
first_behind pid [] = None
first_behind pid (proc ∷ procs) = cond (nat_lt pid proc.pid && not (is_some proc.status)) (Some proc.pid) (first_behind pid procs)

-- who is none of them doesn't run
none_low : (procs : List Proc) (before q : ℕ) → AreRising before procs → q ≤ before → is_running procs q ≡ false
none_low [] before q rising low = refl
none_low (proc ∷ procs) before q rising low =
    let other : proc.pid ≢ q = λ same. (let above : before < proc.pid = rising.0 in omega arith) in
    ap (λ b. cond b (not (is_some proc.status)) (is_running procs q)) (eqb_other proc.pid q other)
    ∙ none_low procs proc.pid q rising.1 (let above : before < proc.pid = rising.0 in omega arith)

-- the first doesn't run, or isn't behind: the others are as they would be without it
passes : (proc : Proc) (procs : List Proc) (before pid q : ℕ) → AreRising before (proc ∷ procs) → pid < q → (nat_lt pid proc.pid && not (is_some proc.status)) ≡ false
    → is_running (proc ∷ procs) q ≡ is_running procs q
passes proc procs before pid q rising behind fails = by_pid (eqb_tells proc.pid q)
  where
    over : (b s : Bool) → nat_lt pid proc.pid ≡ b → is_some proc.status ≡ s → (b && not s) ≡ false → proc.pid ≡ q → not (is_some proc.status) ≡ false
    over true true less some e same = ap not some
    over true false less some e same = cc
    over false s less some e same = absurd (let low : proc.pid ≤ pid = ltb-false pid proc.pid less in omega arith)

    by_pid : (((proc.pid == q) ≡ true) × (proc.pid ≡ q)) ⊎ (((proc.pid == q) ≡ false) × (proc.pid ≢ q)) → is_running (proc ∷ procs) q ≡ is_running procs q
    by_pid (inl same) =
        ap (λ b. cond b (not (is_some proc.status)) (is_running procs q)) same.0
        ∙ over (nat_lt pid proc.pid) (is_some proc.status) refl refl fails same.1
        ∙ sym (none_low procs proc.pid q rising.1 (let e : proc.pid ≡ q = same.1 in omega arith))
    by_pid (inr other) = ap (λ b. cond b (not (is_some proc.status)) (is_running procs q)) other.0

-- where there is none nobody behind runs
pub none_behind : (procs : List Proc) (before pid q : ℕ) → AreRising before procs → first_behind pid procs ≡ None → pid < q → is_running procs q ≡ false
none_behind [] before pid q rising none behind = refl
none_behind (proc ∷ procs) before pid q rising none behind =
    by_test (nat_lt pid proc.pid && not (is_some proc.status)) refl (λ rest. none_behind procs proc.pid pid q rising.1 rest behind)
  where
    by_test : (b : Bool) → (nat_lt pid proc.pid && not (is_some proc.status)) ≡ b → (first_behind pid procs ≡ None → is_running procs q ≡ false)
        → is_running (proc ∷ procs) q ≡ false
    by_test true holds later = absurd (let found : Some proc.pid ≡ None = sym (ap (λ b. cond b (Some proc.pid) (first_behind pid procs)) holds) ∙ none in cc)
    by_test false fails later =
        passes proc procs before pid q rising behind fails ∙ later (sym (ap (λ b. cond b (Some proc.pid) (first_behind pid procs)) fails) ∙ none)

-- The one that is found: it is behind and runs, and no lower one does.
record Found (procs : List Proc) (pid found : ℕ) : Type 0 where
  behind : pid < found
  up : is_running procs found ≡ true
  lowest : (q : ℕ) → pid < q → q < found → is_running procs q ≡ false

both : (a b : Bool) → (a && b) ≡ true → (a ≡ true) × (b ≡ true)
both true true e = (refl, refl)
both true false e = cc
both false b e = cc

some_pid : (a b : ℕ) → Some a ≡ Some b → a ≡ b
some_pid a b e = cc

finds : (procs : List Proc) (before pid found : ℕ) → AreRising before procs → first_behind pid procs ≡ Some found → Found procs pid found
finds [] before pid found rising is = cc
finds (proc ∷ procs) before pid found rising is =
    by_test (nat_lt pid proc.pid && not (is_some proc.status)) refl (finds procs proc.pid pid found rising.1)
  where
    here : (nat_lt pid proc.pid && not (is_some proc.status)) ≡ true → proc.pid ≡ found → Found (proc ∷ procs) pid found
    here holds same =
        let tests = both (nat_lt pid proc.pid) (not (is_some proc.status)) holds in
        record {
          behind = subst (λ n. pid < n) same (ltb-true pid proc.pid tests.0);
          up = ap (λ b. cond b (not (is_some proc.status)) (is_running procs found)) (eqb_same proc.pid found same) ∙ tests.1;
          lowest = λ q behind lower.
              ap (λ b. cond b (not (is_some proc.status)) (is_running procs q)) (eqb_other proc.pid q (λ e. omega arith))
              ∙ none_low procs proc.pid q rising.1 (omega arith);
        }

    later : (nat_lt pid proc.pid && not (is_some proc.status)) ≡ false → Found procs pid found → Found (proc ∷ procs) pid found
    later fails rest = record {
      behind = rest.behind;
      up = passes proc procs before pid found rising rest.behind fails ∙ rest.up;
      lowest = λ q behind lower. passes proc procs before pid q rising behind fails ∙ rest.lowest q behind lower;
    }

    by_test : (b : Bool) → (nat_lt pid proc.pid && not (is_some proc.status)) ≡ b → (first_behind pid procs ≡ Some found → Found procs pid found) → Found (proc ∷ procs) pid found
    by_test true holds rest = here holds (some_pid proc.pid found (sym (ap (λ b. cond b (Some proc.pid) (first_behind pid procs)) holds) ∙ is))
    by_test false fails rest = later fails (rest (sym (ap (λ b. cond b (Some proc.pid) (first_behind pid procs)) fails) ∙ is))

pub lowest_behind : (procs : List Proc) (before pid found : ℕ) → AreRising before procs → first_behind pid procs ≡ Some found → IsLowestBehind procs pid found
lowest_behind procs before pid found rising is =
    let it = finds procs before pid found rising is in
    record { behind = it.behind; alive = running procs found it.up; lowest = it.lowest }

abbrev pub no_place : Place
no_place = record { pid = 0; key = 0 }

-- the place that is looked at is that one's
pub finds_here : (objects : List (Option Proc)) (places : List Place) (pid at : ℕ) (proc : Proc) → at < length places
    → AreStored objects (drop at places) → object objects (get_or places at no_place).key ≡ Some proc → pid < (get_or places at no_place).pid → proc.status ≡ None
    → first_behind pid (procs_at objects (drop at places)) ≡ Some (get_or places at no_place).pid
finds_here objects places pid at proc within stored is behind up =
    at_drop_more (λ rest. first_behind pid (procs_at objects rest)) places at no_place within
    ∙ ap (λ o. first_behind pid (cons_option o (procs_at objects (drop (at + 1) places)))) is
    ∙ ap (λ b. cond (b && not (is_some proc.status)) (Some proc.pid) (first_behind pid (procs_at objects (drop (at + 1) places)))) (lt-ltb pid proc.pid (subst (λ n. pid < n) (sym own) behind))
    ∙ ap (λ o. cond (not (is_some o)) (Some proc.pid) (first_behind pid (procs_at objects (drop (at + 1) places)))) up
    ∙ ap Some own
  where
    here : AreStored objects (get_or places at no_place ∷ drop (at + 1) places)
    here = subst (AreStored objects) (drop_more places at no_place within) stored

    own : proc.pid ≡ (get_or places at no_place).pid
    own =
        let stands = stored_is objects (get_or places at no_place) here.0 in
        ap (λ p. p.pid) (some_same (object objects (get_or places at no_place).key) proc stands.proc is stands.is) ∙ stands.pid
