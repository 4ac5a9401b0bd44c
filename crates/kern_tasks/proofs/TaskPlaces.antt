-- The place of a pid's task in a list, and what is written there.
use Rattle.std.proofs.Common.{◌≡◌, ℕ, suc, ◌+◌, ◌<◌, ◌≤◌, ◌==◌, Bool, true, false, cond, if◌then◌else◌, List, [], ◌∷◌, length, None, Some, slice_set, slice_index_or, remove, refl, ap, sym, ◌∙◌, subst, arith, zero, take, inl, inr, min}
use Rattle.posix_defs.specs.declared.phases.Phase.{Phase}
use Rattle.posix_defs.specs.declared.phases.Phase.TheVariants.{Dead}
use Rattle.posix_defs.specs.declared.phases.Task.{Task}
use Rattle.posix_defs.specs.CoreState.{with_phase_in, phase_in}
use Rattle.posix_defs.specs.CoreEvent.{tasks_without}
use Rattle.kern_tasks.specs.Places.{place_from}
use Rattle.std.proofs.lemmas.Bool.Decides.{eqb_tells}
use borrow.Author.Tests.{eq-eqb}
use Rattle.posix_defs.specs.SoundTasks.{AreRising}
use Rattle.kern_laws.proofs.Sounds.{old_or_new}

-- The task of a pid is at this place.
pub record IsPlace (tasks : List Task) (pid place : ℕ) : Type 0 where
  pub within : place < length tasks
  pub written : (phase : Phase) (d : Task) → slice_set tasks place (record (slice_index_or tasks place d) { phase = phase }) ≡ with_phase_in tasks pid phase
  pub gone : remove tasks place ≡ tasks_without tasks pid
  pub phase : (d : Task) → (slice_index_or tasks place d).phase ≡ phase_in tasks pid

further : (task : Task) (tasks : List Task) (pid place : ℕ) → (task.pid == pid) ≡ false → IsPlace tasks pid place → IsPlace (task ∷ tasks) pid (suc place)
further task tasks pid place apart is = record {
  within = let h : place < length tasks = is.within in omega arith;
  written = λ phase d. ap (λ rest. task ∷ rest) (is.written phase d)
      ∙ sym (ap (λ b. if b then record task { phase = phase } ∷ tasks else task ∷ with_phase_in tasks pid phase) apart);
  gone = ap (λ rest. task ∷ rest) is.gone ∙ sym (ap (λ b. if b then tasks else task ∷ tasks_without tasks pid) apart);
  phase = λ d. is.phase d ∙ sym (ap (λ b. if b then task.phase else phase_in tasks pid) apart);
}

first : (task : Task) (tasks : List Task) (pid : ℕ) → (task.pid == pid) ≡ true → IsPlace (task ∷ tasks) pid 0
first task tasks pid same = record {
  within = omega arith;
  written = λ phase d. sym (ap (λ b. if b then record task { phase = phase } ∷ tasks else task ∷ with_phase_in tasks pid phase) same);
  gone = sym (ap (λ b. if b then tasks else task ∷ tasks_without tasks pid) same);
  phase = λ d. sym (ap (λ b. if b then task.phase else phase_in tasks pid) same);
}

placed : (tasks : List Task) (pid from place : ℕ) → place_from from tasks pid ≡ Some place
    → (i : ℕ) × (place ≡ from + i) × IsPlace tasks pid i
placed [] pid from place e = cc
placed (task ∷ tasks) pid from place e = go (λ f. placed tasks pid (from + 1) place f) (task.pid == pid) refl e
  where
    go : (place_from (from + 1) tasks pid ≡ Some place → (i : ℕ) × (place ≡ from + 1 + i) × IsPlace tasks pid i)
        → (b : Bool) → (task.pid == pid) ≡ b → cond b (Some from) (place_from (from + 1) tasks pid) ≡ Some place
        → (i : ℕ) × (place ≡ from + i) × IsPlace (task ∷ tasks) pid i
    go later true here f = (0, (let same : from ≡ place = (cc) in let k : place ≡ from + 0 = omega arith in k), first task tasks pid here)
    go later false apart f =
        let found = later f in (suc found.0, (let k : place ≡ from + 1 + found.0 = found.1 in let l : place ≡ from + suc found.0 = omega arith in l), further task tasks pid found.0 apart found.2)

-- where a place was found
pub found_place : (tasks : List Task) (pid place : ℕ) → place_from 0 tasks pid ≡ Some place → IsPlace tasks pid place
found_place tasks pid place e =
    let found = placed tasks pid 0 place e in
    let same : place ≡ found.0 = (let k : place ≡ 0 + found.0 = found.1 in omega arith) in
    subst (IsPlace tasks pid) (sym same) found.2

-- where none was, nothing changes
pub no_place : (tasks : List Task) (pid from : ℕ) (phase : Phase) → place_from from tasks pid ≡ None
    → (tasks ≡ with_phase_in tasks pid phase) × (tasks ≡ tasks_without tasks pid)
no_place [] pid from phase e = (refl, refl)
no_place (task ∷ tasks) pid from phase e = go (λ f. no_place tasks pid (from + 1) phase f) (task.pid == pid) e
  where
    go : (place_from (from + 1) tasks pid ≡ None → (tasks ≡ with_phase_in tasks pid phase) × (tasks ≡ tasks_without tasks pid))
        → (b : Bool) → cond b (Some from) (place_from (from + 1) tasks pid) ≡ None
        → (task ∷ tasks ≡ (if b then record task { phase = phase } ∷ tasks else task ∷ with_phase_in tasks pid phase))
        × (task ∷ tasks ≡ (if b then tasks else task ∷ tasks_without tasks pid))
    go later true f = cc
    go later false f = (ap (λ rest. task ∷ rest) (later f).0, ap (λ rest. task ∷ rest) (later f).1)

pub length-without : (tasks : List Task) (pid : ℕ) → length (tasks_without tasks pid) ≤ length tasks
length-without [] pid = omega arith
length-without (task ∷ tasks) pid = go (task.pid == pid) (length-without tasks pid)
  where
    go : (b : Bool) → length (tasks_without tasks pid) ≤ length tasks → length (if b then tasks else task ∷ tasks_without tasks pid) ≤ length (task ∷ tasks)
    go true less = omega arith
    go false less = omega arith

-- where none was, there is no task
pub no_phase : (tasks : List Task) (pid from : ℕ) → place_from from tasks pid ≡ None → Dead ≡ phase_in tasks pid
no_phase [] pid from e = refl
no_phase (task ∷ tasks) pid from e = go (task.pid == pid) (λ f. no_phase tasks pid (from + 1) f) e
  where
    go : (b : Bool) → (place_from (from + 1) tasks pid ≡ None → Dead ≡ phase_in tasks pid) → cond b (Some from) (place_from (from + 1) tasks pid) ≡ None
        → Dead ≡ cond b task.phase (phase_in tasks pid)
    go true later f = cc
    go false later f = later f

below_it : (a b : ℕ) → a < b → (a == b) ≡ false
below_it a b less = elim (eqb_tells a b) [ inl is ↦ absurd (let same : a ≡ b = is.1 in omega arith) | inr is ↦ is.0 ]

apart : (a b : ℕ) → a < b → (b == a) ≡ false
apart a b less = elim (eqb_tells b a) [ inl is ↦ absurd (let same : b ≡ a = is.1 in omega arith) | inr is ↦ is.0 ]

-- no task is below the pids of those that rise from it
none_above : (tasks : List Task) (pid from below : ℕ) → AreRising below tasks → pid ≤ below → place_from from tasks pid ≡ None
none_above [] pid from below rising less = refl
none_above (task ∷ tasks) pid from below rising less =
    let here : pid < task.pid = (let h : below < task.pid = rising.0 in omega arith) in
    ap (λ b. cond b (Some from) (place_from (from + 1) tasks pid)) (apart pid task.pid here) ∙ none_above tasks pid (from + 1) task.pid rising.1 (omega arith)

-- of tasks whose pids rise the first ones tell the place
pub place_in_front : (tasks : List Task) (pid from below n : ℕ) → AreRising below tasks → pid ≤ below + n
    → place_from from (take n tasks) pid ≡ place_from from tasks pid
place_in_front [] pid from below zero rising less = refl
place_in_front [] pid from below (suc n) rising less = refl
place_in_front (task ∷ tasks) pid from below zero rising less = sym (none_above (task ∷ tasks) pid from below rising (omega arith))
place_in_front (task ∷ tasks) pid from below (suc n) rising less =
    ap (λ rest. cond (task.pid == pid) (Some from) rest)
    (place_in_front tasks pid (from + 1) task.pid n rising.1 (let h : below < task.pid = rising.0 in omega arith))

pub place_in_all : (tasks : List Task) (pid from n : ℕ) → length tasks ≤ n → place_from from (take n tasks) pid ≡ place_from from tasks pid
place_in_all [] pid from zero less = refl
place_in_all [] pid from (suc n) less = refl
place_in_all (task ∷ tasks) pid from zero less = absurd (omega arith)
place_in_all (task ∷ tasks) pid from (suc n) less = ap (λ rest. cond (task.pid == pid) (Some from) rest) (place_in_all tasks pid (from + 1) n (omega arith))

-- of the first ones the last tells its place alone, or none
pub place_before : (tasks : List Task) (pid from n : ℕ) (d : Task) → n < length tasks → ((slice_index_or tasks n d).pid ≡ pid → ⊥)
    → place_from from (take (suc n) tasks) pid ≡ place_from from (take n tasks) pid
place_before [] pid from n d within other = absurd (omega arith)
place_before (task ∷ tasks) pid from zero d within other =
    elim (eqb_tells task.pid pid) [ inl is ↦ absurd (other is.1) | inr is ↦ ap (λ b. cond b (Some from) None) is.0 ]
place_before (task ∷ tasks) pid from (suc n) d within other =
    ap (λ rest. cond (task.pid == pid) (Some from) rest) (place_before tasks pid (from + 1) n d (omega arith) other)

above_here : (tasks : List Task) (n below : ℕ) (d : Task) → AreRising below tasks → n < length tasks → below < (slice_index_or tasks n d).pid
above_here [] n below d rising within = absurd (omega arith)
above_here (task ∷ tasks) zero below d rising within = rising.0
above_here (task ∷ tasks) (suc n) below d rising within =
    let later : task.pid < (slice_index_or tasks n d).pid = above_here tasks n task.pid d rising.1 (omega arith) in
    let h : below < task.pid = rising.0 in omega arith

-- the place of a task whose pid it is
pub place_here : (tasks : List Task) (pid from below n : ℕ) (d : Task) → AreRising below tasks → n < length tasks → (slice_index_or tasks n d).pid ≡ pid
    → place_from from tasks pid ≡ Some (from + n)
place_here [] pid from below n d rising within is = absurd (omega arith)
place_here (task ∷ tasks) pid from below zero d rising within is =
    ap (λ b. cond b (Some from) (place_from (from + 1) tasks pid)) (eq-eqb task.pid pid is) ∙ ap Some (let same : from ≡ from + 0 = omega arith in same)
place_here (task ∷ tasks) pid from below (suc n) d rising within is =
    let later : task.pid < (slice_index_or tasks n d).pid = above_here tasks n task.pid d rising.1 (omega arith) in
    let here : task.pid < pid = omega arith in
    ap (λ b. cond b (Some from) (place_from (from + 1) tasks pid)) (below_it task.pid pid here)
    ∙ place_here tasks pid (from + 1) task.pid n d rising.1 (omega arith) is ∙ ap Some (let same : from + 1 + n ≡ from + suc n = omega arith in same)

min_right : (a b n : ℕ) → b ≤ a → n ≡ min a b → b ≤ 0 + n
min_right a b n less is = grind arith

min_left : (a b n : ℕ) → a < b → n ≡ min a b → a ≤ n
min_left a b n less is = grind arith

pub min_within : (a b n : ℕ) → n ≡ min a b → n ≤ a
min_within a b n is = grind arith

-- as many of the first tasks as the pid says, or all
pub place_near : (tasks : List Task) (pid n : ℕ) → AreRising 0 tasks → n ≡ min (length tasks) pid
    → place_from 0 (take n tasks) pid ≡ place_from 0 tasks pid
place_near tasks pid n rising is = elim (old_or_new pid (length tasks)) [
  | inl few ↦ place_in_front tasks pid 0 0 n rising (min_right (length tasks) pid n few is)
  | inr many ↦ place_in_all tasks pid 0 n (min_left (length tasks) pid n many is)
]
