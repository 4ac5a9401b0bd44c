-- Lists of tasks after one of them, or all, have changed.
use Rattle.std.proofs.Common.{◌≡◌, ◌≢◌, ℕ, suc, ◌+◌, ◌<◌, ◌≤◌, ◌==◌, if◌then◌else◌, ◌||◌, Bool, true, false, List, [], ◌∷◌, ◌++◌, length, refl, ap, sym, ◌∙◌, subst, arith}
use Rattle.std.specs.List.{AllByRecursion, list_any}
use borrow.Author.Tests.{eqb-true, eq-eqb}
use Rattle.std.proofs.lemmas.List.Sums.{sum_by-cons}
use Rattle.kabi_types.specs.declared.scripts.Script.{Script}
use Rattle.posix_defs.specs.declared.phases.Phase.{Phase}
use Rattle.posix_defs.specs.declared.phases.Phase.TheVariants.{Dead}
use Rattle.posix_defs.specs.declared.phases.Task.{Task}
use Rattle.posix_defs.specs.Plain.{Plain, last_pid}
use Rattle.posix_defs.specs.CoreState.{phase_in, with_phase_in, held, reserved_in}
use Rattle.posix_defs.specs.CoreEvent.{tasks_without}
use Rattle.posix_defs.specs.SoundTasks.{AreRising, PhaseFits, TaskFits}

-- a fact of all tasks of two lists
pub each_append : (P : Task → Type 0) (xs ys : List Task) → AllByRecursion P xs → AllByRecursion P ys → AllByRecursion P (xs ++ ys)
each_append P [] ys all more = more
each_append P (x ∷ xs) ys all more = (all.0, each_append P xs ys all.1 more)

pub each_map : (P Q : Task → Type 0) (xs : List Task) → ((x : Task) → P x → Q x) → AllByRecursion P xs → AllByRecursion Q xs
each_map P Q [] f all = tt
each_map P Q (x ∷ xs) f all = (f x all.0, each_map P Q xs f all.1)

pub each_and : (P Q : Task → Type 0) (xs : List Task) → AllByRecursion P xs → AllByRecursion Q xs → AllByRecursion (λ x. P x × Q x) xs
each_and P Q [] p q = tt
each_and P Q (x ∷ xs) p q = ((p.0, q.0), each_and P Q xs p.1 q.1)

pub rising_lower : (n m : ℕ) (tasks : List Task) → n ≤ m → AreRising m tasks → AreRising n tasks
rising_lower n m [] h rising = tt
rising_lower n m (task ∷ tasks) h rising = (let k : m < task.pid = rising.0 in omega arith, rising.1)

-- the pids of rising tasks are above what they rise from
pub rising_above : (n : ℕ) (tasks : List Task) → AreRising n tasks → AllByRecursion (λ task. n < task.pid) tasks
rising_above n [] rising = tt
rising_above n (task ∷ tasks) rising =
    (rising.0, each_map (λ other. task.pid < other.pid) (λ other. n < other.pid) tasks (λ other above. let k : n < task.pid = rising.0 in let h : task.pid < other.pid = above in omega arith) (rising_above task.pid tasks rising.1))

-- a task in another phase keeps its pid
pub rising_with : (n : ℕ) (tasks : List Task) (pid : ℕ) (phase : Phase) → AreRising n tasks → AreRising n (with_phase_in tasks pid phase)
rising_with n [] pid phase rising = tt
rising_with n (task ∷ tasks) pid phase rising = go (rising_with task.pid tasks pid phase rising.1) (task.pid == pid)
  where
    go : AreRising task.pid (with_phase_in tasks pid phase) → (b : Bool) → AreRising n (if b then record task { phase = phase } ∷ tasks else task ∷ with_phase_in tasks pid phase)
    go rest true = rising
    go rest false = (rising.0, rest)

pub any_with : (tasks : List Task) (pid other : ℕ) (phase : Phase)
    → list_any (λ task. task.pid == other) (with_phase_in tasks pid phase) ≡ list_any (λ task. task.pid == other) tasks
any_with [] pid other phase = refl
any_with (task ∷ tasks) pid other phase = go (any_with tasks pid other phase) (task.pid == pid)
  where
    go : list_any (λ task. task.pid == other) (with_phase_in tasks pid phase) ≡ list_any (λ task. task.pid == other) tasks → (b : Bool) → list_any (λ task. task.pid == other) (if b then record task { phase = phase } ∷ tasks else task ∷ with_phase_in tasks pid phase)
        ≡ list_any (λ task. task.pid == other) (task ∷ tasks)
    go rest true = refl
    go rest false = ap (λ behind. (task.pid == other) || behind) rest

pub length-with : (tasks : List Task) (pid : ℕ) (phase : Phase) → length (with_phase_in tasks pid phase) ≡ length tasks
length-with [] pid phase = refl
length-with (task ∷ tasks) pid phase = go (length-with tasks pid phase) (task.pid == pid)
  where
    go : length (with_phase_in tasks pid phase) ≡ length tasks → (b : Bool) → length (if b then record task { phase = phase } ∷ tasks else task ∷ with_phase_in tasks pid phase) ≡ length (task ∷ tasks)
    go rest true = refl
    go rest false = ap (λ n. suc n) rest

-- what holds of all tasks behind one
others_with : (P Q : Task → Type 0) (pid : ℕ) (rest : List Task) → ((task : Task) → task.pid ≢ pid → P task → Q task)
    → AllByRecursion P rest → AllByRecursion (λ other. pid < other.pid) rest → AllByRecursion Q rest
others_with P Q pid [] others p above = tt
others_with P Q pid (other ∷ rest) others p above =
    (others other (λ e. let k : pid < other.pid = above.0 in absurd (omega (arith, e))) p.0, others_with P Q pid rest others p.1 above.1)

-- what holds of all tasks, where one is in another phase
pub each_with : (P Q : Task → Type 0) (n : ℕ) (tasks : List Task) (pid : ℕ) (phase : Phase) → AreRising n tasks
    → ((task : Task) → task.pid ≢ pid → P task → Q task) → ((task : Task) → task.pid ≡ pid → P task → Q (record task { phase = phase }))
    → AllByRecursion P tasks → AllByRecursion Q (with_phase_in tasks pid phase)
each_with P Q n [] pid phase rising others own all = tt
each_with P Q n (task ∷ tasks) pid phase rising others own all =
    go (each_with P Q task.pid tasks pid phase rising.1 others own all.1) (task.pid == pid) refl
  where
    go : AllByRecursion Q (with_phase_in tasks pid phase) → (b : Bool) → (task.pid == pid) ≡ b
        → AllByRecursion Q (if b then record task { phase = phase } ∷ tasks else task ∷ with_phase_in tasks pid phase)
    go rest true e =
        let same : task.pid ≡ pid = eqb-true task.pid pid e in (
          own task same all.0,
          others_with P Q pid tasks others all.1 (subst (λ p. AllByRecursion (λ other. p < other.pid) tasks) same (rising_above task.pid tasks rising.1)),
        )
    go rest false e = (others task (λ same. absurd (not_equal same e)) all.0, rest)
      where
        not_equal : task.pid ≡ pid → (task.pid == pid) ≡ false → ⊥
        not_equal same f = let g : (task.pid == pid) ≡ true = eq-eqb task.pid pid same in cc

-- what is in reserve, where one task is in another phase
pub reserved_with : (tasks : List Task) (pid : ℕ) (old phase : Phase) → phase_in tasks pid ≡ old → Dead ≢ old
    → reserved_in (with_phase_in tasks pid phase) + held old ≡ reserved_in tasks + held phase
reserved_with [] pid old phase is other = absurd (other is)
reserved_with (task ∷ tasks) pid old phase is other = go (λ e. reserved_with tasks pid old phase e other) (task.pid == pid) is
  where
    go : (phase_in tasks pid ≡ old → reserved_in (with_phase_in tasks pid phase) + held old ≡ reserved_in tasks + held phase) → (b : Bool) → (if b then task.phase else phase_in tasks pid) ≡ old
        → reserved_in (if b then record task { phase = phase } ∷ tasks else task ∷ with_phase_in tasks pid phase) + held old
        ≡ reserved_in (task ∷ tasks) + held phase
    go later true e =
        let before : reserved_in (task ∷ tasks) ≡ held task.phase + reserved_in tasks = sum_by-cons (λ t. held t.phase) task tasks in
        let after : reserved_in (record task { phase = phase } ∷ tasks) ≡ held phase + reserved_in tasks =
        sum_by-cons (λ t. held t.phase) (record task { phase = phase }) tasks in
        let same : held task.phase ≡ held old = ap held e in omega arith
    go later false e =
        let before : reserved_in (task ∷ tasks) ≡ held task.phase + reserved_in tasks = sum_by-cons (λ t. held t.phase) task tasks in
        let after : reserved_in (task ∷ with_phase_in tasks pid phase) ≡ held task.phase + reserved_in (with_phase_in tasks pid phase) =
        sum_by-cons (λ t. held t.phase) task (with_phase_in tasks pid phase) in
        let rest : reserved_in (with_phase_in tasks pid phase) + held old ≡ reserved_in tasks + held phase = later e in
        omega arith

-- the same, where one task goes
pub reserved_without : (tasks : List Task) (pid : ℕ) (old : Phase) → phase_in tasks pid ≡ old → Dead ≢ old
    → reserved_in (tasks_without tasks pid) + held old ≡ reserved_in tasks
reserved_without [] pid old is other = absurd (other is)
reserved_without (task ∷ tasks) pid old is other = go (λ e. reserved_without tasks pid old e other) (task.pid == pid) is
  where
    go : (phase_in tasks pid ≡ old → reserved_in (tasks_without tasks pid) + held old ≡ reserved_in tasks) → (b : Bool) → (if b then task.phase else phase_in tasks pid) ≡ old
        → reserved_in (if b then tasks else task ∷ tasks_without tasks pid) + held old ≡ reserved_in (task ∷ tasks)
    go later true e =
        let before : reserved_in (task ∷ tasks) ≡ held task.phase + reserved_in tasks = sum_by-cons (λ t. held t.phase) task tasks in
        let same : held task.phase ≡ held old = ap held e in omega arith
    go later false e =
        let before : reserved_in (task ∷ tasks) ≡ held task.phase + reserved_in tasks = sum_by-cons (λ t. held t.phase) task tasks in
        let after : reserved_in (task ∷ tasks_without tasks pid) ≡ held task.phase + reserved_in (tasks_without tasks pid) =
        sum_by-cons (λ t. held t.phase) task (tasks_without tasks pid) in
        let rest : reserved_in (tasks_without tasks pid) + held old ≡ reserved_in tasks = later e in
        omega arith

pub rising_without : (n : ℕ) (tasks : List Task) (pid : ℕ) → AreRising n tasks → AreRising n (tasks_without tasks pid)
rising_without n [] pid rising = tt
rising_without n (task ∷ tasks) pid rising = go (rising_without task.pid tasks pid rising.1) (task.pid == pid)
  where
    go : AreRising task.pid (tasks_without tasks pid) → (b : Bool) → AreRising n (if b then tasks else task ∷ tasks_without tasks pid)
    go rest true = let above : n < task.pid = rising.0 in rising_lower n task.pid tasks (omega arith) rising.1
    go rest false = (rising.0, rest)

pub each_without : (P : Task → Type 0) (tasks : List Task) (pid : ℕ) → AllByRecursion P tasks → AllByRecursion P (tasks_without tasks pid)
each_without P [] pid all = tt
each_without P (task ∷ tasks) pid all = go (each_without P tasks pid all.1) (task.pid == pid)
  where
    go : AllByRecursion P (tasks_without tasks pid) → (b : Bool) → AllByRecursion P (if b then tasks else task ∷ tasks_without tasks pid)
    go rest true = all.1
    go rest false = (all.0, rest)

pub any_without : (tasks : List Task) (pid other : ℕ) → other ≢ pid
    → list_any (λ task. task.pid == other) (tasks_without tasks pid) ≡ list_any (λ task. task.pid == other) tasks
any_without [] pid other apart = refl
any_without (task ∷ tasks) pid other apart = go (any_without tasks pid other apart) (task.pid == pid) refl
  where
    elsewhere : (b : Bool) → (task.pid == other) ≡ b → task.pid ≡ pid
        → list_any (λ task. task.pid == other) tasks ≡ b || list_any (λ task. task.pid == other) tasks
    elsewhere true e here = absurd (apart (sym (eqb-true task.pid other e) ∙ here))
    elsewhere false e here = refl

    go : list_any (λ task. task.pid == other) (tasks_without tasks pid) ≡ list_any (λ task. task.pid == other) tasks
        → (b : Bool) → (task.pid == pid) ≡ b
        → list_any (λ task. task.pid == other) (if b then tasks else task ∷ tasks_without tasks pid) ≡ list_any (λ task. task.pid == other) (task ∷ tasks)
    go rest true e = elsewhere (task.pid == other) refl (eqb-true task.pid pid e)
    go rest false e = ap (λ behind. (task.pid == other) || behind) rest

-- a task that is found is as all are
pub found_fits : (script : Script) (plain : Plain) (tasks : List Task) (pid : ℕ) (phase : Phase) → AllByRecursion (TaskFits script plain) tasks
    → phase_in tasks pid ≡ phase → Dead ≢ phase → TaskFits script plain (record { pid = pid; phase = phase })
found_fits script plain [] pid phase all is other = absurd (other is)
found_fits script plain (task ∷ tasks) pid phase all is other =
    go (λ e. found_fits script plain tasks pid phase all.1 e other) (task.pid == pid) refl is
  where
    go : (phase_in tasks pid ≡ phase → TaskFits script plain (record { pid = pid; phase = phase })) → (b : Bool) → (task.pid == pid) ≡ b
        → (if b then task.phase else phase_in tasks pid) ≡ phase → TaskFits script plain (record { pid = pid; phase = phase })
    go later true here e =
        let same : task.pid ≡ pid = eqb-true task.pid pid here in
        record {
          made = subst (λ p. p ≤ last_pid plain) same all.0.made;
          phase = subst (PhaseFits script plain pid) e (subst (λ p. PhaseFits script plain p task.phase) same all.0.phase);
        }
    go later false here e = later e

-- another pid's phase
pub phase_other : (tasks : List Task) (pid other : ℕ) (phase : Phase) → other ≢ pid → phase_in (with_phase_in tasks pid phase) other ≡ phase_in tasks other
phase_other [] pid other phase apart = refl
phase_other (task ∷ tasks) pid other phase apart = go (phase_other tasks pid other phase apart) (task.pid == pid) refl
  where
    elsewhere : task.pid ≡ pid → (b : Bool) → (task.pid == other) ≡ b
        → phase_in (record task { phase = phase } ∷ tasks) other ≡ (if b then task.phase else phase_in tasks other)
    elsewhere here true e = absurd (apart (sym (eqb-true task.pid other e) ∙ here))
    elsewhere here false e = ap (λ b. if b then phase else phase_in tasks other) e

    go : phase_in (with_phase_in tasks pid phase) other ≡ phase_in tasks other → (b : Bool) → (task.pid == pid) ≡ b
        → phase_in (if b then record task { phase = phase } ∷ tasks else task ∷ with_phase_in tasks pid phase) other ≡ phase_in (task ∷ tasks) other
    go rest true e = elsewhere (eqb-true task.pid pid e) (task.pid == other) refl
    go rest false e = ap (λ behind. if task.pid == other then task.phase else behind) rest

-- its own
pub phase_own : (tasks : List Task) (pid : ℕ) (old phase : Phase) → phase_in tasks pid ≡ old → Dead ≢ old → phase_in (with_phase_in tasks pid phase) pid ≡ phase
phase_own [] pid old phase is other = absurd (other is)
phase_own (task ∷ tasks) pid old phase is other = go (λ e. phase_own tasks pid old phase e other) (task.pid == pid) refl is
  where
    go : (phase_in tasks pid ≡ old → phase_in (with_phase_in tasks pid phase) pid ≡ phase) → (b : Bool) → (task.pid == pid) ≡ b
        → (if b then task.phase else phase_in tasks pid) ≡ old
        → phase_in (if b then record task { phase = phase } ∷ tasks else task ∷ with_phase_in tasks pid phase) pid ≡ phase
    go later true e is = ap (λ b. if b then phase else phase_in tasks pid) e
    go later false e is = ap (λ b. if b then task.phase else phase_in (with_phase_in tasks pid phase) pid) e ∙ later is

pub phase_without : (tasks : List Task) (pid other : ℕ) → other ≢ pid → phase_in (tasks_without tasks pid) other ≡ phase_in tasks other
phase_without [] pid other apart = refl
phase_without (task ∷ tasks) pid other apart = go (phase_without tasks pid other apart) (task.pid == pid) refl
  where
    elsewhere : task.pid ≡ pid → (b : Bool) → (task.pid == other) ≡ b → phase_in tasks other ≡ (if b then task.phase else phase_in tasks other)
    elsewhere here true e = absurd (apart (sym (eqb-true task.pid other e) ∙ here))
    elsewhere here false e = refl

    go : phase_in (tasks_without tasks pid) other ≡ phase_in tasks other → (b : Bool) → (task.pid == pid) ≡ b
        → phase_in (if b then tasks else task ∷ tasks_without tasks pid) other ≡ phase_in (task ∷ tasks) other
    go rest true e = elsewhere (eqb-true task.pid pid e) (task.pid == other) refl
    go rest false e = ap (λ behind. if task.pid == other then task.phase else behind) rest

pub phase_front : (xs ys : List Task) (pid : ℕ) (phase : Phase) → phase_in xs pid ≡ phase → Dead ≢ phase → phase_in (xs ++ ys) pid ≡ phase
phase_front [] ys pid phase is other = absurd (other is)
phase_front (x ∷ xs) ys pid phase is other = go (λ e. phase_front xs ys pid phase e other) (x.pid == pid) is
  where
    go : (phase_in xs pid ≡ phase → phase_in (xs ++ ys) pid ≡ phase) → (b : Bool) → (if b then x.phase else phase_in xs pid) ≡ phase
        → (if b then x.phase else phase_in (xs ++ ys) pid) ≡ phase
    go later true e = e
    go later false e = later e
