-- Lists of tasks after some of their processes have ended, and others were made.
use Rattle.std.proofs.Common.{◌≡◌, ◌≢◌, ℕ, zero, suc, ◌+◌, ◌<◌, ◌≤◌, ◌==◌, if◌then◌else◌, cond, not, ◌||◌, Bool, true, false, List, [], ◌∷◌, ◌++◌, length, map, filter, refl, ap, sym, ◌∙◌, subst, arith}
use Rattle.std.specs.List.{AllByRecursion, list_any}
use borrow.Author.Tests.{eqb-true, eq-eqb}
use Rattle.std.proofs.lemmas.List.Sums.{sum_by-cons}
use Rattle.kabi_types.specs.declared.scripts.Script.{Script}
use Rattle.posix_defs.specs.declared.phases.Phase.{Phase}
use Rattle.posix_defs.specs.declared.phases.Phase.TheVariants.{User, Waiting, Admitted, Asleep, Stranded, Dead}
use Rattle.posix_defs.specs.declared.phases.Task.{Task}
use Rattle.posix_defs.specs.Process.{is_alive}
use Rattle.posix_defs.specs.Plain.{Plain, last_pid}
use Rattle.posix_defs.specs.CoreState.{held, phase_in, reserved_in}
use Rattle.posix_defs.specs.CoreEvent.{bury, buried, born, is_dead, stranded}
use Rattle.posix_defs.specs.SoundTasks.{AreRising, HasAsked, PhaseFits, TaskFits}
use Rattle.kern_laws.proofs.Tasks.{rising_lower}

-- what is asked for by a phase that the end of its process leaves
abbrev pub StrandedFits : Script → Plain → ℕ → Phase → Type 0
StrandedFits script plain pid (Admitted asked) = HasAsked script plain pid asked
StrandedFits script plain pid (Stranded asked) = HasAsked script plain pid asked
StrandedFits script plain pid _ = Unit {0}

-- what a task has to keep to fit behind a change of the machine, where its process is alive and where it isn't
abbrev pub LeftBy : Script → Plain → Bool → Task → Type 0
LeftBy script plain true task = TaskFits script plain task
LeftBy script plain false task = (task.pid ≤ last_pid plain) × StrandedFits script plain task.pid task.phase

abbrev pub IsLeft : Script → Plain → Task → Type 0
IsLeft script plain task = LeftBy script plain (is_alive plain.table task.pid) task

abbrev is_kept : Task → Bool
is_kept task = not (is_dead task.phase)

kept_fits : (script : Script) (plain : Plain) (pid : ℕ) (phase : Phase) → PhaseFits script plain pid phase → not (is_dead phase) ≡ true
kept_fits script plain pid User fits = refl
kept_fits script plain pid (Waiting _) fits = refl
kept_fits script plain pid (Admitted _) fits = refl
kept_fits script plain pid (Asleep _) fits = refl
kept_fits script plain pid (Stranded _) fits = refl
kept_fits script plain pid Dead fits = absurd fits

-- the task behind the change, by whether its process is alive
abbrev bury_by : Bool → Task → Task
bury_by alive task = if alive then task else record task { phase = stranded task.phase }

-- it goes, or it fits
one_buried : (script : Script) (plain : Plain) (task : Task) (b : Bool) (rest : List Task) → is_alive plain.table task.pid ≡ b → LeftBy script plain b task
    → AllByRecursion (TaskFits script plain) (filter is_kept rest) → AllByRecursion (TaskFits script plain) (filter is_kept (bury_by b task ∷ rest))
one_buried script plain task true rest is fits all =
    subst (λ k. AllByRecursion (TaskFits script plain) (cond k (task ∷ filter is_kept rest) (filter is_kept rest)))
    (sym (kept_fits script plain task.pid task.phase fits.phase)) (fits, all)
one_buried script plain task false rest is fits all = go task.phase fits.1
  where
    go : (phase : Phase) → StrandedFits script plain task.pid phase
        → AllByRecursion (TaskFits script plain) (filter is_kept (record task { phase = stranded phase } ∷ rest))
    go User stays = all
    go (Waiting _) stays = all
    go (Admitted asked) stays = (record { made = fits.0; phase = (is, stays) }, all)
    go (Asleep _) stays = all
    go (Stranded asked) stays = (record { made = fits.0; phase = (is, stays) }, all)
    go Dead stays = all

pub each_buried : (script : Script) (plain : Plain) (tasks : List Task) → AllByRecursion (IsLeft script plain) tasks
    → AllByRecursion (TaskFits script plain) (buried plain tasks)
each_buried script plain [] all = tt
each_buried script plain (task ∷ tasks) all =
    one_buried script plain task (is_alive plain.table task.pid) (map (bury plain) tasks) refl all.0 (each_buried script plain tasks all.1)

-- what is left of rising pids rises
one_rising : (n : ℕ) (task : Task) (b k : Bool) (rest : List Task) → n < task.pid → AreRising task.pid (filter is_kept rest)
    → AreRising n (cond k (bury_by b task ∷ filter is_kept rest) (filter is_kept rest))
one_rising n task true true rest above rising = (above, rising)
one_rising n task false true rest above rising = (above, rising)
one_rising n task b false rest above rising = rising_lower n task.pid (filter is_kept rest) (omega arith) rising

pub rising_buried : (n : ℕ) (plain : Plain) (tasks : List Task) → AreRising n tasks → AreRising n (buried plain tasks)
rising_buried n plain [] rising = tt
rising_buried n plain (task ∷ tasks) rising =
    one_rising n task (is_alive plain.table task.pid) (is_kept (bury plain task)) (map (bury plain) tasks) rising.0 (rising_buried task.pid plain tasks rising.1)

-- nothing in reserve is lost
stranded_holds : (phase : Phase) → held (stranded phase) ≡ held phase
stranded_holds User = refl
stranded_holds (Waiting _) = refl
stranded_holds (Admitted _) = refl
stranded_holds (Asleep _) = refl
stranded_holds (Stranded _) = refl
stranded_holds Dead = refl

bury_holds : (b : Bool) (task : Task) → held (bury_by b task).phase ≡ held task.phase
bury_holds true task = refl
bury_holds false task = stranded_holds task.phase

one_reserved : (task : Task) (rest : List Task) (phase : Phase) → task.phase ≡ phase
    → reserved_in (cond (not (is_dead phase)) (task ∷ rest) rest) ≡ held phase + reserved_in rest
one_reserved task rest phase is = go phase is
  where
    kept : task.phase ≡ phase → reserved_in (task ∷ rest) ≡ held phase + reserved_in rest
    kept same = sum_by-cons (λ t. held t.phase) task rest ∙ ap (λ p. held p + reserved_in rest) same

    go : (p : Phase) → task.phase ≡ p → reserved_in (cond (not (is_dead p)) (task ∷ rest) rest) ≡ held p + reserved_in rest
    go User e = sum_by-cons (λ t. held t.phase) task rest ∙ ap (λ p. held p + reserved_in rest) e
    go (Waiting a) e = sum_by-cons (λ t. held t.phase) task rest ∙ ap (λ p. held p + reserved_in rest) e
    go (Admitted a) e = sum_by-cons (λ t. held t.phase) task rest ∙ ap (λ p. held p + reserved_in rest) e
    go (Asleep a) e = sum_by-cons (λ t. held t.phase) task rest ∙ ap (λ p. held p + reserved_in rest) e
    go (Stranded a) e = sum_by-cons (λ t. held t.phase) task rest ∙ ap (λ p. held p + reserved_in rest) e
    go Dead e = let same : reserved_in rest ≡ 0 + reserved_in rest = omega arith in same

pub reserved_buried : (plain : Plain) (tasks : List Task) → reserved_in (buried plain tasks) ≡ reserved_in tasks
reserved_buried plain [] = refl
reserved_buried plain (task ∷ tasks) =
    one_reserved (bury plain task) (buried plain tasks) (bury plain task).phase refl
    ∙ ap (λ n. n + reserved_in (buried plain tasks)) (bury_holds (is_alive plain.table task.pid) task)
    ∙ ap (λ n. held task.phase + n) (reserved_buried plain tasks)
    ∙ sym (sum_by-cons (λ t. held t.phase) task tasks)

-- who is alive is left
one_any : (script : Script) (plain : Plain) (task : Task) (other : ℕ) (b : Bool) (rest : List Task) → is_alive plain.table task.pid ≡ b
    → LeftBy script plain b task → is_alive plain.table other ≡ true → (found : Bool) → (task.pid == other) ≡ found
    → (found || list_any (λ t. t.pid == other) (filter is_kept rest)) ≡ true
    → list_any (λ t. t.pid == other) (filter is_kept (bury_by b task ∷ rest)) ≡ true
one_any script plain task other true rest is fits alive found e any =
    subst (λ k. list_any (λ t. t.pid == other) (cond k (task ∷ filter is_kept rest) (filter is_kept rest)) ≡ true)
    (sym (kept_fits script plain task.pid task.phase fits.phase))
    (subst (λ f. f || list_any (λ t. t.pid == other) (filter is_kept rest) ≡ true) (sym e) any)
one_any script plain task other false rest is fits alive true e any =
    absurd (let dead : is_alive plain.table other ≡ false = ap (is_alive plain.table) (sym (eqb-true task.pid other e)) ∙ is in let lives = alive in cc)
one_any script plain task other false rest is fits alive false e any = go (is_dead (stranded task.phase))
  where
    go : (dead : Bool) → list_any (λ t. t.pid == other) (cond (not dead) (record task { phase = stranded task.phase } ∷ filter is_kept rest) (filter is_kept rest)) ≡ true
    go true = any
    go false = subst (λ f. f || list_any (λ t. t.pid == other) (filter is_kept rest) ≡ true) (sym e) any

or_more : (found before after : Bool) → (before ≡ true → after ≡ true) → (found || before) ≡ true → (found || after) ≡ true
or_more true before after more e = refl
or_more false before after more e = more e

pub any_buried : (script : Script) (plain : Plain) (tasks : List Task) (other : ℕ) → AllByRecursion (IsLeft script plain) tasks → is_alive plain.table other ≡ true
    → list_any (λ task. task.pid == other) tasks ≡ true → list_any (λ task. task.pid == other) (buried plain tasks) ≡ true
any_buried script plain [] other all alive any = any
any_buried script plain (task ∷ tasks) other all alive any =
    one_any script plain task other (is_alive plain.table task.pid) (map (bury plain) tasks) refl all.0 alive (task.pid == other) refl
    (or_more (task.pid == other) (list_any (λ t. t.pid == other) tasks) (list_any (λ t. t.pid == other) (buried plain tasks))
    (λ e. any_buried script plain tasks other all.1 alive e) any)

pub length-buried : (plain : Plain) (tasks : List Task) → length (buried plain tasks) ≤ length tasks
length-buried plain [] = omega arith
length-buried plain (task ∷ tasks) = go (length-buried plain tasks) (is_kept (bury plain task))
  where
    go : length (buried plain tasks) ≤ length tasks → (k : Bool) → length (cond k (bury plain task ∷ buried plain tasks) (buried plain tasks)) ≤ length (task ∷ tasks)
    go fewer true = omega arith
    go fewer false = omega arith

-- new processes
pub length-born : (pid count : ℕ) → length (born pid count) ≡ count
length-born pid zero = refl
length-born pid (suc count) = ap (λ n. suc n) (length-born (pid + 1) count)

pub reserved_born : (tasks : List Task) (pid count : ℕ) → reserved_in (tasks ++ born pid count) ≡ reserved_in tasks
reserved_born [] pid zero = refl
reserved_born [] pid (suc count) =
    let first = sum_by-cons (λ t. held t.phase) (record { pid = pid; phase = User }) (born (pid + 1) count) in
    let none : reserved_in (born (pid + 1) count) ≡ 0 = reserved_born [] (pid + 1) count in
    let nothing : 0 + reserved_in (born (pid + 1) count) ≡ 0 = omega arith in
    first ∙ nothing
reserved_born (task ∷ tasks) pid count =
    sum_by-cons (λ t. held t.phase) task (tasks ++ born pid count) ∙ ap (λ n. held task.phase + n) (reserved_born tasks pid count)
    ∙ sym (sum_by-cons (λ t. held t.phase) task tasks)

pub rising_born : (n pid count : ℕ) (tasks : List Task) → AreRising n tasks → AllByRecursion (λ task. task.pid < pid) tasks → n < pid
    → AreRising n (tasks ++ born pid count)
rising_born n pid zero [] rising below above = tt
rising_born n pid (suc count) [] rising below above = (above, rising_born pid (pid + 1) count [] tt tt (omega arith))
rising_born n pid count (task ∷ tasks) rising below above = (rising.0, rising_born task.pid pid count tasks rising.1 below.1 below.0)

pub each_born : (script : Script) (plain : Plain) (pid count : ℕ) → pid + count ≤ last_pid plain + 1
    → ((other : ℕ) → pid ≤ other → other < pid + count → is_alive plain.table other ≡ true)
    → AllByRecursion (TaskFits script plain) (born pid count)
each_born script plain pid zero within alive = tt
each_born script plain pid (suc count) within alive = (
  record { made = omega arith; phase = alive pid (omega arith) (omega arith) },
  each_born script plain (pid + 1) count (omega arith) (λ other above below. alive other (omega arith) (omega arith)),
)

pub any_front : (xs ys : List Task) (other : ℕ) → list_any (λ task. task.pid == other) xs ≡ true → list_any (λ task. task.pid == other) (xs ++ ys) ≡ true
any_front [] ys other any = absurd (let e = any in cc)
any_front (x ∷ xs) ys other any =
    or_more (x.pid == other) (list_any (λ t. t.pid == other) xs) (list_any (λ t. t.pid == other) (xs ++ ys)) (λ e. any_front xs ys other e) any

pub any_behind : (xs ys : List Task) (other : ℕ) → list_any (λ task. task.pid == other) ys ≡ true → list_any (λ task. task.pid == other) (xs ++ ys) ≡ true
any_behind [] ys other any = any
any_behind (x ∷ xs) ys other any = go (x.pid == other) (any_behind xs ys other any)
  where
    go : (found : Bool) → list_any (λ t. t.pid == other) (xs ++ ys) ≡ true → (found || list_any (λ t. t.pid == other) (xs ++ ys)) ≡ true
    go true rest = refl
    go false rest = rest

-- what holds of all pids
pub pids_buried : (P : ℕ → Type 0) (plain : Plain) (tasks : List Task) → AllByRecursion (λ task. P task.pid) tasks
    → AllByRecursion (λ task. P task.pid) (buried plain tasks)
pids_buried P plain [] all = tt
pids_buried P plain (task ∷ tasks) all = go (is_alive plain.table task.pid) (is_kept (bury plain task)) (pids_buried P plain tasks all.1)
  where
    go : (b k : Bool) → AllByRecursion (λ t. P t.pid) (buried plain tasks)
        → AllByRecursion (λ t. P t.pid) (cond k (bury_by b task ∷ buried plain tasks) (buried plain tasks))
    go true true rest = (all.0, rest)
    go false true rest = (all.0, rest)
    go b false rest = rest

pub any_born : (pid count other : ℕ) → pid ≤ other → other < pid + count → list_any (λ task. task.pid == other) (born pid count) ≡ true
any_born pid zero other above below = absurd (omega arith)
any_born pid (suc count) other above below =
    go (λ above. any_born (pid + 1) count other above (omega arith)) (pid == other) refl
  where
    no_longer : (pid == other) ≡ false → pid ≡ other → ⊥
    no_longer e same = let f : (pid == other) ≡ true = eq-eqb pid other same in cc

    go : (pid + 1 ≤ other → list_any (λ task. task.pid == other) (born (pid + 1) count) ≡ true) → (found : Bool) → (pid == other) ≡ found
        → (found || list_any (λ task. task.pid == other) (born (pid + 1) count)) ≡ true
    go later true e = refl
    go later false e = later (let apart : pid ≢ other = no_longer e in omega arith)

-- the phase of who is alive stays
pub phase_buried : (plain : Plain) (tasks : List Task) (pid : ℕ) (phase : Phase) → is_alive plain.table pid ≡ true → phase_in tasks pid ≡ phase
    → is_dead phase ≡ false → phase_in (buried plain tasks) pid ≡ phase
phase_buried plain [] pid phase alive is other = is
phase_buried plain (task ∷ tasks) pid phase alive is other =
    go (λ e. phase_buried plain tasks pid phase alive e other) (task.pid == pid) refl (is_alive plain.table task.pid) refl is
  where
    kept : task.phase ≡ phase → not (is_dead task.phase) ≡ true
    kept same = ap (λ p. not (is_dead p)) same ∙ ap not other

    elsewhere : (task.pid == pid) ≡ false → (phase_in (buried plain tasks) pid ≡ phase) → (b k : Bool)
        → phase_in (cond k (bury_by b task ∷ buried plain tasks) (buried plain tasks)) pid ≡ phase
    elsewhere apart rest true true = ap (λ f. if f then task.phase else phase_in (buried plain tasks) pid) apart ∙ rest
    elsewhere apart rest false true = ap (λ f. if f then stranded task.phase else phase_in (buried plain tasks) pid) apart ∙ rest
    elsewhere apart rest b false = rest

    go : (phase_in tasks pid ≡ phase → phase_in (buried plain tasks) pid ≡ phase) → (f : Bool) → (task.pid == pid) ≡ f
        → (b : Bool) → is_alive plain.table task.pid ≡ b → (if f then task.phase else phase_in tasks pid) ≡ phase
        → phase_in (cond (is_kept (bury_by b task)) (bury_by b task ∷ buried plain tasks) (buried plain tasks)) pid ≡ phase
    go later true here true lives e =
        ap (λ k. phase_in (cond k (task ∷ buried plain tasks) (buried plain tasks)) pid) (kept e)
        ∙ ap (λ f. if f then task.phase else phase_in (buried plain tasks) pid) here ∙ e
    go later true here false dead e =
        absurd (let died : is_alive plain.table pid ≡ false = ap (is_alive plain.table) (sym (eqb-true task.pid pid here)) ∙ dead in let lives = alive in cc)
    go later false apart b lives e = elsewhere apart (later e) b (is_kept (bury_by b task))
