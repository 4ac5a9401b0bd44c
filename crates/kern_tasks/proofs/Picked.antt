-- The tasks that pass a test, beside their places: what holds of them in turn holds of all, where of the others it is known.
use Rattle.std.proofs.Common.{◌≡◌, ℕ, zero, suc, ◌+◌, ◌-◌, ◌<◌, ◌≤◌, ◌==◌, ◌&&◌, not, Bool, true, false, cond, if◌then◌else◌, List, [], ◌∷◌, ◌++◌, length, drop, filter, Option, None, Some, slice_get, get_or, refl, ap, sym, ◌∙◌, subst, arith}
use Rattle.std.specs.List.{AllByRecursion, count_by, list_all}
use borrow.Author.Tests.{eqb-true}
use Rattle.std.proofs.lemmas.List.Sums.{sum_by-cons}
use Rattle.std.proofs.lemmas.Option.{slice_get-get_or, slice_get_within}
use Rattle.kabi_types.specs.declared.entries.Event.{Event}
use Rattle.kabi_types.specs.declared.scripts.Script.{Script}
use Rattle.posix_defs.specs.declared.phases.Phase.{Phase}
use Rattle.posix_defs.specs.declared.phases.Phase.TheVariants.{Dead}
use Rattle.posix_defs.specs.declared.phases.Task.{Task}
use Rattle.posix_defs.specs.CoreState.{CoreState, phase_in, with_phase_in}
use Rattle.posix_defs.specs.Choice.{events_in, events_of}
use Rattle.kern_tasks.specs.Room.{is_asleep}
use Rattle.kern_tasks.specs.Runnable.{is_runnable, places_from}
use Rattle.kern_tasks.proofs.TaskLoops.{next_task}

-- ---- by places

-- as many places as tasks that pass
pub as_many_places : (passes : Task → Bool) (first : ℕ) (tasks : List Task) → length (places_from passes first tasks) ≡ length (filter passes tasks)
as_many_places passes first [] = refl
as_many_places passes first (task ∷ tasks) = go (passes task) (as_many_places passes (first + 1) tasks)
  where
    go : (b : Bool) → length (places_from passes (first + 1) tasks) ≡ length (filter passes tasks)
        → length (if b then first ∷ places_from passes (first + 1) tasks else places_from passes (first + 1) tasks) ≡ length (cond b (task ∷ filter passes tasks) (filter passes tasks))
    go true same = ap suc same
    go false same = same

-- the task at the place of this number is the one of this number that passes
pub record IsPicked (tasks picked : List Task) (first i place : ℕ) : Type 0 where
  pub from : first ≤ place
  pub same : slice_get tasks (place - first) ≡ slice_get picked i

pub picked_at : (passes : Task → Bool) (first : ℕ) (tasks : List Task) (i place : ℕ) → slice_get (places_from passes first tasks) i ≡ Some place
    → IsPicked tasks (filter passes tasks) first i place
picked_at passes first [] i place e = cc
picked_at passes first (task ∷ tasks) i place e = go (passes task) i e (picked_at passes (first + 1) tasks)
  where
    rest : List ℕ
    rest = places_from passes (first + 1) tasks

    later : (i : ℕ) → slice_get rest i ≡ Some place → ((i place : ℕ) → slice_get rest i ≡ Some place → IsPicked tasks (filter passes tasks) (first + 1) i place)
        → (picked : List Task) (j : ℕ) → slice_get picked j ≡ slice_get (filter passes tasks) i → IsPicked (task ∷ tasks) picked first j place
    later i f more picked j at =
        let it = more i place f in
        let above : first + 1 ≤ place = it.from in
        let next : place - first ≡ suc (place - (first + 1)) = omega arith in
        record { from = omega arith; same = ap (slice_get (task ∷ tasks)) next ∙ it.same ∙ sym at }

    go : (b : Bool) (i : ℕ) → slice_get (if b then first ∷ rest else rest) i ≡ Some place
        → ((i place : ℕ) → slice_get rest i ≡ Some place → IsPicked tasks (filter passes tasks) (first + 1) i place)
        → IsPicked (task ∷ tasks) (cond b (task ∷ filter passes tasks) (filter passes tasks)) first i place
    go true zero f more =
        let here : first ≡ place = (cc) in
        let none : place - first ≡ 0 = omega arith in
        record { from = omega arith; same = ap (slice_get (task ∷ tasks)) none }
    go true (suc i) f more = later i f more (task ∷ filter passes tasks) (suc i) refl
    go false i f more = later i f more (filter passes tasks) i refl

-- where there is no place of a number no task is picked with it
pub none_picked : (passes : Task → Bool) (first : ℕ) (tasks : List Task) (i : ℕ) → slice_get (places_from passes first tasks) i ≡ None → slice_get (filter passes tasks) i ≡ None
none_picked passes first [] i e = refl
none_picked passes first (task ∷ tasks) i e = go (passes task) i e (none_picked passes (first + 1) tasks)
  where
    go : (b : Bool) (i : ℕ) → slice_get (if b then first ∷ places_from passes (first + 1) tasks else places_from passes (first + 1) tasks) i ≡ None
        → ((i : ℕ) → slice_get (places_from passes (first + 1) tasks) i ≡ None → slice_get (filter passes tasks) i ≡ None)
        → slice_get (cond b (task ∷ filter passes tasks) (filter passes tasks)) i ≡ None
    go true zero f more = cc
    go true (suc i) f more = more i f
    go false i f more = more i f

-- each of these places has its task
pub within_tasks : (passes : Task → Bool) (first : ℕ) (tasks : List Task) (i place : ℕ) → slice_get (places_from passes first tasks) i ≡ Some place → place < first + length tasks
within_tasks passes first [] i place e = cc
within_tasks passes first (task ∷ tasks) i place e = go (passes task) i e (within_tasks passes (first + 1) tasks)
  where
    go : (b : Bool) (i : ℕ) → slice_get (if b then first ∷ places_from passes (first + 1) tasks else places_from passes (first + 1) tasks) i ≡ Some place
        → ((i place : ℕ) → slice_get (places_from passes (first + 1) tasks) i ≡ Some place → place < first + 1 + length tasks) → place < first + length (task ∷ tasks)
    go true zero f more = let here : first ≡ place = (cc) in omega arith
    go true (suc i) f more = let h : place < first + 1 + length tasks = more i place f in omega arith
    go false i f more = let h : place < first + 1 + length tasks = more i place f in omega arith

-- ---- by events

-- the events of all tasks are those of the tasks that pass, where no other has one
pub events_picked : (script : Script) (s : CoreState) (passes : Task → Bool) (tasks : List Task)
    → AllByRecursion (λ task. passes task ≡ false → events_of script s task.pid task.phase ≡ []) tasks → events_in script s tasks ≡ events_in script s (filter passes tasks)
events_picked script s passes [] none = refl
events_picked script s passes (task ∷ tasks) none = go (passes task) refl (events_picked script s passes tasks none.1)
  where
    go : (b : Bool) → passes task ≡ b → events_in script s tasks ≡ events_in script s (filter passes tasks)
        → events_of script s task.pid task.phase ++ events_in script s tasks ≡ events_in script s (cond b (task ∷ filter passes tasks) (filter passes tasks))
    go true is same = ap (λ events. events_of script s task.pid task.phase ++ events) same
    go false is same = ap (λ events. events ++ events_in script s tasks) (none.0 is) ∙ same

-- a test holds of all tasks where it does of those that pass, if it does of the others
pub all_picked : (test passes : Task → Bool) (tasks : List Task) → AllByRecursion (λ task. passes task ≡ false → test task ≡ true) tasks
    → list_all test tasks ≡ list_all test (filter passes tasks)
all_picked test passes [] others = refl
all_picked test passes (task ∷ tasks) others = go (passes task) refl (all_picked test passes tasks others.1)
  where
    go : (b : Bool) → passes task ≡ b → list_all test tasks ≡ list_all test (filter passes tasks)
        → (test task && list_all test tasks) ≡ list_all test (cond b (task ∷ filter passes tasks) (filter passes tasks))
    go true is same = ap (λ rest. test task && rest) same
    go false is same = ap (λ b. b && list_all test tasks) (others.0 is) ∙ same

-- ---- a task goes into another phase

-- the places that pass stay, where the task passes in its new phase as it did in its old one
pub places_with : (passes : Task → Bool) (first : ℕ) (tasks : List Task) (pid : ℕ) (phase : Phase)
    → ((task : Task) → task.pid ≡ pid → task.phase ≡ phase_in tasks pid → passes task ≡ passes (record task { phase = phase }))
    → places_from passes first (with_phase_in tasks pid phase) ≡ places_from passes first tasks
places_with passes first [] pid phase same = refl
places_with passes first (task ∷ tasks) pid phase same = go (task.pid == pid) refl (places_with passes (first + 1) tasks pid phase)
  where
    one_pid : (task.pid == pid) ≡ true → task.pid ≡ pid
    one_pid e = eqb-true task.pid pid e

    go : (b : Bool) → (task.pid == pid) ≡ b
        → (((other : Task) → other.pid ≡ pid → other.phase ≡ phase_in tasks pid → passes other ≡ passes (record other { phase = phase }))
        → places_from passes (first + 1) (with_phase_in tasks pid phase) ≡ places_from passes (first + 1) tasks)
        → places_from passes first (if b then record task { phase = phase } ∷ tasks else task ∷ with_phase_in tasks pid phase)
        ≡ (if passes task then first ∷ places_from passes (first + 1) tasks else places_from passes (first + 1) tasks)
    go true is later =
        ap (λ p. if p then first ∷ places_from passes (first + 1) tasks else places_from passes (first + 1) tasks)
        (sym (same task (one_pid is) (sym (ap (λ b. if b then task.phase else phase_in tasks pid) is))))
    go false is later =
        ap (λ rest. if passes task then first ∷ rest else rest)
        (later (λ other own e. same other own (e ∙ sym (ap (λ b. if b then task.phase else phase_in tasks pid) is))))

-- ---- by counts

-- one, where a test holds
abbrev pub one_where : Bool → ℕ
one_where holds = cond holds 1 0

-- one task more
pub counted_one : (test : Task → Bool) (task : Task) (tasks : List Task) → count_by test (task ∷ tasks) ≡ one_where (test task) + count_by test tasks
counted_one test task tasks = sum_by-cons (λ t. one_where (test t)) task tasks

-- so many are counted, and one place further
pub counted_more : (test : Task → Bool) (tasks : List Task) (place count all : ℕ) (d : Task) → place < length tasks → test (get_or tasks place d) ≡ true
    → count + count_by test (drop place tasks) ≡ all → count + 1 + count_by test (drop (place + 1) tasks) ≡ all
counted_more test tasks place count all d within passed so =
    let next = ap (count_by test) (next_task tasks place d within) ∙ counted_one test (get_or tasks place d) (drop (place + 1) tasks) in
    let one : one_where (test (get_or tasks place d)) ≡ 1 = ap (λ b. one_where b) passed in
    omega (arith, next, one, so)

pub counted_past : (test : Task → Bool) (tasks : List Task) (place count all : ℕ) (d : Task) → place < length tasks → test (get_or tasks place d) ≡ false
    → count + count_by test (drop place tasks) ≡ all → count + count_by test (drop (place + 1) tasks) ≡ all
counted_past test tasks place count all d within failed so =
    let next = ap (count_by test) (next_task tasks place d within) ∙ counted_one test (get_or tasks place d) (drop (place + 1) tasks) in
    let none : one_where (test (get_or tasks place d)) ≡ 0 = ap (λ b. one_where b) failed in
    omega (arith, next, none, so)

-- no more pass than there are; and where all do it is as many
pub no_more : (test : Task → Bool) (tasks : List Task) → count_by test tasks ≤ length tasks
no_more test [] = omega arith
no_more test (task ∷ tasks) = subst (λ n. n ≤ length (task ∷ tasks)) (sym (counted_one test task tasks)) (go (test task) (no_more test tasks))
  where
    go : (b : Bool) → count_by test tasks ≤ length tasks → one_where b + count_by test tasks ≤ length (task ∷ tasks)
    go true fewer = omega arith
    go false fewer = omega arith

pub as_many_as_all : (test : Task → Bool) (tasks : List Task) → list_all test tasks ≡ true → count_by test tasks ≡ length tasks
as_many_as_all test [] e = refl
as_many_as_all test (task ∷ tasks) e = counted_one test task tasks ∙ go (test task) e (as_many_as_all test tasks)
  where
    go : (b : Bool) → (b && list_all test tasks) ≡ true → (list_all test tasks ≡ true → count_by test tasks ≡ length tasks)
        → one_where b + count_by test tasks ≡ length (task ∷ tasks)
    go true f rest = let same : count_by test tasks ≡ length tasks = rest f in omega arith
    go false f rest = absurd (let e : false ≡ true = f in (cc))

-- where fewer pass than there are not all do
pub not_as_many : (test : Task → Bool) (tasks : List Task) (count : ℕ) → count ≡ count_by test tasks → count < length tasks → list_all test tasks ≡ false
not_as_many test tasks count is fewer = go (list_all test tasks) refl
  where
    go : (b : Bool) → list_all test tasks ≡ b → list_all test tasks ≡ false
    go true e = absurd (let all : count_by test tasks ≡ length tasks = as_many_as_all test tasks e in omega arith)
    go false e = e

-- Where tasks that sleep and tasks that are runnable are as many as tasks together, none is both: of each that sleeps it is settled.
abbrev dozes : (ℕ → Bool) → Task → Bool
dozes settled task = is_asleep task.phase && is_runnable settled task

together : (settled : ℕ → Bool) (task : Task) → one_where (is_asleep task.phase) + one_where (is_runnable settled task) ≡ 1 + one_where (dozes settled task)
together settled task = go (is_asleep task.phase) (settled task.pid)
  where
    go : (a b : Bool) → one_where a + one_where (not (a && b)) ≡ 1 + one_where (a && not (a && b))
    go true true = refl
    go true false = refl
    go false b = refl

counted_twice : (settled : ℕ → Bool) (tasks : List Task)
    → count_by (λ task. is_asleep task.phase) tasks + length (filter (is_runnable settled) tasks) ≡ length tasks + count_by (dozes settled) tasks
counted_twice settled [] = refl
counted_twice settled (task ∷ tasks) =
    let asleep = counted_one (λ t. is_asleep t.phase) task tasks in
    let both = counted_one (dozes settled) task tasks in
    let one : one_where (is_asleep task.phase) + one_where (is_runnable settled task) ≡ 1 + one_where (dozes settled task) = together settled task in
    let rest : count_by (λ t. is_asleep t.phase) tasks + length (filter (is_runnable settled) tasks) ≡ length tasks + count_by (dozes settled) tasks = counted_twice settled tasks in
    let more : length (filter (is_runnable settled) (task ∷ tasks)) ≡ one_where (is_runnable settled task) + length (filter (is_runnable settled) tasks) = picked (is_runnable settled task) in
    omega arith
  where
    picked : (b : Bool) → length (cond b (task ∷ filter (is_runnable settled) tasks) (filter (is_runnable settled) tasks)) ≡ one_where b + length (filter (is_runnable settled) tasks)
    picked true = (let e : suc (length (filter (is_runnable settled) tasks)) ≡ 1 + length (filter (is_runnable settled) tasks) = omega arith in e)
    picked false = (let e : length (filter (is_runnable settled) tasks) ≡ 0 + length (filter (is_runnable settled) tasks) = omega arith in e)

none_counted : (settled : ℕ → Bool) (tasks : List Task) → count_by (dozes settled) tasks ≡ 0 → AllByRecursion (λ task. dozes settled task ≡ false) tasks
none_counted settled [] e = tt
none_counted settled (task ∷ tasks) e =
    let both = counted_one (dozes settled) task tasks in
    (one (dozes settled task) (omega arith), none_counted settled tasks (omega arith))
  where
    one : (b : Bool) → one_where b ≡ 0 → b ≡ false
    one true f = absurd (omega (arith, f))
    one false f = refl

settled_so : (settled : ℕ → Bool) (tasks : List Task) → AllByRecursion (λ task. dozes settled task ≡ false) tasks
    → AllByRecursion (λ task. is_asleep task.phase ≡ true → settled task.pid ≡ true) tasks
settled_so settled [] none = tt
settled_so settled (task ∷ tasks) none = (one task none.0, settled_so settled tasks none.1)
  where
    go : (a b : Bool) → (a && not (a && b)) ≡ false → a ≡ true → b ≡ true
    go true true f e = refl
    go true false f e = absurd (let g : true ≡ false = f in (cc))
    go false b f e = absurd (let g : false ≡ true = e in (cc))

    one : (task : Task) → dozes settled task ≡ false → is_asleep task.phase ≡ true → settled task.pid ≡ true
    one task f = go (is_asleep task.phase) (settled task.pid) f

pub none_dozes : (settled : ℕ → Bool) (tasks : List Task) (asleep : ℕ) (runnable : List ℕ) → asleep ≡ count_by (λ task. is_asleep task.phase) tasks
    → runnable ≡ places_from (is_runnable settled) 0 tasks → asleep + length runnable ≡ length tasks
    → AllByRecursion (λ task. is_asleep task.phase ≡ true → settled task.pid ≡ true) tasks
none_dozes settled tasks asleep runnable asleep_is runnable_is whole =
    let many : length runnable ≡ length (filter (is_runnable settled) tasks) = ap length runnable_is ∙ as_many_places (is_runnable settled) 0 tasks in
    let twice = counted_twice settled tasks in
    settled_so settled tasks (none_counted settled tasks (omega arith))

-- ---- the task at the place of a number

-- any task
pub nobody : Task
nobody = record { pid = 0; phase = Dead }

pub record IsThere (passes : Task → Bool) (tasks : List Task) (i place : ℕ) : Type 0 where
  pub within : place < length tasks
  pub within_picked : i < length (filter passes tasks)
  pub there : slice_get tasks place ≡ Some (get_or (filter passes tasks) i nobody)

pub is_there : (passes : Task → Bool) (tasks : List Task) (places : List ℕ) (i place : ℕ) → places ≡ places_from passes 0 tasks → slice_get places i ≡ Some place
    → IsThere passes tasks i place
is_there passes tasks places i place same found =
    let at = ap (λ ps. slice_get ps i) (sym same) ∙ found in
    let it = picked_at passes 0 tasks i place at in
    let within : i < length (filter passes tasks) =
    subst (λ n. i < n) (ap length same ∙ as_many_places passes 0 tasks) (slice_get_within places i place found) in
    record {
      within = let h : place < 0 + length tasks = within_tasks passes 0 tasks i place at in omega arith;
      within_picked = within;
      there = ap (slice_get tasks) (let e : place ≡ place - 0 = omega arith in e) ∙ it.same ∙ slice_get-get_or (filter passes tasks) i nobody within;
    }
