-- What a core keeps in mind of its tasks holds through an event, and what follows from it.
use Rattle.std.proofs.Common.{◌≡◌, ℕ, zero, suc, ◌+◌, ◌-◌, ◌≤◌, ◌==◌, ◌&&◌, ◌||◌, max, not, Bool, true, false, cond, if◌then◌else◌, List, [], ◌∷◌, ◌++◌, Option, None, Some, filter, refl, ap, sym, ◌∙◌, subst, arith}
use Rattle.std.specs.List.{AllByRecursion, list_all, list_any}
use Rattle.std.proofs.lemmas.Bool.{le-leb}
use Rattle.kabi_types.specs.declared.scripts.Script.{Script}
use Rattle.posix_defs.specs.declared.phases.Asked.{Asked}
use Rattle.posix_defs.specs.declared.phases.Phase.{Phase}
use Rattle.posix_defs.specs.declared.phases.Phase.TheVariants.{User, Waiting, Admitted, Asleep, Stranded, Dead}
use Rattle.posix_defs.specs.declared.phases.Task.{Task}
use Rattle.posix_defs.specs.Plain.{Plain, last_pid}
use Rattle.posix_defs.specs.Process.{is_alive}
use Rattle.posix_defs.specs.CoreState.{CoreState, charged_in, fits, phase_in, some_wait_in_vain, with_phase_in}
use Rattle.posix_defs.specs.CoreEvent.{born, bury, buried, is_dead, stranded, tasks_after, tasks_without}
use Rattle.posix_defs.specs.Ends.{starves_for, vain_need}
use Rattle.posix_defs.specs.SoundTasks.{IsSound, PhaseFits, TaskFits}
use Rattle.kern_laws.proofs.Tasks.{each_append, each_map, each_without}
use Rattle.kern_tasks.specs.Room.{has_event, is_asleep, waits_without}
use Rattle.kern_tasks.specs.Runnable.{is_runnable}
use Rattle.kern_tasks.specs.View.{Has}
use Rattle.kern_tasks.proofs.AllEvents.{AllGo}
use Rattle.kern_tasks.proofs.RoomFits.{room_fits, sleeper_is_alive, some_in_vain}
use Rattle.kern_tasks.proofs.Settled.{all_have}
use Rattle.kern_events.specs.Sleepers.{HaveEvents, NoneDozes, WaitsForAtMost}

-- a fact of the phases of all tasks
abbrev pub Each : (Phase → Type 0) → List Task → Type 0
Each P tasks = AllByRecursion (λ task. P task.phase) tasks

-- one task goes into a phase of which it holds
each_with : (P : Phase → Type 0) (tasks : List Task) (pid : ℕ) (phase : Phase) → P phase → Each P tasks → Each P (with_phase_in tasks pid phase)
each_with P [] pid phase here all = tt
each_with P (task ∷ tasks) pid phase here all = go (each_with P tasks pid phase here all.1) (task.pid == pid)
  where
    go : Each P (with_phase_in tasks pid phase) → (b : Bool)
        → Each P (if b then record task { phase = phase } ∷ tasks else task ∷ with_phase_in tasks pid phase)
    go rest true = (here, all.1)
    go rest false = (all.0, rest)

-- the tasks of processes that have ended go, or are stranded
each_buried : (P : Phase → Type 0) (plain : Plain) (tasks : List Task) → ((p : Phase) → P (stranded p)) → Each P tasks → Each P (buried plain tasks)
each_buried P plain [] left all = tt
each_buried P plain (task ∷ tasks) left all =
    kept (not (is_dead (bury plain task).phase)) (one (is_alive plain.table task.pid)) (each_buried P plain tasks left all.1)
  where
    one : (b : Bool) → P (if b then task else record task { phase = stranded task.phase }).phase
    one true = all.0
    one false = left task.phase

    kept : (b : Bool) → P (bury plain task).phase → Each P (buried plain tasks) → Each P (cond b (bury plain task ∷ buried plain tasks) (buried plain tasks))
    kept true here rest = (here, rest)
    kept false here rest = rest

each_born : (P : Phase → Type 0) (pid count : ℕ) → P User → Each P (born pid count)
each_born P pid zero here = tt
each_born P pid (suc count) here = (here, each_born P (pid + 1) count here)

-- the machine has gone on
each_after : (P : Phase → Type 0) (old new : Plain) (tasks : List Task) → P User → ((p : Phase) → P (stranded p)) → Each P tasks → Each P (tasks_after old new tasks)
each_after P old new tasks user left all =
    each_append (λ task. P task.phase) (buried new tasks) (born (last_pid old + 1) (last_pid new - last_pid old)) (each_buried P new tasks left all)
    (each_born P (last_pid old + 1) (last_pid new - last_pid old) user)

never_waits : (most : ℕ) (p : Phase) → WaitsForAtMost most (stranded p)
never_waits most User = tt
never_waits most (Waiting _) = tt
never_waits most (Admitted _) = tt
never_waits most (Asleep _) = tt
never_waits most (Stranded _) = tt
never_waits most Dead = tt

-- the bounds of calls that wait, where a task goes into another phase
pub waits_with : (most : ℕ) (tasks changed : List Task) (pid : ℕ) (phase : Phase) → WaitsForAtMost most phase → changed ≡ with_phase_in tasks pid phase
    → Each (WaitsForAtMost most) tasks → Each (WaitsForAtMost most) changed
waits_with most tasks changed pid phase here same all = subst (Each (WaitsForAtMost most)) (sym same) (each_with (WaitsForAtMost most) tasks pid phase here all)

at_most_more : (most more : ℕ) → most ≤ more → (p : Phase) → WaitsForAtMost most p → WaitsForAtMost more p
at_most_more most more less (Waiting asked) at = omega arith
at_most_more most more less User at = tt
at_most_more most more less (Admitted _) at = tt
at_most_more most more less (Asleep _) at = tt
at_most_more most more less (Stranded _) at = tt
at_most_more most more less Dead at = tt

-- a greater limit is one too
pub waits_for_more : (most more : ℕ) (tasks : List Task) → most ≤ more → Each (WaitsForAtMost most) tasks → Each (WaitsForAtMost more) tasks
waits_for_more most more tasks less all =
    each_map (λ task. WaitsForAtMost most task.phase) (λ task. WaitsForAtMost more task.phase) tasks (λ task at. at_most_more most more less task.phase at) all

-- a call waits, whose bound the limit takes up
pub waits_too : (most more : ℕ) (tasks changed : List Task) (pid : ℕ) (asked : Asked) → more ≡ max most asked.bound
    → changed ≡ with_phase_in tasks pid (Waiting asked) → Each (WaitsForAtMost most) tasks → Each (WaitsForAtMost more) changed
waits_too most more tasks changed pid asked is same all =
    waits_with more tasks changed pid (Waiting asked) (let above : asked.bound ≤ more = grind arith in above) same
    (waits_for_more most more tasks (let above : most ≤ more = grind arith in above) all)

pub waits_without_one : (most : ℕ) (tasks changed : List Task) (pid : ℕ) → changed ≡ tasks_without tasks pid
    → Each (WaitsForAtMost most) tasks → Each (WaitsForAtMost most) changed
waits_without_one most tasks changed pid same all =
    subst (Each (WaitsForAtMost most)) (sym same) (each_without (λ task. WaitsForAtMost most task.phase) tasks pid all)

pub waits_buried : (most : ℕ) (plain : Plain) (tasks changed : List Task) → changed ≡ buried plain tasks
    → Each (WaitsForAtMost most) tasks → Each (WaitsForAtMost most) changed
waits_buried most plain tasks changed same all =
    subst (Each (WaitsForAtMost most)) (sym same) (each_buried (WaitsForAtMost most) plain tasks (never_waits most) all)

pub waits_after : (most : ℕ) (old new : Plain) (tasks changed : List Task) (pid : ℕ) (phase : Phase) → WaitsForAtMost most phase
    → changed ≡ tasks_after old new (with_phase_in tasks pid phase) → Each (WaitsForAtMost most) tasks → Each (WaitsForAtMost most) changed
waits_after most old new tasks changed pid phase here same all =
    subst (Each (WaitsForAtMost most)) (sym same)
    (each_after (WaitsForAtMost most) old new (with_phase_in tasks pid phase) tt (never_waits most) (each_with (WaitsForAtMost most) tasks pid phase here all))

-- where all that waits fits no call waits in vain
none_without : (room : ℕ) (p : Phase) → WaitsForAtMost room p → waits_without room p ≡ false
none_without room (Waiting asked) at = ap not (le-leb asked.bound room at)
none_without room User at = refl
none_without room (Admitted _) at = refl
none_without room (Asleep _) at = refl
none_without room (Stranded _) at = refl
none_without room Dead at = refl

none_of_all : (room : ℕ) (tasks : List Task) → Each (WaitsForAtMost room) tasks → list_any (λ task. waits_without room task.phase) tasks ≡ false
none_of_all room [] all = refl
none_of_all room (task ∷ tasks) all =
    ap (λ b. b || list_any (λ t. waits_without room t.phase) tasks) (none_without room task.phase all.0) ∙ none_of_all room tasks all.1

pub none_in_vain : (script : Script) (s : CoreState) (room charged : ℕ) (tasks : List Task) → s.tasks ≡ tasks → charged_in s ≡ charged → room + charged ≡ script.heap
    → Each (WaitsForAtMost room) tasks → false ≡ some_wait_in_vain script s
none_in_vain script s room charged tasks are same whole all =
    sym (none_of_all room tasks all) ∙ some_in_vain script s room charged tasks are same whole

-- and the first process doesn't starve
at_most_in : (room : ℕ) (tasks : List Task) (pid : ℕ) → Each (WaitsForAtMost room) tasks → WaitsForAtMost room (phase_in tasks pid)
at_most_in room [] pid all = tt
at_most_in room (task ∷ tasks) pid all = go (at_most_in room tasks pid all.1) (task.pid == pid)
  where
    go : WaitsForAtMost room (phase_in tasks pid) → (b : Bool) → WaitsForAtMost room (if b then task.phase else phase_in tasks pid)
    go later true = all.0
    go later false = later

no_need : (script : Script) (s : CoreState) (room charged : ℕ) → charged_in s ≡ charged → room + charged ≡ script.heap → (p : Phase) → WaitsForAtMost room p
    → vain_need script s p ≡ None
no_need script s room charged same whole (Waiting asked) at =
    ap (λ b. if b then None else Some asked.bound) (sym (room_fits script s room charged asked same whole) ∙ le-leb asked.bound room at)
no_need script s room charged same whole User at = refl
no_need script s room charged same whole (Admitted _) at = refl
no_need script s room charged same whole (Asleep _) at = refl
no_need script s room charged same whole (Stranded _) at = refl
no_need script s room charged same whole Dead at = refl

either_none : {X : Type 0} (b : Bool) (x : Option X) → x ≡ None → (if b then x else None) ≡ None
either_none true x none = none
either_none false x none = refl

pub none_starves : (script : Script) (s : CoreState) (room charged : ℕ) (tasks : List Task) → s.tasks ≡ tasks → charged_in s ≡ charged → room + charged ≡ script.heap
    → Each (WaitsForAtMost room) tasks → None ≡ starves_for script s
none_starves script s room charged tasks are same whole all =
    sym (either_none _ (vain_need script s (phase_in s.tasks 1))
    (no_need script s room charged same whole (phase_in s.tasks 1) (at_most_in room s.tasks 1 (subst (Each (WaitsForAtMost room)) (sym are) all))))

-- where of each that sleeps it is settled that it blocks, each runnable task has an event
unsettled : (b : Bool) → b ≡ true → not (true && b) ≡ true → ⊥
unsettled true e f = cc
unsettled false e f = cc

goes : (script : Script) (plain : Plain) (settled : ℕ → Bool) (room pid : ℕ) (p : Phase) → PhaseFits script plain pid p → (is_asleep p ≡ true → settled pid ≡ true)
    → WaitsForAtMost room p → not (is_asleep p && settled pid) ≡ true → has_event room p ≡ true
goes script plain settled room pid User fits dozes at runs = refl
goes script plain settled room pid (Waiting asked) fits dozes at runs = le-leb asked.bound room at
goes script plain settled room pid (Admitted _) fits dozes at runs = refl
goes script plain settled room pid (Asleep _) fits dozes at runs = absurd (unsettled (settled pid) (dozes refl) runs)
goes script plain settled room pid (Stranded _) fits dozes at runs = refl
goes script plain settled room pid Dead fits dozes at runs = absurd fits

pub all_go_there : (script : Script) (plain : Plain) (settled : ℕ → Bool) (room : ℕ) (tasks : List Task) → AllByRecursion (TaskFits script plain) tasks
    → NoneDozes settled tasks → Each (WaitsForAtMost room) tasks
    → AllByRecursion (λ task. is_runnable settled task ≡ true → has_event room task.phase ≡ true) tasks
all_go_there script plain settled room [] fits dozes at = tt
all_go_there script plain settled room (task ∷ tasks) fits dozes at =
    ((λ runs. goes script plain settled room task.pid task.phase fits.0.phase dozes.0 at.0 runs), all_go_there script plain settled room tasks fits.1 dozes.1 at.1)

-- where each task has an event, the runnable ones have
pub all_awake_there : (settled : ℕ → Bool) (room : ℕ) (tasks : List Task) → list_all (λ task. has_event room task.phase) tasks ≡ true
    → AllByRecursion (λ task. is_runnable settled task ≡ true → has_event room task.phase ≡ true) tasks
all_awake_there settled room [] e = tt
all_awake_there settled room (task ∷ tasks) e = go (has_event room task.phase) refl e (λ f. all_awake_there settled room tasks f)
  where
    go : (b : Bool) → has_event room task.phase ≡ b → (b && list_all (λ t. has_event room t.phase) tasks) ≡ true
        → (list_all (λ t. has_event room t.phase) tasks ≡ true → AllByRecursion (λ t. is_runnable settled t ≡ true → has_event room t.phase ≡ true) tasks)
        → AllByRecursion (λ t. is_runnable settled t ≡ true → has_event room t.phase ≡ true) (task ∷ tasks)
    go true has f later = ((λ runs. has), later f)
    go false has f later = absurd (let wrong : false ≡ true = f in (cc))

-- a task that sleeps is of a process that is alive
asleep_so : (p : Phase) → is_asleep p ≡ true → (asked : Asked) × (p ≡ Asleep asked)
asleep_so (Asleep asked) e = (asked, refl)
asleep_so User e = absurd (cc)
asleep_so (Waiting _) e = absurd (cc)
asleep_so (Admitted _) e = absurd (cc)
asleep_so (Stranded _) e = absurd (cc)
asleep_so Dead e = absurd (cc)

pub sleeper_alive : (script : Script) (s : CoreState) (tasks : List Task) (task : Task) → IsSound script s → s.tasks ≡ tasks → Has tasks task
    → is_asleep task.phase ≡ true → is_alive s.world.plain.table task.pid ≡ true
sleeper_alive script s tasks task sound are has asleep =
    let so = asleep_so task.phase asleep in
    sleeper_is_alive script s tasks task so.0 sound are has so.1

-- the tasks behind a turn, from those that its steps leave
pub turned_tasks : (old new : Plain) (pid before after : ℕ) (phase : Phase) (items placed kept all : List Task) → placed ≡ with_phase_in items pid phase
    → kept ≡ buried new placed → before ≡ last_pid old → after ≡ last_pid new → all ≡ kept ++ born (before + 1) (after - before)
    → all ≡ tasks_after old new (with_phase_in items pid phase)
turned_tasks old new pid before after phase items placed kept all placed_is kept_is before_is after_is all_is =
    let tasks = with_phase_in items pid phase in
    all_is ∙ ap (λ k. k ++ born (before + 1) (after - before)) (kept_is ∙ ap (buried new) placed_is)
    ∙ ap (λ b. buried new tasks ++ born (b + 1) (after - b)) before_is
    ∙ ap (λ a. buried new tasks ++ born (last_pid old + 1) (a - last_pid old)) after_is

-- in a state where each runnable task has an event
pub all_go_in : (script : Script) (s : CoreState) (settled : ℕ → Bool) (charged : ℕ) (tasks : List Task) → charged_in s ≡ charged
    → (have : HaveEvents settled script.heap charged tasks) → AllGo script s have.room (filter (is_runnable settled) tasks)
all_go_in script s settled charged tasks is have = record {
  whole = let whole : have.room + charged ≡ script.heap = have.whole in omega (arith, is);
  all = all_have settled have.room tasks have.all;
}
