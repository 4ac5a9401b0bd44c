-- What a look at the phases of all tasks tells: that not all sleep, or that each has an event, which then stands at the
-- task's own place among the enabled ones.
use Rattle.std.proofs.Common.{◌≡◌, ℕ, zero, suc, ◌+◌, ◌-◌, ◌≤◌, ◌%◌, ◌&&◌, Bool, true, false, if◌then◌else◌, List, [], ◌∷◌, ◌++◌, length, Option, None, Some, slice_get, refl, ap, sym, ◌∙◌, subst, arith, length-append}
use Rattle.std.specs.List.{list_all}
use Rattle.std.specs.Option.{option_to_list}
use Rattle.kabi_types.specs.declared.entries.Event.{Event}
use Rattle.kabi_types.specs.declared.entries.Event.TheVariants.{Ask, Admit, Turn, Abandon}
use Rattle.kabi_types.specs.declared.scripts.Script.{Script}
use Rattle.posix_defs.specs.declared.phases.Phase.{Phase}
use Rattle.posix_defs.specs.declared.phases.Phase.TheVariants.{User, Waiting, Admitted, Asleep, Stranded, Dead}
use Rattle.posix_defs.specs.declared.phases.Task.{Task}
use Rattle.posix_defs.specs.CoreState.{CoreState, charged_in}
use Rattle.posix_defs.specs.Choice.{events_of, events_in, enabled_in, others_in}
use Rattle.posix_defs.specs.Ends.{sleeps_on}
use Rattle.kern_tasks.specs.Room.{has_event, is_asleep}
use Rattle.kern_tasks.specs.View.{Has}
use Rattle.kern_tasks.proofs.RoomFits.{room_fits}
use Rattle.kern_tasks.proofs.TaskLoops.{get_later}

sleeps : (script : Script) (s : CoreState) (pid : ℕ) (phase : Phase) → is_asleep phase ≡ false → sleeps_on script s pid phase ≡ false
sleeps script s pid (Asleep asked) e = cc
sleeps script s pid User e = refl
sleeps script s pid (Waiting asked) e = refl
sleeps script s pid (Admitted asked) e = refl
sleeps script s pid (Stranded asked) e = refl
sleeps script s pid Dead e = refl

-- where a call doesn't sleep not all sleep in vain
pub not_all_asleep : (script : Script) (s : CoreState) (tasks : List Task) → list_all (λ task. is_asleep task.phase) tasks ≡ false
    → list_all (λ task. sleeps_on script s task.pid task.phase) tasks ≡ false
not_all_asleep script s [] e = cc
not_all_asleep script s (task ∷ tasks) e = go (λ f. not_all_asleep script s tasks f) (is_asleep task.phase) refl e
  where
    either : (b : Bool) → (b && false) ≡ false
    either true = refl
    either false = refl

    go : (list_all (λ t. is_asleep t.phase) tasks ≡ false → list_all (λ t. sleeps_on script s t.pid t.phase) tasks ≡ false)
        → (b : Bool) → is_asleep task.phase ≡ b → (b && list_all (λ t. is_asleep t.phase) tasks) ≡ false
        → (sleeps_on script s task.pid task.phase && list_all (λ t. sleeps_on script s t.pid t.phase) tasks) ≡ false
    go later false awake f = ap (λ b. b && list_all (λ t. sleeps_on script s t.pid t.phase) tasks) (sleeps script s task.pid task.phase awake)
    go later true asleep f = ap (λ b. sleeps_on script s task.pid task.phase && b) (later f) ∙ either (sleeps_on script s task.pid task.phase)

-- The state has just so much room, and each of its tasks an event.
pub record AllGo (script : Script) (s : CoreState) (room : ℕ) (tasks : List Task) : Type 0 where
  pub whole : charged_in s + room ≡ script.heap
  pub all : list_all (λ task. has_event room task.phase) tasks ≡ true

both : (a b : Bool) → (a && b) ≡ true → (a ≡ true) × (b ≡ true)
both true true e = (refl, refl)
both true false e = cc
both false true e = cc
both false false e = cc

-- the one event of a task that has one
one_event : (script : Script) (s : CoreState) (room pid : ℕ) (phase : Phase) → charged_in s + room ≡ script.heap → has_event room phase ≡ true
    → (event : Event) × (events_of script s pid phase ≡ event ∷ [])
one_event script s room pid User whole has = (Ask pid, refl)
one_event script s room pid (Waiting asked) whole has =
    let fits = sym (room_fits script s room (charged_in s) asked refl (omega (arith, whole))) ∙ has in
    (Admit pid, ap (λ b. if b then Admit pid ∷ [] else []) fits)
one_event script s room pid (Admitted asked) whole has = (Turn pid, refl)
one_event script s room pid (Asleep asked) whole has = absurd (cc)
one_event script s room pid (Stranded asked) whole has = (Abandon pid, refl)
one_event script s room pid Dead whole has = absurd (cc)

-- so many tasks, so many events
pub as_many : (script : Script) (s : CoreState) (room : ℕ) (tasks : List Task) → AllGo script s room tasks
    → length (events_in script s tasks) ≡ length tasks
as_many script s room [] go = refl
as_many script s room (task ∷ tasks) go =
    let each = both _ _ go.all in
    let one = one_event script s room task.pid task.phase go.whole each.0 in
    ap (λ events. length (events ++ events_in script s tasks)) one.1
    ∙ ap suc (as_many script s room tasks (record { whole = go.whole; all = each.1 }))

-- the event of the task at a place
pub event_there : (script : Script) (s : CoreState) (room : ℕ) (tasks : List Task) (place : ℕ) (task : Task) (rest : List Event)
    → AllGo script s room tasks → slice_get tasks place ≡ Some task
    → (event : Event) × (events_of script s task.pid task.phase ≡ event ∷ []) × (slice_get (events_in script s tasks ++ rest) place ≡ Some event)
event_there script s room [] place task rest go e = absurd (cc)
event_there script s room (first ∷ tasks) zero task rest go e =
    let same : first ≡ task = (cc) in
    let one = one_event script s room first.pid first.phase go.whole (both _ _ go.all).0 in (
      one.0,
      subst (λ t. events_of script s t.pid t.phase ≡ one.0 ∷ []) same one.1,
      ap (λ events. slice_get ((events ++ events_in script s tasks) ++ rest) 0) one.1,
    )
event_there script s room (first ∷ tasks) (suc place) task rest go e =
    let each = both _ _ go.all in
    let one = one_event script s room first.pid first.phase go.whole each.0 in
    let later = event_there script s room tasks place task rest (record { whole = go.whole; all = each.1 }) e in (
      later.0,
      later.1,
      ap (λ events. slice_get ((events ++ events_in script s tasks) ++ rest) (suc place)) one.1 ∙ later.2,
    )

the_same : (answer : Option Event) (event : Event) → option_to_list answer ≡ event ∷ [] → answer ≡ Some event
the_same None event e = cc
the_same (Some told) event e = cc

-- what is told of the task at a place is enabled at that place
pub enabled_there : (script : Script) (s : CoreState) (room : ℕ) (tasks : List Task) (place : ℕ) (task : Task) (answer : Option Event)
    → events_in script s tasks ≡ events_in script s s.tasks → AllGo script s room tasks → slice_get tasks place ≡ Some task → option_to_list answer ≡ events_of script s task.pid task.phase
    → answer ≡ slice_get (enabled_in script s) place
enabled_there script s room tasks place task answer are go found told =
    let there = event_there script s room tasks place task (others_in script s) go found in
    the_same answer there.0 (told ∙ there.1) ∙ sym there.2
    ∙ ap (λ events. slice_get (events ++ others_in script s) place) are

-- behind the tasks' events are those of no process
pub enabled_behind : (script : Script) (s : CoreState) (room : ℕ) (tasks : List Task) (place : ℕ) → events_in script s tasks ≡ events_in script s s.tasks → AllGo script s room tasks
    → length tasks ≤ place → slice_get (others_in script s) (place - length tasks) ≡ slice_get (enabled_in script s) place
enabled_behind script s room tasks place are go behind =
    let many : length (events_in script s tasks) ≡ length tasks = as_many script s room tasks go in
    ap (λ n. slice_get (others_in script s) (place - n)) (sym many)
    ∙ sym (get_later (events_in script s tasks) (others_in script s) place (omega (arith, many)))
    ∙ ap (λ events. slice_get (events ++ others_in script s) place) are

-- so many events there are together
pub all_go_counted : (script : Script) (s : CoreState) (room : ℕ) (tasks : List Task) (others : ℕ) → events_in script s tasks ≡ events_in script s s.tasks → AllGo script s room tasks
    → others ≡ length (others_in script s) → length tasks + others ≡ length (enabled_in script s)
all_go_counted script s room tasks others are go is =
    ap (λ n. n + others) (sym (as_many script s room tasks go)) ∙ ap (λ n. length (events_in script s tasks) + n) is
    ∙ sym (length-append (events_in script s tasks) (others_in script s))
    ∙ ap (λ events. length (events ++ others_in script s)) are

-- where no task is at a place it is behind them all
pub none_there : (tasks : List Task) (place : ℕ) → slice_get tasks place ≡ None → length tasks ≤ place
none_there [] place e = omega arith
none_there (first ∷ tasks) zero e = absurd (cc)
none_there (first ∷ tasks) (suc place) e = let behind : length tasks ≤ place = none_there tasks place e in omega arith

-- so what a number names is the event of a task
pub named_there : (script : Script) (s : CoreState) (room : ℕ) (tasks : List Task) (count others number : ℕ) (task : Task) (answer : Option Event)
    → events_in script s tasks ≡ events_in script s s.tasks → AllGo script s room tasks → count ≡ length tasks → others ≡ length (others_in script s)
    → slice_get tasks (number % (count + others)) ≡ Some task → option_to_list answer ≡ events_of script s task.pid task.phase
    → answer ≡ slice_get (enabled_in script s) (number % length (enabled_in script s))
named_there script s room tasks count others number task answer are go many is found told =
    enabled_there script s room tasks (number % (count + others)) task answer are go found told
    ∙ ap (λ n. slice_get (enabled_in script s) (number % n)) (ap (λ n. n + others) many ∙ all_go_counted script s room tasks others are go is)

-- or one of no process
pub named_behind : (script : Script) (s : CoreState) (room : ℕ) (tasks : List Task) (count others number : ℕ) (answer : Option Event)
    → events_in script s tasks ≡ events_in script s s.tasks → AllGo script s room tasks → count ≡ length tasks → others ≡ length (others_in script s)
    → slice_get tasks (number % (count + others)) ≡ None → (rest : List Event) → rest ≡ others_in script s → answer ≡ slice_get rest (number % (count + others) - count)
    → answer ≡ slice_get (enabled_in script s) (number % length (enabled_in script s))
named_behind script s room tasks count others number answer are go many is none rest same told =
    let place = number % (count + others) in
    told ∙ ap (λ events. slice_get events (place - count)) same ∙ ap (λ n. slice_get (others_in script s) (place - n)) many
    ∙ enabled_behind script s room tasks place are go (none_there tasks place none)
    ∙ ap (λ n. slice_get (enabled_in script s) (number % n)) (ap (λ n. n + others) many ∙ all_go_counted script s room tasks others are go is)

-- what is found at a place is one of the tasks
pub is_one : (tasks seen : List Task) (place : ℕ) (found : Option Task) (task : Task) → seen ≡ tasks → found ≡ slice_get seen place → found ≡ Some task → Has tasks task
is_one tasks seen place found task same is some = record { place = place; is = ap (λ ts. slice_get ts place) (sym same) ∙ sym is ∙ some }
