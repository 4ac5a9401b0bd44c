-- The loops over the tasks, which pass the events that may be taken, one after another.
use Rattle.std.proofs.Common.{◌≡◌, ℕ, ◌+◌, ◌≤◌, ◌<◌, ◌&&◌, Bool, true, false, cond, List, [], ◌∷◌, ◌++◌, length, drop, filter, get_or, Option, None, Some, slice_get, refl, ap, sym, ◌∙◌, arith, append_assoc, length-append, add-one, zero, suc, ◌-◌, IfSome}
use Rattle.std.specs.List.{list_all}
use Rattle.std.specs.Option.{is_some, option_to_list}
use Rattle.std.proofs.Math.Seq.{drop-cons}
use Rattle.std.proofs.lemmas.List.{drop_all}
use Rattle.std.proofs.lemmas.Option.{slice_get-get_or}
use Rattle.kabi_types.specs.declared.entries.Event.{Event}
use Rattle.kabi_types.specs.declared.scripts.Script.{Script}
use Rattle.posix_defs.specs.declared.phases.Task.{Task}
use Rattle.posix_defs.specs.CoreState.{CoreState}
use Rattle.posix_defs.specs.World.{World}
use Rattle.posix_defs.specs.SoundTasks.{IsSound}
use Rattle.posix_defs.specs.Choice.{asks_nothing, events_of, events_in, enabled_in, named_by, others_in}
use Rattle.kern_laws.proofs.EnabledEvents.{enabled, get_behind}
use Rattle.kern_laws.proofs.Picking.{named_is_enabled}
use Rattle.kern_laws.proofs.Sounds.{is_sound}
use Rattle.kern_tasks.specs.View.{CoreView, IsAt, GoesOn, Has, HasRun, CanTake}

-- the tasks from a place on begin with the one at the place
pub next_task : (tasks : List Task) (place : ℕ) (d : Task) → place < length tasks → drop place tasks ≡ get_or tasks place d ∷ drop (place + 1) tasks
next_task tasks place d within = drop-cons tasks place d within ∙ ap (λ next. get_or tasks place d ∷ drop next tasks) (sym (add-one place))

-- the task at a place is one of them
pub one_there : (tasks seen : List Task) (place : ℕ) (d : Task) → seen ≡ tasks → place < length seen → Has tasks (get_or seen place d)
one_there tasks seen place d same within = record { place = place; is = ap (λ ts. slice_get ts place) (sym same) ∙ slice_get-get_or seen place d within }

-- where a test holds of the task at a place, it holds of all from there on if it does of all behind; where it doesn't, not of all
pub all_behind : (test : Task → Bool) (tasks : List Task) (place : ℕ) (d : Task) (all : Bool) → place < length tasks → test (get_or tasks place d) ≡ true
    → list_all test (drop place tasks) ≡ all → list_all test (drop (place + 1) tasks) ≡ all
all_behind test tasks place d all within here rest =
    sym (ap (list_all test) (next_task tasks place d within) ∙ ap (λ b. b && list_all test (drop (place + 1) tasks)) here) ∙ rest

pub not_all_here : (test : Task → Bool) (tasks : List Task) (place : ℕ) (d : Task) (all : Bool) → place < length tasks → test (get_or tasks place d) ≡ false
    → list_all test (drop place tasks) ≡ all → false ≡ all
not_all_here test tasks place d all within here rest =
    sym (ap (list_all test) (next_task tasks place d within) ∙ ap (λ b. b && list_all test (drop (place + 1) tasks)) here) ∙ rest

-- so many of a state's enabled events are those of the tasks before this place
pub record Passed (script : Script) (s : CoreState) (tasks : List Task) (place before : ℕ) : Type 0 where
  pub front : List Event
  pub many : length front ≡ before
  pub rest : enabled_in script s ≡ front ++ (events_in script s (drop place tasks) ++ others_in script s)

-- nothing is passed at the beginning
pub passed_none : (script : Script) (s : CoreState) (tasks : List Task) → events_in script s tasks ≡ events_in script s s.tasks → Passed script s tasks 0 0
passed_none script s tasks same = record { front = []; many = refl; rest = ap (λ events. events ++ others_in script s) (sym same) }

-- one place further
pub passed_more : (script : Script) (s : CoreState) (tasks : List Task) (place before : ℕ) (event : Option Event) (d : Task) → place < length tasks
    → (let task = get_or tasks place d in option_to_list event ≡ events_of script s task.pid task.phase) → Passed script s tasks place before
    → Passed script s tasks (place + 1) (before + length (option_to_list event))
passed_more script s tasks place before event d within is passed =
    let later = events_in script s (drop (place + 1) tasks) in
    let others = others_in script s in
    record {
      front = passed.front ++ option_to_list event;
      many = length-append passed.front (option_to_list event) ∙ ap (λ n. n + length (option_to_list event)) passed.many;
      rest = passed.rest ∙ ap (λ ts. passed.front ++ (events_in script s ts ++ others)) (next_task tasks place d within)
          ∙ ap (λ here. passed.front ++ ((here ++ later) ++ others)) (sym is)
          ∙ ap (λ rest. passed.front ++ rest) (append_assoc (option_to_list event) later others)
          ∙ sym (append_assoc passed.front (option_to_list event) (later ++ others));
    }

-- the event at a place, where so many were passed
pub event_at : (script : Script) (s : CoreState) (tasks : List Task) (place before : ℕ) (event : Event) (d : Task) → place < length tasks
    → (let task = get_or tasks place d in event ∷ [] ≡ events_of script s task.pid task.phase) → Passed script s tasks place before
    → Some event ≡ slice_get (enabled_in script s) before
event_at script s tasks place before event d within is passed =
    let later = events_in script s (drop (place + 1) tasks) in
    let others = others_in script s in
    sym (ap (λ events. slice_get events before)
    (passed.rest ∙ ap (λ ts. passed.front ++ (events_in script s ts ++ others)) (next_task tasks place d within)
    ∙ ap (λ here. passed.front ++ ((here ++ later) ++ others)) (sym is))
    ∙ ap (slice_get (passed.front ++ event ∷ (later ++ others))) (sym passed.many) ∙ get_behind passed.front event (later ++ others))

-- behind all tasks the events of no process are left
pub only_others : (script : Script) (s : CoreState) (tasks : List Task) (place before : ℕ) → length tasks ≤ place
    → (passed : Passed script s tasks place before) → enabled_in script s ≡ passed.front ++ others_in script s
only_others script s tasks place before out passed =
    passed.rest ∙ ap (λ ts. passed.front ++ (events_in script s ts ++ others_in script s)) (drop_all place tasks out)

-- behind so many events others are found
pub get_later : (front others : List Event) (i : ℕ) → length front ≤ i → slice_get (front ++ others) i ≡ slice_get others (i - length front)
get_later [] others i out = ap (slice_get others) (let same : i ≡ i - 0 = omega arith in same)
get_later (x ∷ front) others zero out = absurd (omega arith)
get_later (x ∷ front) others (suc i) out =
    get_later front others i (omega arith) ∙ ap (slice_get others) (let same : i - length front ≡ suc i - length (x ∷ front) = omega arith in same)

-- the next ones are these
pub other_at : (script : Script) (s : CoreState) (tasks : List Task) (place before i : ℕ) → length tasks ≤ place → before ≤ i
    → Passed script s tasks place before → slice_get (others_in script s) (i - before) ≡ slice_get (enabled_in script s) i
other_at script s tasks place before i out within passed =
    let many : length passed.front ≡ before = passed.many in
    sym (ap (λ events. slice_get events i) (only_others script s tasks place before out passed)
    ∙ get_later passed.front (others_in script s) i (omega arith) ∙ ap (λ n. slice_get (others_in script s) (i - n)) many)

-- and so many they are together
pub all_counted : (script : Script) (s : CoreState) (tasks : List Task) (place before others : ℕ) → length tasks ≤ place
    → others ≡ length (others_in script s) → Passed script s tasks place before → before + others ≡ length (enabled_in script s)
all_counted script s tasks place before others out is passed =
    sym (ap length (only_others script s tasks place before out passed) ∙ length-append passed.front (others_in script s)
    ∙ ap (λ n. n + length (others_in script s)) passed.many ∙ ap (λ n. before + n) (sym is))

-- what is found among the enabled events may be taken
pub can_take : {T : Type 0} (stands_for : T → World → Type 0) (script : Script) (core : CoreView T) (i : ℕ) (event : Event) → HasRun stands_for script core
    → ((s : CoreState) → IsAt stands_for core s → IsSound script s → Some event ≡ slice_get (enabled_in script s) i) → CanTake stands_for script core event
can_take stands_for script core i event has_run listed =
    let sound = is_sound has_run.runs in
    record {
      state = has_run.state;
      is_at = has_run.is_at;
      runs = has_run.runs;
      enabled = enabled script has_run.state i event sound.rising (sym (listed has_run.state has_run.is_at sound));
    }

-- and so may an answer that is found there
pub may_be_taken : {T : Type 0} (stands_for : T → World → Type 0) (script : Script) (core : CoreView T) (i : ℕ) (answer : Option Event) → HasRun stands_for script core
    → ((s : CoreState) → IsAt stands_for core s → IsSound script s → answer ≡ slice_get (enabled_in script s) i) → IfSome answer (CanTake stands_for script core)
may_be_taken stands_for script core i None has_run listed = tt
may_be_taken stands_for script core i (Some event) has_run listed = can_take stands_for script core i event has_run listed

-- the event that a number names may be taken, where the core may go on
pub may_be_named : {T : Type 0} (stands_for : T → World → Type 0) (script : Script) (core : CoreView T) (number : ℕ) (answer : Option Event) → GoesOn stands_for script core
    → ((s : CoreState) → IsAt stands_for core s → IsSound script s → answer ≡ named_by (Some number) script s) → IfSome answer (CanTake stands_for script core)
may_be_named stands_for script core number None goes_on named = tt
may_be_named stands_for script core number (Some event) goes_on named =
    let sound = is_sound goes_on.runs in
    record {
      state = goes_on.state;
      is_at = goes_on.is_at;
      runs = goes_on.runs;
      enabled = named_is_enabled script goes_on.state event (Some number) sound (sym (named goes_on.state goes_on.is_at sound));
    }

-- behind a task whose event asks for heap, or that has none, the first event that asks for nothing is that of all
pub frees_behind : (script : Script) (s : CoreState) (tasks : List Task) (place : ℕ) (event : Option Event) (d : Task) (all : List Event) → place < length tasks
    → (let task = get_or tasks place d in option_to_list event ≡ events_of script s task.pid task.phase) → IfSome event (λ e. asks_nothing e ≡ false)
    → filter asks_nothing (events_in script s (drop place tasks) ++ others_in script s) ≡ all
    → filter asks_nothing (events_in script s (drop (place + 1) tasks) ++ others_in script s) ≡ all
frees_behind script s tasks place event d all within is asks rest =
    let later = events_in script s (drop (place + 1) tasks) in
    let others = others_in script s in
    sym (ap (λ ts. filter asks_nothing (events_in script s ts ++ others)) (next_task tasks place d within)
    ∙ ap (λ here. filter asks_nothing ((here ++ later) ++ others)) (sym is) ∙ skipped event later others asks)
    ∙ rest
  where
    skipped : (e : Option Event) (xs ys : List Event) → IfSome e (λ one. asks_nothing one ≡ false)
        → filter asks_nothing ((option_to_list e ++ xs) ++ ys) ≡ filter asks_nothing (xs ++ ys)
    skipped None xs ys f = refl
    skipped (Some one) xs ys f = ap (λ b. cond b (one ∷ filter asks_nothing (xs ++ ys)) (filter asks_nothing (xs ++ ys))) f

-- and the event at a place is it, where it asks for nothing
pub frees_here : (script : Script) (s : CoreState) (tasks : List Task) (place : ℕ) (event : Event) (d : Task) (all : List Event) → place < length tasks
    → (let task = get_or tasks place d in event ∷ [] ≡ events_of script s task.pid task.phase) → asks_nothing event ≡ true
    → filter asks_nothing (events_in script s (drop place tasks) ++ others_in script s) ≡ all → Some event ≡ slice_get all 0
frees_here script s tasks place event d all within is asks rest =
    let later = events_in script s (drop (place + 1) tasks) in
    let others = others_in script s in
    sym (ap (λ b. slice_get (cond b (event ∷ filter asks_nothing (later ++ others)) (filter asks_nothing (later ++ others))) 0) asks)
    ∙ ap (λ events. slice_get events 0)
    (ap (λ here. filter asks_nothing ((here ++ later) ++ others)) is
    ∙ sym (ap (λ ts. filter asks_nothing (events_in script s ts ++ others)) (next_task tasks place d within)) ∙ rest)

pub one_of : (event : Option Event) → is_some event ≡ true → length (option_to_list event) ≡ 1
one_of (Some event) e = refl
one_of None e = cc

pub none_of : (event : Option Event) → is_some event ≡ false → length (option_to_list event) ≡ 0
none_of (Some event) e = cc
none_of None e = refl
