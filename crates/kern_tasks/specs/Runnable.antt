-- Which tasks are runnable, and their places.
use Rattle.std.specs.Prelude.{ℕ, ◌≡◌, ◌+◌, ◌-◌, ◌≤◌, ◌==◌, ◌&&◌, nat_lt, not, if◌then◌else◌, Bool, List, [], ◌∷◌, length}
use Rattle.posix_defs.specs.declared.phases.Task.{Task}
use Rattle.posix_defs.specs.Minding.{is_among}
use Rattle.kern_tasks.specs.Room.{is_asleep}

-- The task's call doesn't sleep, or it isn't kept in mind of its process that it would block.
abbrev pub is_runnable : (ℕ → Bool) → Task → Bool
is_runnable settled task = not (is_asleep task.phase && settled task.pid)

-- the places of the tasks that pass a test, in a list whose first place has this number
abbrev pub places_from : (Task → Bool) → ℕ → List Task → List ℕ
places_from passes first [] = []
places_from passes first (task ∷ tasks) = if passes task then first ∷ places_from passes (first + 1) tasks else places_from passes (first + 1) tasks

-- the places of those that are runnable
abbrev pub runnable_in : (ℕ → Bool) → List Task → List ℕ
runnable_in settled tasks = places_from (is_runnable settled) 0 tasks

-- The places are those of the tasks that pass some test.
pub record ArePlaces (tasks : List Task) (places : List ℕ) : Type 0 where
  pub passes : Task → Bool
  pub same : places ≡ places_from passes 0 tasks

-- places rise, and none is below this one
abbrev pub AreRisingFrom : ℕ → List ℕ → Type 0
AreRisingFrom least [] = Unit {0}
AreRisingFrom least (place ∷ places) = (least ≤ place) × AreRisingFrom (place + 1) places

-- how many of places that rise are below one
abbrev pub below : List ℕ → ℕ → ℕ
below [] place = 0
below (other ∷ places) place = if nat_lt other place then below places place + 1 else 0

-- among places that rise one stands, or doesn't
abbrev pub with_place : List ℕ → ℕ → Bool → List ℕ
with_place [] place there = if there then place ∷ [] else []
with_place (other ∷ places) place there =
    if nat_lt other place then other ∷ with_place places place there
    else if other == place then (if there then other ∷ places else places)
    else (if there then place ∷ other ∷ places else other ∷ places)

-- the test, where it was made anew for the task of a pid
abbrev pub but_for : (Task → Bool) → ℕ → (Task → Bool) → Task → Bool
but_for passes pid anew task = if task.pid == pid then anew task else passes task

-- the test, where it was made anew for the tasks of these
abbrev pub but_for_each : (Task → Bool) → List ℕ → (Task → Bool) → Task → Bool
but_for_each passes pids anew task = if is_among pids task.pid then anew task else passes task

-- the test behind a turn of a process: made anew for it where its call sleeps now, and for these
abbrev pub turned_test : (Task → Bool) → ℕ → Bool → List ℕ → (Task → Bool) → Task → Bool
turned_test passes pid sleeps pids anew = but_for_each (if sleeps then but_for passes pid anew else passes) pids anew

-- the place of the last task, where it was born
abbrev pub born_place : List Task → Bool → List ℕ
born_place tasks born = if born then (length tasks - 1) ∷ [] else []
