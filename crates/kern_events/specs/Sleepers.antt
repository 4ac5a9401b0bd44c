-- What a core keeps in mind of the calls that sleep and of those that wait, so that it looks at few of them and asks the store of fewer.
use Rattle.std.specs.Prelude.{ℕ, ◌≡◌, ◌+◌, ◌≤◌, Bool, true, List}
use Rattle.std.specs.List.{AllByRecursion, count_by}
use Rattle.kabi_types.specs.declared.scripts.Script.{Script}
use Rattle.posix_defs.specs.declared.phases.Phase.{Phase}
use Rattle.posix_defs.specs.declared.phases.Phase.TheVariants.{Waiting}
use Rattle.posix_defs.specs.declared.phases.Task.{Task}
use Rattle.posix_defs.specs.World.{World}
use Rattle.kern_tasks.specs.Room.{has_event, is_asleep}
use Rattle.kern_tasks.specs.Runnable.{is_runnable, runnable_in}
use Rattle.kern_tasks.specs.View.{CoreView, IsKept}
use Rattle.kern_events.specs.declared.evictables.Evictables.{Evictables}
use Rattle.kern_events.specs.Evictables.{AreEvictable}

-- the call may use no more than so many bytes, where it waits
abbrev pub WaitsForAtMost : ℕ → Phase → Type 0
WaitsForAtMost most (Waiting asked) = asked.bound ≤ most
WaitsForAtMost most _ = Unit {0}

-- There is so much room, and no call that waits may use more.
pub record AllFit (heap charged : ℕ) (tasks : List Task) : Type 0 where
  pub room : ℕ
  pub whole : room + charged ≡ heap
  pub each : AllByRecursion (λ task. WaitsForAtMost room task.phase) tasks

-- Of each of these tasks whose call sleeps it is kept in mind that it would block.
abbrev pub NoneDozes : (ℕ → Bool) → List Task → Type 0
NoneDozes settled tasks = AllByRecursion (λ task. is_asleep task.phase ≡ true → settled task.pid ≡ true) tasks

-- There is so much room, and each of these tasks that is runnable has an event in it, whatever its call would do.
pub record HaveEvents (settled : ℕ → Bool) (heap charged : ℕ) (tasks : List Task) : Type 0 where
  pub room : ℕ
  pub whole : room + charged ≡ heap
  pub all : AllByRecursion (λ task. is_runnable settled task ≡ true → has_event room task.phase ≡ true) tasks

-- Beside what every core keeps: the tasks that are runnable are known by their places, and how many sleep; what it knows of the caches
-- is so; and no call that waits may use more than so many bytes.
pub record Knows {T : Type 0} (stands_for : T → World → Type 0) (script : Script) (settled : ℕ → Bool) (core : CoreView T) (heap run_room task_room : ℕ)
    (runnable : List ℕ) (place_room asleep most : ℕ) (told : Evictables) : Type 0 where
  pub kept : IsKept stands_for script core heap run_room task_room
  pub placed : runnable ≡ runnable_in settled core.tasks
  pub places : core.steps + 2 ≤ place_room
  pub counted : asleep ≡ count_by (λ task. is_asleep task.phase) core.tasks
  pub waiting : AllByRecursion (λ task. WaitsForAtMost most task.phase) core.tasks
  pub caches : AreEvictable stands_for core.store told
