-- What contracts see of a core, and the state that it is in.
use Rattle.std.specs.Prelude.{ℕ, ◌≡◌, ◌⊎◌, true, ◌+◌, ◌%◌, ◌^◌, ◌<◌, ◌≤◌, List, [], ◌∷◌, ◌++◌, length, None, Some, IsSome, slice_get}
use Rattle.kabi_types.specs.declared.entries.Event.{Event}
use Rattle.kabi_types.specs.declared.entries.Noted.{Noted}
use Rattle.kabi_types.specs.declared.scripts.Script.{Script}
use Rattle.posix_defs.specs.declared.phases.Asked.{Asked}
use Rattle.posix_defs.specs.declared.turner.Turned.{Turned}
use Rattle.posix_defs.specs.declared.turner.Turned.TheVariants as turned
use Rattle.posix_defs.specs.Process.{is_alive}
use Rattle.posix_defs.specs.declared.phases.Task.{Task}
use Rattle.posix_defs.specs.Sizes.{fixed}
use Rattle.posix_defs.specs.World.{World}
use Rattle.posix_defs.specs.CoreState.{CoreState, asked_by, charged_in, boot_state, reserved_in}
use Rattle.posix_defs.specs.SoundTasks.{IsSound}
use Rattle.posix_defs.specs.CoreEvent.{Steps}
use Rattle.posix_defs.specs.Ends.{end_of}
use Rattle.posix_defs.specs.Enabled.{IsEnabled}
use Rattle.posix_defs.specs.Choice.{default_of}
use Rattle.posix_defs.specs.CoreRun.{IsCoreRun, peak_of}

-- a core: its store, the number of events that it may take, the events taken, the tasks, what is reserved, charged and was
-- charged at most, in bytes
pub record CoreView (T : Type 0) : Type 0 where
  pub store : T
  pub steps : ℕ
  pub run : List Noted
  pub tasks : List Task
  pub reserved : ℕ
  pub charged : ℕ
  pub peak : ℕ

-- The core is in this state: its store stands for the state's world, and its numbers are the state's.
pub record IsAt {T : Type 0} (stands_for : T → World → Type 0) (core : CoreView T) (s : CoreState) : Type 0 where
  pub stands : stands_for core.store s.world
  pub tasks : s.tasks ≡ core.tasks
  pub reserved : reserved_in s.tasks ≡ core.reserved
  pub charged : charged_in s ≡ core.charged

-- A run of the script, from boot, has led to the state that the core is in, and the greatest charge of it is kept.
pub record HasRun {T : Type 0} (stands_for : T → World → Type 0) (script : Script) (core : CoreView T) : Type 0 where
  pub state : CoreState
  pub is_at : IsAt stands_for core state
  pub runs : IsCoreRun script core.steps core.run state
  pub peak : core.peak ≡ peak_of core.run
  pub within : length core.run ≤ core.steps

-- A run has led to a state in which some event may be taken, and the run has room for it.
pub record GoesOn {T : Type 0} (stands_for : T → World → Type 0) (script : Script) (core : CoreView T) : Type 0 where
  pub state : CoreState
  pub is_at : IsAt stands_for core state
  pub runs : IsCoreRun script core.steps core.run state
  pub some : IsSome (default_of script state)
  pub room : length core.run < core.steps

-- The event is enabled in a state that a run has led to.
pub record CanTake {T : Type 0} (stands_for : T → World → Type 0) (script : Script) (core : CoreView T) (event : Event) : Type 0 where
  pub state : CoreState
  pub is_at : IsAt stands_for core state
  pub runs : IsCoreRun script core.steps core.run state
  pub enabled : IsEnabled script state event

-- The event may be taken: it is enabled in a state that a run has led to, and no end holds there.
pub record MayTake {T : Type 0} (stands_for : T → World → Type 0) (script : Script) (core : CoreView T) (event : Event) : Type 0 where
  pub state : CoreState
  pub is_at : IsAt stands_for core state
  pub runs : IsCoreRun script core.steps core.run state
  pub enabled : IsEnabled script state event
  pub no_end : end_of script core.steps (length core.run) state ≡ None

-- The event was taken: from each sound state in which it was enabled and no end held, to a state that it leads to.
pub record Took {T : Type 0} (stands_for : T → World → Type 0) (script : Script) (old : CoreView T) (event : Event) (noted : Noted) (new : CoreView T) : Type 0 where
  pub steps : new.steps ≡ old.steps
  pub taken : noted.event ≡ event
  pub run : new.run ≡ old.run ++ noted ∷ []
  pub leads : (s : CoreState) → IsAt stands_for old s → IsEnabled script s event → IsSound script s
      → (t : CoreState) × IsAt stands_for new t × Steps script s noted t

-- the event was taken, and something is noted of it
abbrev pub Takes : {T : Type 0} → (T → World → Type 0) → Script → CoreView T → Event → CoreView T → Type 0
Takes stands_for script old event new = (noted : Noted) × Took stands_for script old event noted new

-- The store was marked once, and at no moment since the mark before did the heap in use and what is reserved for all other calls
-- together pass the heap. Behind a mark what is in use rises no more, so these are all moments of the event.
pub record IsInside {T : Type 0} (marks high : T → ℕ) (heap : ℕ) (old new : CoreView T) : Type 0 where
  pub marked : marks new.store ≡ (marks old.store + 1) % 2 ^ 64
  pub within : high new.store + new.reserved ≤ heap

-- What an event did to the store while it ran: nothing at all, or it stayed inside the heap.
abbrev pub StaysInside : {T : Type 0} → (T → ℕ) → (T → ℕ) → ℕ → CoreView T → CoreView T → Type 0
StaysInside marks high heap old new = (new.store ≡ old.store) ⊎ IsInside marks high heap old new

-- The core goes from one view to another by events, of which each stays inside.
pub data GoesInside {T : Type 0} (stands_for : T → World → Type 0) (marks high : T → ℕ) (script : Script) (first : CoreView T) : CoreView T → Type 0 where
  begins : GoesInside stands_for marks high script first first
  goes_on : (old new : CoreView T) (event : Event) → GoesInside stands_for marks high script first old
      → Takes stands_for script old event new → StaysInside marks high script.heap old new → GoesInside stands_for marks high script first new

-- nothing has happened yet
pub record HasBooted {T : Type 0} (stands_for : T → World → Type 0) (script : Script) (core : CoreView T) : Type 0 where
  pub is_at : IsAt stands_for core (boot_state script)
  pub run : core.run ≡ []

-- In every state that the core may be in this is what the process asks for next.
abbrev pub IsAskedFor : {T : Type 0} → (T → World → Type 0) → Script → CoreView T → ℕ → Asked → Type 0
IsAskedFor stands_for script core pid asked =
    (s : CoreState) → IsAt stands_for core s → is_alive s.world.plain.table pid ≡ true → asked ≡ asked_by script s.world.plain pid

-- the turn leaves its call asleep
abbrev pub IsSleep : Turned → Type 0
IsSleep (turned.Part _) = Unit {0}
IsSleep turned.Sleep = Unit {0}
IsSleep _ = ⊥

-- The task is one of these.
pub record Has (tasks : List Task) (task : Task) : Type 0 where
  pub place : ℕ
  pub is : slice_get tasks place ≡ Some task

-- What a core keeps beside what contracts see: its room for events and tasks, and the limits of its numbers.
pub record IsKept {T : Type 0} (stands_for : T → World → Type 0) (script : Script) (core : CoreView T) (heap run_room task_room : ℕ) : Type 0 where
  pub has_run : HasRun stands_for script core
  pub same_heap : heap ≡ script.heap
  pub least_heap : fixed ≤ heap
  pub most_heap : heap ≤ 8388608
  pub room : core.steps ≤ run_room
  pub most_steps : core.steps ≤ 100000
  pub few : length core.tasks ≤ length core.run + 1
  pub tasks_fit : core.steps + 1 ≤ task_room
