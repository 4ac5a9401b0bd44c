-- How much heap a run asks for.
use Rattle.std.specs.Prelude.{ℕ, ◌+◌, ◌≡◌, ◌≤◌, max, Bool, true, false, List, [], ◌∷◌}
use Rattle.kabi_types.specs.declared.entries.Event.{Event}
use Rattle.kabi_types.specs.declared.entries.Event.TheVariants.{Ask, Kill}
use Rattle.kabi_types.specs.declared.entries.Noted.{Noted}
use Rattle.kabi_types.specs.declared.scripts.Script.{Script}
use Rattle.posix_defs.specs.declared.phases.Phase.{Phase}
use Rattle.posix_defs.specs.declared.phases.Phase.TheVariants.{Waiting}
use Rattle.posix_defs.specs.declared.phases.Task.{Task}
use Rattle.posix_defs.specs.Sizes.{fixed, room}
use Rattle.posix_defs.specs.CoreState.{CoreState, asked_by, charged_in, some_wait_in_vain}
use Rattle.posix_defs.specs.CoreRun.{IsRunBy, boots, goes_on}
use Rattle.posix_defs.specs.Ends.{end_of}

-- the same script, but for its heap
abbrev pub with_heap : Script → ℕ → Script
with_heap script heap = record script { heap = heap }

-- ---- what is asked for

-- what a call that waits asks of the heap: what is charged, and its bound beside it; 0 of a call that doesn't wait
abbrev pub wants : ℕ → Phase → ℕ
wants charged (Waiting asked) = charged + asked.bound
wants charged _ = 0

-- the most that one of these tasks asks of the heap
abbrev pub demand_in : ℕ → List Task → ℕ
demand_in charged [] = 0
demand_in charged (task ∷ tasks) = max (wants charged task.phase) (demand_in charged tasks)

-- what a state asks of the heap: what is charged, with the greatest bound that waits; 0 where no call waits
abbrev pub demand_of : CoreState → ℕ
demand_of s = demand_in (charged_in s) s.tasks

-- what an event asks of the heap: of a call that is asked for, that it can ever be admitted
abbrev pub demand_at : Script → CoreState → Event → ℕ
demand_at script s (Ask pid) = fixed + (asked_by script s.world.plain pid).bound
demand_at script s _ = 0

-- what a run asks of the heap: the most that an event, or the state after one, asks of it
abbrev pub need_of : {rule : ℕ → CoreState → Event → Type 0} {script : Script} {steps : ℕ} {run : List Noted} {s : CoreState}
    → IsRunBy rule script steps run s → ℕ
need_of boots = 0
need_of {script = script} (goes_on run old new noted before ends by step) =
    max (need_of before) (max (demand_at script old noted.event) (demand_of new))

-- ---- what fits

-- under a heap of so many bytes an event refuses nothing: the bound of a call that is asked for is within its room
abbrev pub RefusesNone : ℕ → Script → CoreState → Event → Type 0
RefusesNone heap script s (Ask pid) = (asked_by script s.world.plain pid).bound ≤ room heap
RefusesNone heap script s _ = Unit {0}

-- In a heap of so many bytes each call would fit that waits in a state of the run, and none of its calls would be refused. Of the
-- script's own heap it says that each call that waits fits, and that none is refused.
abbrev pub AllFit : {rule : ℕ → CoreState → Event → Type 0} {script : Script} {steps : ℕ} {run : List Noted} {s : CoreState}
    → ℕ → IsRunBy rule script steps run s → Type 0
AllFit heap boots = Unit {0}
AllFit {script = script} heap (goes_on run old new noted before ends by step) =
    AllFit heap before × RefusesNone heap script old noted.event × (some_wait_in_vain (with_heap script heap) new ≡ false)

-- the event is a kill
abbrev pub is_kill : Event → Bool
is_kill (Kill pid) = true
is_kill _ = false

-- ---- the same run

-- The run is one of the same script under another heap too: the same events, each with the same entry, so the same replies, and
-- with as much charged. It ends as it does under its own heap, or goes on as it does.
pub record IsSameUnder (rule : ℕ → CoreState → Event → Type 0) (script : Script) (heap steps : ℕ) (run : List Noted) (s : CoreState) : Type 0 where
  pub is_run : IsRunBy rule (with_heap script heap) steps run s
  pub ends : (taken : ℕ) → end_of (with_heap script heap) steps taken s ≡ end_of script steps taken s
