-- Runs of the core over a store, with what each event did to the store.
use Rattle.std.specs.Prelude.{ℕ, ◌≡◌, ◌⊎◌, ◌+◌, ◌%◌, ◌^◌, ◌≤◌, List, [], ◌∷◌, ◌++◌, length, None, Some}
use Rattle.kabi_types.specs.declared.entries.End.{End}
use Rattle.kabi_types.specs.declared.entries.Noted.{Noted}
use Rattle.kabi_types.specs.declared.scripts.Script.{Script}
use Rattle.posix_defs.specs.World.{World, boot_world}
use Rattle.posix_defs.specs.CoreState.{CoreState, boot_state, reserved_in}
use Rattle.posix_defs.specs.CoreEvent.{Steps}
use Rattle.posix_defs.specs.CoreRun.{AsChosen}
use Rattle.posix_defs.specs.Ends.{end_of}
use Rattle.kern_tasks.specs.View.{CoreView, IsAt}

-- The store was marked once, and at no moment since the mark before did the heap in use, with so much that is reserved, pass
-- the heap.
pub record StaysWithin {T : Type 0} (marks high : T → ℕ) (heap reserved : ℕ) (old new : T) : Type 0 where
  pub marked : marks new ≡ (marks old + 1) % 2 ^ 64
  pub within : high new + reserved ≤ heap

-- what an event did to the store while it ran: nothing at all, or it stayed within the heap
abbrev pub LeavesWithin : {T : Type 0} → (T → ℕ) → (T → ℕ) → ℕ → ℕ → T → T → Type 0
LeavesWithin marks high heap reserved old new = (new ≡ old) ⊎ StaysWithin marks high heap reserved old new

-- The events of a run by the rule of choice, the state that they lead to, and the store then. After each event the store
-- stands for the world that the event leads to; and while the event ran, what was in use and what is reserved for all other
-- calls stayed within the heap.
pub data IsRunOver {T : Type 0} (stands_for : T → World → Type 0) (marks high : T → ℕ) (script : Script) (steps : ℕ) : List Noted → CoreState → T → Type 0 where
  boots : (store : T) → stands_for store (boot_world script) → IsRunOver stands_for marks high script steps [] (boot_state script) store
  goes_on : (run : List Noted) (old new : CoreState) (before after : T) (noted : Noted)
      → IsRunOver stands_for marks high script steps run old before → end_of script steps (length run) old ≡ None
      → AsChosen script (length run + 1) old noted.event → Steps script old noted new → stands_for after new.world
      → LeavesWithin marks high script.heap (reserved_in new.tasks) before after
      → IsRunOver stands_for marks high script steps (run ++ noted ∷ []) new after

-- The core has run the script so far, by the rule of choice, and its store went through the run.
pub record HasRunOver {T : Type 0} (stands_for : T → World → Type 0) (marks high : T → ℕ) (script : Script) (core : CoreView T) : Type 0 where
  pub state : CoreState
  pub is_at : IsAt stands_for core state
  pub runs : IsRunOver stands_for marks high script core.steps core.run state core.store

-- The same, and this is how the run ended.
pub record HasEndedOver {T : Type 0} (stands_for : T → World → Type 0) (marks high : T → ℕ) (script : Script) (core : CoreView T) (end : End) : Type 0 where
  pub state : CoreState
  pub is_at : IsAt stands_for core state
  pub runs : IsRunOver stands_for marks high script core.steps core.run state core.store
  pub ends : end_of script core.steps (length core.run) state ≡ Some end
