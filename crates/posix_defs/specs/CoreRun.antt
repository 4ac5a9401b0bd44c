-- Whole runs of the core.
use Rattle.std.specs.Prelude.{ℕ, ◌+◌, ◌≡◌, List, [], ◌∷◌, ◌++◌, length, max, None, Some}
use Rattle.std.specs.List.{filter_map}
use Rattle.kabi_types.specs.declared.entries.Entry.{Entry}
use Rattle.kabi_types.specs.declared.entries.Event.{Event}
use Rattle.kabi_types.specs.declared.entries.Noted.{Noted}
use Rattle.kabi_types.specs.declared.scripts.Script.{Script}
use Rattle.posix_defs.specs.Sizes.{fixed}
use Rattle.posix_defs.specs.CoreState.{CoreState, boot_state}
use Rattle.posix_defs.specs.CoreEvent.{Steps}
use Rattle.posix_defs.specs.Ends.{end_of}
use Rattle.posix_defs.specs.Choice.{picked_of}

-- The events of a run from boot, of at most so many, and the state after them: each is a step of the core that the rule
-- allows there, and no end holds before the last. A rule is told the number of the event, from 1.
pub data IsRunBy (rule : ℕ → CoreState → Event → Type 0) (script : Script) (steps : ℕ) : List Noted → CoreState → Type 0 where
  boots : IsRunBy rule script steps [] (boot_state script)
  goes_on : (run : List Noted) (old new : CoreState) (noted : Noted)
      → IsRunBy rule script steps run old → end_of script steps (length run) old ≡ None → rule (length run + 1) old noted.event
      → Steps script old noted new → IsRunBy rule script steps (run ++ noted ∷ []) new

-- any event that is enabled
abbrev pub Anyhow : ℕ → CoreState → Event → Type 0
Anyhow j s event = Unit {0}

-- the event that the script's chooser names
abbrev pub AsChosen : Script → ℕ → CoreState → Event → Type 0
AsChosen script j s event = picked_of script j s ≡ Some event

-- the runs of a script, whichever events are taken
abbrev pub IsCoreRun : Script → ℕ → List Noted → CoreState → Type 0
IsCoreRun script steps run s = IsRunBy Anyhow script steps run s

-- the runs in which each event is the one that the rule of choice names
abbrev pub IsPickedRun : Script → ℕ → List Noted → CoreState → Type 0
IsPickedRun script steps run s = IsRunBy (AsChosen script) script steps run s

-- the history of a run
abbrev pub entries_of : List Noted → List Entry
entries_of run = filter_map (λ noted. noted.entry) run

-- the greatest that was charged, at boot and after each event
abbrev pub peak_of : List Noted → ℕ
peak_of [] = fixed
peak_of (noted ∷ run) = max noted.charged (peak_of run)
