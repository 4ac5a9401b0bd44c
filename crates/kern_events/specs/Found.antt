-- A place among the enabled events, where those of tasks were looked through.
use Rattle.std.specs.Prelude.{ℕ, ◌≡◌, Some, Result, Ok, Err, slice_get}
use Rattle.kabi_types.specs.declared.entries.Event.{Event}
use Rattle.kabi_types.specs.declared.scripts.Script.{Script}
use Rattle.posix_defs.specs.CoreState.{CoreState}
use Rattle.posix_defs.specs.Choice.{enabled_in, others_in}

-- The event at the place was found, or the place is so far behind the events of tasks.
abbrev pub IsFoundAt : Script → CoreState → ℕ → Result Event ℕ → Type 0
IsFoundAt script s i (Ok event) = Some event ≡ slice_get (enabled_in script s) i
IsFoundAt script s i (Err left) = slice_get (others_in script s) left ≡ slice_get (enabled_in script s) i
