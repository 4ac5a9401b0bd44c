-- Who waits for whom, as a row of bits for each place of the table of processes.
use Rattle.std.specs.Prelude.{ℕ, ◌≡◌, ◌==◌, cond, not, Bool, false, List, Option, None, Some, IfSome, slice_get, slice_index}
use Rattle.std.specs.Int.{bit_at}
use Rattle.std.specs.Option.{option_map}
use Rattle.kabi_types.specs.declared.scripts.Script.{Script}
use Rattle.lock_table.specs.Holding.{asked_by}
use Rattle.posix_defs.specs.Calls.OnLocks.{Wanted as PlainWanted, circles, is_clear, waits_for}
use Rattle.posix_defs.specs.Locks.{Locks, stops}
use Rattle.posix_defs.specs.Plain.{Plain}
use Rattle.posix_defs.specs.World.{World}
use Rattle.proc_table.specs.declared.places.Place.{Place}
use Rattle.store_objects.specs.declared.objects.Objects.{Objects}
use Rattle.store_objects.specs.Standing.{IsSound, StandsFor}
use Rattle.lock_calls.specs.declared.waits.Waits.{Waits}
use Rattle.lock_calls.specs.declared.waits.Wanted.{Wanted}

-- the process of a place of the table
abbrev pub pid_at : List Place → ℕ → Option ℕ
pid_at listed at = option_map (λ place. place.pid) (slice_get listed at)

-- a lock of another is in the way of what a process wants, if it wants something
abbrev pub is_held_up : Locks → ℕ → Option PlainWanted → Bool
is_held_up locks pid None = false
is_held_up locks pid (Some wanted) = not (is_clear locks pid wanted.node wanted.asked)

-- a bit that is set where this is so
abbrev pub bit_if : Bool → ℕ
bit_if so = cond so 1 0

-- the process of a place, if one stands there, holds what is in the way of another
abbrev pub stops_at : Locks → ℕ → Wanted → Option ℕ → Bool
stops_at locks pid wanted None = false
stops_at locks pid wanted (Some other) = stops locks pid wanted.node (asked_by wanted.range) other

-- a process waits for the one of a place, if one stands there
abbrev pub waits_at : Script → Plain → ℕ → Option ℕ → Bool
waits_at script plain pid None = false
waits_at script plain pid (Some other) = waits_for script plain pid other

-- the bits of a row are those of the processes for which one waits
abbrev pub IsRowOf : Script → Objects → ℕ → ℕ → Type 0
IsRowOf script objects pid row =
    (world : World) → StandsFor script objects world → IsSound world.plain → (at : ℕ)
    → bit_at row at ≡ bit_if (waits_at script world.plain pid (pid_at objects.procs.listed at))

-- each process has its row, at its place
abbrev pub AreRows : Script → Objects → List ℕ → Type 0
AreRows script objects rows = (at pid : ℕ) → pid_at objects.procs.listed at ≡ Some pid → IsRowOf script objects pid (slice_index rows at)

-- the bit of each process, at its place, tells whether a chain of waits leads from it back to itself
abbrev pub AreCircling : Script → Objects → ℕ → Type 0
AreCircling script objects circling =
    (world : World) → StandsFor script objects world → IsSound world.plain → (at pid : ℕ) → pid_at objects.procs.listed at ≡ Some pid
    → (bit_at circling at == 1) ≡ circles script world.plain pid

-- the same, if it is known
abbrev pub AreKnown : Script → Objects → Option Waits → Type 0
AreKnown script objects waits = IfSome waits (λ known. AreCircling script objects known.circling)
