-- The events that are of no process.
use Rattle.std.specs.Prelude.{Bool, ◌&&◌, if◌then◌else◌, List, Option, None, Some}
use Rattle.std.specs.List.{filter_map}
use Rattle.kabi_types.specs.declared.entries.Cached.{Cached}
use Rattle.kabi_types.specs.declared.entries.Event.{Event}
use Rattle.kabi_types.specs.declared.entries.Event.TheVariants.{Evict}

-- the eviction from a cache, where the first process lives and something can go
abbrev pub eviction : Bool → Bool → Cached → Option Event
eviction lives can what = if lives && can then Some (Evict what) else None

-- those that there are
abbrev pub present : List (Option Event) → List Event
present events = filter_map (λ event. event) events
