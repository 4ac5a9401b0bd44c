use Rattle.std.proofs.Common.{◌≡◌, ℕ, ◌+◌, ◌≤◌, List, length}
use Rattle.indexmap.specs.IndexMap.{get}
use Rattle.kabi_types.specs.contracts.short_lists.Name27PartialEq.TheImpl.{eq-value}
use Rattle.posix_defs.specs.ScriptValues.{or_else}
use Rattle.script_read.specs.LabelPlaces.{place_from}
use Rattle.script_read.proofs.places.places_of.Given as goal

-- a label's place is the one that is noted, or else where it stands first in the rest
abbrev pub invariant-loop-stated : goal.invariant-loop-stated
invariant-loop-stated l = ((name : List ℕ) → or_else (get eq-value.it l.places name) (place_from l.place name l.rest) ≡ place_from 0 name l.lines) × (l.place + length l.rest ≡ length l.lines) × (length l.lines ≤ 4294967295)

abbrev pub decreases-loop-stated : goal.decreases-loop-stated
decreases-loop-stated l = length l.rest
