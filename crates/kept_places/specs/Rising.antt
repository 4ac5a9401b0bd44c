-- Things by rising places, and the list of all places that they stand for.
use Rattle.std.specs.Prelude.{◌≡◌, ℕ, ◌+◌, ◌<◌, ◌≤◌, ◌==◌, if◌then◌else◌, List, [], ◌∷◌, length, map, Option, None, Some, slice_index_or}
use Rattle.std.specs.List.{range_with_len}
use Rattle.kept_places.specs.declared.search.Kept.{Kept}

module _ {X : Type 0} where
  -- what is at a place, among these
  abbrev pub found : List (Kept X) → ℕ → Option X
  found [] place = None
  found (kept ∷ rest) place = if kept.place == place then Some kept.what else found rest place

  -- of each place below a number what is there
  abbrev pub spread : ℕ → List (Kept X) → List (Option X)
  spread made there = map (found there) (range_with_len 0 made)

  -- the places rise, from one on, and stay below a number
  abbrev pub AreRising : ℕ → ℕ → List (Kept X) → Type 0
  AreRising from made [] = Unit {0}
  AreRising from made (kept ∷ rest) = (from ≤ kept.place) × (kept.place < made) × AreRising (kept.place + 1) made rest

  -- the thing of that place stands at this index, or there is none
  abbrev pub IsFoundAt : List (Kept X) → ℕ → Option ℕ → Type 0
  IsFoundAt there place None = found there place ≡ None
  IsFoundAt there place (Some index) = (index < length there) × ((none : Kept X) → (slice_index_or there index none).place ≡ place)
