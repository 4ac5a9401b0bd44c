-- A list of places, by number: what is there at each, or nothing where it has gone.
use Rattle.std.specs.Prelude.{ℕ, ◌+◌, List, [], ◌∷◌, Option, None, Some, IsSome, slice_index_or, slice_set}
use Rattle.kept_places.specs.declared.search.Kept.{Kept}

module _ {X : Type 0} where
  -- what is at a place; None also behind the last one
  abbrev pub at : List (Option X) → ℕ → Option X
  at places place = slice_index_or places place None

  -- something is at that place
  abbrev pub IsThere : List (Option X) → ℕ → Type 0
  IsThere places place = IsSome (at places place)

  -- the same places, with another thing at this one
  abbrev pub put : List (Option X) → ℕ → X → List (Option X)
  put places place what = slice_set places place (Some what)

  -- the same places, with nothing at this one
  abbrev pub without : List (Option X) → ℕ → List (Option X)
  without places place = slice_set places place None

  -- all that is there, each with its place, where the first place has this number
  abbrev pub there_from : ℕ → List (Option X) → List (Kept X)
  there_from place [] = []
  there_from place (None ∷ places) = there_from (place + 1) places
  there_from place (Some what ∷ places) = record { place = place; what = what } ∷ there_from (place + 1) places
