-- The objects of one class, by key.
use Rattle.std.specs.Prelude.{ℕ, List, Option, None, Some, is_some, IsSome, count_by, slice_index_or, slice_set}

module _ {X : Type 0} where
  -- the object that a key names
  abbrev pub object : List (Option X) → ℕ → Option X
  object objects key = slice_index_or objects key None

  -- the key names an object
  abbrev pub InUse : List (Option X) → ℕ → Type 0
  InUse objects key = IsSome (object objects key)

  -- how many objects there are
  abbrev pub count : List (Option X) → ℕ
  count objects = count_by is_some objects

  -- the key names this object from now on, and every other key what it named before
  abbrev pub put : List (Option X) → ℕ → X → List (Option X)
  put objects key value = slice_set objects key (Some value)

  -- the key names nothing from now on, and every other key what it named before
  abbrev pub without : List (Option X) → ℕ → List (Option X)
  without objects key = slice_set objects key None
