-- A range that takes in what it touches of its kind, so that nothing is joined to it.
use Rattle.std.specs.Prelude.{◌≡◌, ◌⊎◌, ℕ, ◌-◌, ◌≤◌, nat_le, Bool, true, ◌&&◌, List, [], ◌∷◌}
use Rattle.std.specs.List.{AllByRecursion}
use Rattle.kabi_types.specs.declared.ranges.Range.{Range}
use Rattle.kabi_types.specs.Ranges.{same_kind}

-- a range shares a place with another, or stands right beside it, and is of its kind
abbrev pub reaches : Range → Range → Bool
reaches asked range = same_kind range.kind asked.kind && (nat_le (range.start - 1) asked.last && nat_le (asked.start - 1) range.last)

-- one of them is so
abbrev pub IsAmong : (Range → Type 0) → List Range → Type 0
IsAmong P [] = ⊥
IsAmong P (range ∷ ranges) = P range ⊎ IsAmong P ranges

-- one that the range reaches begins there, or ends there
abbrev pub Begins : Range → ℕ → Range → Type 0
Begins asked place range = (reaches asked range ≡ true) × (range.start ≡ place)

abbrev pub Ends : Range → ℕ → Range → Type 0
Ends asked place range = (reaches asked range ≡ true) × (range.last ≡ place)

-- one that the range reaches lies within the wide one
abbrev pub LiesWithin : Range → Range → Range → Type 0
LiesWithin asked wide range = reaches asked range ≡ true → (wide.start ≤ range.start) × (range.last ≤ wide.last)

-- The wide range has the places that are asked for and those of all ranges that these reach, and no others.
pub record IsWidened (ranges : List Range) (asked wide : Range) : Type 0 where
  pub kind : wide.kind ≡ asked.kind
  pub from : wide.start ≤ asked.start
  pub to : asked.last ≤ wide.last
  pub all : AllByRecursion (LiesWithin asked wide) ranges
  pub start_is : (wide.start ≡ asked.start) ⊎ IsAmong (Begins asked wide.start) ranges
  pub last_is : (wide.last ≡ asked.last) ⊎ IsAmong (Ends asked wide.last) ranges
