-- Ranges of places that are held with a kind: the list, and what it says of each place.
use Rattle.std.specs.Prelude.{◌≡◌, ℕ, ◌+◌, ◌-◌, ◌<◌, ◌≤◌, ◌==◌, nat_le, nat_lt, min, max, Bool, true, false, ◌&&◌, if◌then◌else◌, List, [], ◌∷◌, ◌++◌, Option, None, Some}
use Rattle.std.specs.List.{AllByRecursion}
use Rattle.kabi_types.specs.declared.ranges.Kind.{Kind}
use Rattle.kabi_types.specs.declared.ranges.Kind.TheVariants.{Shared, Exclusive}
use Rattle.kabi_types.specs.declared.ranges.Range.{Range}

-- the greatest place
abbrev pub greatest : ℕ
greatest = 9223372036854775807

-- a place is one of those from a start to a last one
abbrev pub covers : ℕ → ℕ → ℕ → Bool
covers start last place = nat_le start place && nat_le place last

abbrev pub same_kind : Kind → Kind → Bool
same_kind Shared Shared = true
same_kind Shared Exclusive = false
same_kind Exclusive Shared = false
same_kind Exclusive Exclusive = true

-- ---- the meaning

-- with which kind a place is held; None where it isn't
abbrev pub kind_at : List Range → ℕ → Option Kind
kind_at [] place = None
kind_at (range ∷ ranges) place = if covers range.start range.last place then Some range.kind else kind_at ranges place

-- two can't hold a place so: one of them has to hold it alone
abbrev pub clashes : Option Kind → Option Kind → Bool
clashes None other = false
clashes (Some kind) None = false
clashes (Some Shared) (Some Shared) = false
clashes (Some Shared) (Some Exclusive) = true
clashes (Some Exclusive) (Some other) = true

-- ---- the list

-- the second begins right behind the first, with its kind
abbrev pub touch : Range → Range → Bool
touch range next = same_kind range.kind next.kind && (range.last + 1 == next.start)

-- the second begins behind the first, and goes on only with another kind
abbrev pub LiesBefore : Range → Range → Type 0
LiesBefore range next = (range.last < next.start) × (touch range next ≡ false)

-- each range has a place and ends at a place, and lies before all that follow it
abbrev pub IsCanonical : List Range → Type 0
IsCanonical [] = Unit {0}
IsCanonical (range ∷ ranges) = (range.start ≤ range.last) × (range.last ≤ greatest) × AllByRecursion (LiesBefore range) ranges × IsCanonical ranges

-- a range's places before a start, and those behind a last place
abbrev pub until : ℕ → Range → Range
until start range = record range { last = min range.last (start - 1) }

abbrev pub beyond : ℕ → Range → Range
beyond last range = record range { start = max range.start (last + 1) }

-- what lies before a start
abbrev pub before : ℕ → List Range → List Range
before start [] = []
before start (range ∷ ranges) = if nat_lt range.start start then until start range ∷ before start ranges else before start ranges

-- what lies behind a last place
abbrev pub behind : ℕ → List Range → List Range
behind last [] = []
behind last (range ∷ ranges) = if nat_lt last range.last then beyond last range ∷ behind last ranges else behind last ranges

-- what is to be held from a start to a last place
abbrev pub held : Option Kind → ℕ → ℕ → List Range
held None start last = []
held (Some kind) start last = record { kind = kind; start = start; last = last } ∷ []

-- one more range behind these: where it touches the last of them, this one grows
abbrev pub added : List Range → Range → List Range
added [] new = new ∷ []
added (range ∷ []) new = if touch range new then record range { last = new.last } ∷ [] else range ∷ new ∷ []
added (range ∷ next ∷ ranges) new = range ∷ added (next ∷ ranges) new

-- these and others behind them, one by one
abbrev pub joined : List Range → List Range → List Range
joined ranges [] = ranges
joined ranges (new ∷ others) = joined (added ranges new) others

-- what is held before the start and behind the last place, and between them what is new, joined where they touch
abbrev pub set : List Range → Option Kind → ℕ → ℕ → List Range
set ranges kind start last = joined (before start ranges) (held kind start last ++ behind last ranges)

-- ---- what is in the way

-- they share a place, which two can't hold so
abbrev pub conflicts : Range → Range → Bool
conflicts range asked = (nat_le range.start asked.last && nat_le asked.start range.last) && clashes (Some range.kind) (Some asked.kind)

-- the first range that is in the way of another that is asked for
abbrev pub first_conflict : List Range → Range → Option Range
first_conflict [] asked = None
first_conflict (range ∷ ranges) asked = if conflicts range asked then Some range else first_conflict ranges asked

-- two holders: there is no place that they can't hold as they do
abbrev pub AreApart : List Range → List Range → Type 0
AreApart ranges others = (place : ℕ) → clashes (kind_at ranges place) (kind_at others place) ≡ false
