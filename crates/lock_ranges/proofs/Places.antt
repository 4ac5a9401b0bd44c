-- Kinds, and whether a place is in a range.
use Rattle.std.proofs.Common.{◌≡◌, ℕ, ◌+◌, ◌<◌, ◌≤◌, true, false, cond, eqb, leb, List, [], ◌∷◌, Some, ap, inl, inr, ◌⊎◌, refl}
use Rattle.std.proofs.lemmas.Bool.{and_left, and_right, and_from, and_parts, cases_lt, le-leb, lt-leb, eqb-true}
use Rattle.kabi_types.specs.declared.ranges.Kind.{Kind}
use Rattle.kabi_types.specs.declared.ranges.Kind.TheVariants.{Shared, Exclusive}
use Rattle.kabi_types.specs.declared.ranges.Range.{Range}
use Rattle.kabi_types.specs.Ranges.{added, covers, kind_at, same_kind, touch}

-- ---- kinds

pub kinds_same : (a b : Kind) → same_kind a b ≡ true → a ≡ b
kinds_same Shared Shared h = refl
kinds_same Shared Exclusive h = cc
kinds_same Exclusive Shared h = cc
kinds_same Exclusive Exclusive h = refl

pub kind_itself : (a : Kind) → same_kind a a ≡ true
kind_itself Shared = refl
kind_itself Exclusive = refl

-- ---- whether a place is in a range

pub cases_covers : (start last place : ℕ) → ((start ≤ place) × (place ≤ last)) ⊎ ((place < start) ⊎ (last < place))
cases_covers start last place = elim (cases_lt place start) [
  | inl below ↦ inr (inl below)
  | inr from ↦ elim (cases_lt last place) [
    | inl above ↦ inr (inr above)
    | inr to ↦ inl (from, to)
  ]
]

pub covers-inside : (start last place : ℕ) → start ≤ place → place ≤ last → covers start last place ≡ true
covers-inside start last place from to = and_from (leb start place) (leb place last) (le-leb start place from) (le-leb place last to)

pub covers-outside : (start last place : ℕ) → (place < start) ⊎ (last < place) → covers start last place ≡ false
covers-outside start last place (inl below) = and_left (leb start place) (leb place last) (lt-leb start place below)
covers-outside start last place (inr above) = and_right (leb start place) (leb place last) (lt-leb place last above)

-- ---- the kind at a place, by the first range

pub kind_here : (range : Range) (ranges : List Range) (place : ℕ) → range.start ≤ place → place ≤ range.last → kind_at (range ∷ ranges) place ≡ Some range.kind
kind_here range ranges place from to = ap (λ b. cond b (Some range.kind) (kind_at ranges place)) (covers-inside range.start range.last place from to)

pub kind_later : (range : Range) (ranges : List Range) (place : ℕ) → (place < range.start) ⊎ (range.last < place) → kind_at (range ∷ ranges) place ≡ kind_at ranges place
kind_later range ranges place out = ap (λ b. cond b (Some range.kind) (kind_at ranges place)) (covers-outside range.start range.last place out)

-- ---- ranges that touch

pub touch_parts : (range next : Range) → touch range next ≡ true → (range.kind ≡ next.kind) × (range.last + 1 ≡ next.start)
touch_parts range next touching =
    let parts = and_parts (same_kind range.kind next.kind) (eqb (range.last + 1) next.start) touching in
    (kinds_same range.kind next.kind parts.0, eqb-true (range.last + 1) next.start parts.1)

-- a range with the last place of another
abbrev pub grown : Range → Range → Range
grown range new = record range { last = new.last }

pub added_grown : (range new : Range) → touch range new ≡ true → added (range ∷ []) new ≡ grown range new ∷ []
added_grown range new touching = ap (λ b. cond b (grown range new ∷ []) (range ∷ new ∷ [])) touching

pub added_behind : (range new : Range) → touch range new ≡ false → added (range ∷ []) new ≡ range ∷ new ∷ []
added_behind range new apart = ap (λ b. cond b (grown range new ∷ []) (range ∷ new ∷ [])) apart
