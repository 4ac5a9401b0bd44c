-- A canonical list is the only one that says what it says of each place.
use Rattle.std.proofs.Common.{◌≡◌, ℕ, ◌+◌, ◌<◌, ◌≤◌, Bool, true, false, cond, eqb, List, [], ◌∷◌, Option, None, Some, refl, ap, sym, ◌∙◌, inl, inr, arith}
use Rattle.std.specs.List.{AllByRecursion}
use Rattle.std.proofs.lemmas.Bool.{and_from, cases_lt, eq-eqb}
use Rattle.kabi_types.specs.declared.ranges.Kind.{Kind}
use Rattle.kabi_types.specs.declared.ranges.Range.{Range}
use Rattle.kabi_types.specs.Ranges.{IsCanonical, LiesBefore, covers, greatest, kind_at, same_kind, set, touch}
use Rattle.lock_ranges.proofs.Places.{cases_covers, covers-inside, kind_here, kind_itself, kind_later}
use Rattle.lock_ranges.proofs.Shape.{BeginBehind, IsCanonical-set, kind_at-set, later_behind}

-- up to where all ranges begin behind no place is held
pub none_up_to : (last : ℕ) (ranges : List Range) (place : ℕ) → BeginBehind last ranges → place ≤ last → kind_at ranges place ≡ None
none_up_to last [] place begin to = refl
none_up_to last (range ∷ ranges) place begin to =
    let first : last < range.start = begin.0 in
    kind_later range ranges place (inl (omega arith)) ∙ none_up_to last ranges place begin.1 to

-- nor is one before the first range
none_below : (range : Range) (ranges : List Range) (place : ℕ) → IsCanonical (range ∷ ranges) → place < range.start → kind_at (range ∷ ranges) place ≡ None
none_below range ranges place canonical below =
    let order : range.start ≤ range.last = canonical.0 in
    kind_later range ranges place (inl below) ∙ none_up_to range.last ranges place (later_behind range ranges canonical.2) (omega arith)

-- the place right behind a range isn't held with its kind
ends_there : (range : Range) (ranges : List Range) → AllByRecursion (LiesBefore range) ranges → kind_at ranges (range.last + 1) ≡ Some range.kind → ⊥
ends_there range [] lie held = cc
ends_there range (next ∷ ranges) lie held = elim (cases_covers next.start next.last (range.last + 1)) [
  | inl inside ↦
      let first : range.last < next.start = lie.0.0 in
      let from : next.start ≤ range.last + 1 = inside.0 in
      let kinds : Some next.kind ≡ Some range.kind = sym (kind_here next ranges (range.last + 1) inside.0 inside.1) ∙ held in
      let same : next.kind ≡ range.kind = cc in
      let touching : touch range next ≡ true =
      and_from (same_kind range.kind next.kind) (eqb (range.last + 1) next.start)
      (ap (λ k. same_kind range.kind k) same ∙ kind_itself range.kind) (eq-eqb (range.last + 1) next.start (omega arith)) in
      let apart : touch range next ≡ false = lie.0.1 in
      cc
  | inr out ↦ ends_there range ranges lie.1 (sym (kind_later next ranges (range.last + 1) out) ∙ held)
]

-- ---- two lists that say the same

-- two lists say the same of each place
abbrev pub SayTheSame : List Range → List Range → Type 0
SayTheSame ranges others = (place : ℕ) → place ≤ greatest → kind_at ranges place ≡ kind_at others place

begins_first : (range : Range) (ranges : List Range) (other : Range) (others : List Range) → IsCanonical (range ∷ ranges) → IsCanonical (other ∷ others)
    → SayTheSame (range ∷ ranges) (other ∷ others) → range.start ≤ other.start
begins_first range ranges other others canonical canonicals same =
    let order : other.start ≤ other.last = canonicals.0 in
    let within : other.last ≤ greatest = canonicals.1 in
    elim (cases_lt other.start range.start) [
      | inl below ↦
          let none : kind_at (range ∷ ranges) other.start ≡ None = none_below range ranges other.start canonical below in
          let some : kind_at (other ∷ others) other.start ≡ Some other.kind = kind_here other others other.start (omega arith) order in
          let wrong : None ≡ Some other.kind = sym none ∙ same other.start (omega arith) ∙ some in
          cc
      | inr le ↦ le
    ]

kinds_alike : (range : Range) (ranges : List Range) (other : Range) (others : List Range) → IsCanonical (range ∷ ranges) → IsCanonical (other ∷ others)
    → SayTheSame (range ∷ ranges) (other ∷ others) → range.start ≡ other.start → range.kind ≡ other.kind
kinds_alike range ranges other others canonical canonicals same starts =
    let order : range.start ≤ range.last = canonical.0 in
    let within : range.last ≤ greatest = canonical.1 in
    let order_too : other.start ≤ other.last = canonicals.0 in
    let kinds : Some range.kind ≡ Some other.kind =
    sym (kind_here range ranges range.start (omega arith) order) ∙ same range.start (omega arith) ∙ kind_here other others range.start (omega arith) (omega arith) in
    cc

ends_last : (range : Range) (ranges : List Range) (other : Range) (others : List Range) → IsCanonical (range ∷ ranges) → IsCanonical (other ∷ others)
    → SayTheSame (range ∷ ranges) (other ∷ others) → range.start ≡ other.start → range.kind ≡ other.kind → other.last ≤ range.last
ends_last range ranges other others canonical canonicals same starts kinds =
    let order : range.start ≤ range.last = canonical.0 in
    let within : other.last ≤ greatest = canonicals.1 in
    elim (cases_lt range.last other.last) [
      | inl longer ↦
          absurd (
          ends_there range ranges canonical.2 (
          sym (kind_later range ranges (range.last + 1) (inr (omega arith)))
          ∙ same (range.last + 1) (omega arith)
          ∙ kind_here other others (range.last + 1) (omega arith) (omega arith)
          ∙ ap (λ k. Some k) (sym kinds)
          )
          )
      | inr le ↦ le
    ]

ranges_alike : (range other : Range) → range.kind ≡ other.kind → range.start ≡ other.start → range.last ≡ other.last → range ≡ other
ranges_alike range other kinds starts lasts =
    let by_kind : Kind → Range = λ k. record { kind = k; start = range.start; last = range.last } in
    let by_start : ℕ → Range = λ n. record { kind = other.kind; start = n; last = range.last } in
    let by_last : ℕ → Range = λ n. record { kind = other.kind; start = other.start; last = n } in
    ap by_kind kinds ∙ ap by_start starts ∙ ap by_last lasts

rest_alike : (range : Range) (ranges : List Range) (other : Range) (others : List Range) → IsCanonical (range ∷ ranges) → IsCanonical (other ∷ others)
    → SayTheSame (range ∷ ranges) (other ∷ others) → range.last ≡ other.last → SayTheSame ranges others
rest_alike range ranges other others canonical canonicals same lasts place within = elim (cases_lt range.last place) [
  | inl above ↦
      sym (kind_later range ranges place (inr above)) ∙ same place within ∙ kind_later other others place (inr (omega arith))
  | inr to ↦
      none_up_to range.last ranges place (later_behind range ranges canonical.2) to
      ∙ sym (none_up_to other.last others place (later_behind other others canonicals.2) (omega arith))
]

opposite : (ranges others : List Range) → SayTheSame ranges others → SayTheSame others ranges
opposite ranges others same place within = sym (same place within)

none_said : (range : Range) (ranges : List Range) → IsCanonical (range ∷ ranges) → SayTheSame (range ∷ ranges) [] → ⊥
none_said range ranges canonical same =
    let order : range.start ≤ range.last = canonical.0 in
    let within : range.last ≤ greatest = canonical.1 in
    let wrong : Some range.kind ≡ None = sym (kind_here range ranges range.start (omega arith) order) ∙ same range.start (omega arith) in
    cc

pub only_one : (ranges others : List Range) → IsCanonical ranges → IsCanonical others → SayTheSame ranges others → ranges ≡ others
only_one [] [] canonical canonicals same = refl
only_one [] (other ∷ others) canonical canonicals same = absurd (none_said other others canonicals (opposite [] (other ∷ others) same))
only_one (range ∷ ranges) [] canonical canonicals same = absurd (none_said range ranges canonical same)
only_one (range ∷ ranges) (other ∷ others) canonical canonicals same =
    let back : SayTheSame (other ∷ others) (range ∷ ranges) = opposite (range ∷ ranges) (other ∷ others) same in
    let starts : range.start ≡ other.start =
    omega (arith, begins_first range ranges other others canonical canonicals same, begins_first other others range ranges canonicals canonical back) in
    let kinds : range.kind ≡ other.kind = kinds_alike range ranges other others canonical canonicals same starts in
    let lasts : range.last ≡ other.last =
    omega (
      arith,
      ends_last range ranges other others canonical canonicals same starts kinds,
      ends_last other others range ranges canonicals canonical back (sym starts) (sym kinds),
    ) in
    let rest : ranges ≡ others = only_one ranges others canonical.3 canonicals.3 (rest_alike range ranges other others canonical canonicals same lasts) in
    ap (λ (r : Range). r ∷ ranges) (ranges_alike range other kinds starts lasts) ∙ ap (λ (l : List Range). other ∷ l) rest

-- ---- what follows of setting

-- a test that is asked twice
twice : (b : Bool) (kind other : Option Kind) → cond b kind (cond b kind other) ≡ cond b kind other
twice true kind other = refl
twice false kind other = refl

pub set_again : (ranges : List Range) (kind : Option Kind) (start last : ℕ) → IsCanonical ranges → start ≤ last → last ≤ greatest
    → set (set ranges kind start last) kind start last ≡ set ranges kind start last
set_again ranges kind start last canonical order within =
    let once = IsCanonical-set ranges kind start last canonical order within in
    only_one (set (set ranges kind start last) kind start last) (set ranges kind start last)
    (IsCanonical-set (set ranges kind start last) kind start last once order within) once (λ place fits.
    kind_at-set (set ranges kind start last) kind start last place once order within
    ∙ ap (λ k. cond (covers start last place) kind k) (kind_at-set ranges kind start last place canonical order within)
    ∙ twice (covers start last place) kind (kind_at ranges place)
    ∙ sym (kind_at-set ranges kind start last place canonical order within))

pub none_left : (ranges : List Range) → IsCanonical ranges → set ranges None 0 greatest ≡ []
none_left ranges canonical =
    only_one (set ranges None 0 greatest) [] (IsCanonical-set ranges None 0 greatest canonical (omega arith) (omega arith)) tt (λ place fits.
    kind_at-set ranges None 0 greatest place canonical (omega arith) (omega arith)
    ∙ ap (λ b. cond b None (kind_at ranges place)) (covers-inside 0 greatest place (omega arith) fits))
