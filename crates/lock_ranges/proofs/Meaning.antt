-- What ranges say of each place, through cuts and joins.
use Rattle.std.proofs.Common.{◌≡◌, ℕ, ◌+◌, ◌<◌, ◌≤◌, true, false, cond, List, [], ◌∷◌, ◌++◌, append_assoc, Option, None, Some, refl, ap, sym, subst, ◌∙◌, inl, inr, ◌⊎◌, arith}
use Rattle.std.proofs.lemmas.Bool.{cases_lt, cases_Bool, lt-ltb, le-ltb}
use Rattle.kabi_types.specs.declared.ranges.Kind.{Kind}
use Rattle.kabi_types.specs.declared.ranges.Range.{Range}
use Rattle.kabi_types.specs.Ranges.{added, before, behind, beyond, covers, held, joined, kind_at, set, touch, until}
use Rattle.lock_ranges.proofs.Places.{added_behind, added_grown, cases_covers, covers-inside, covers-outside, grown, kind_here, kind_later, touch_parts}

-- ---- one list behind another

-- the first of two kinds that is there
abbrev pub either : Option Kind → Option Kind → Option Kind
either None other = other
either (Some kind) other = Some kind

either-none : (kind : Option Kind) → either kind None ≡ kind
either-none None = refl
either-none (Some kind) = refl

pub kind_at-append : (ranges others : List Range) (place : ℕ) → kind_at (ranges ++ others) place ≡ either (kind_at ranges place) (kind_at others place)
kind_at-append [] others place = refl
kind_at-append (range ∷ ranges) others place =
    elim (covers range.start range.last place) as (λ b. cond b (Some range.kind) (kind_at (ranges ++ others) place) ≡ either (cond b (Some range.kind) (kind_at ranges place)) (kind_at others place)) [
      | true ↦ refl
      | false ↦ kind_at-append ranges others place
    ]

-- ---- what lies before a start

pub before_cut : (start : ℕ) (range : Range) (ranges : List Range) → range.start < start → before start (range ∷ ranges) ≡ until start range ∷ before start ranges
before_cut start range ranges lt = ap (λ b. cond b (until start range ∷ before start ranges) (before start ranges)) (lt-ltb range.start start lt)

pub before_out : (start : ℕ) (range : Range) (ranges : List Range) → start ≤ range.start → before start (range ∷ ranges) ≡ before start ranges
before_out start range ranges le = ap (λ b. cond b (until start range ∷ before start ranges) (before start ranges)) (le-ltb range.start start le)

pub kind_before : (start : ℕ) (ranges : List Range) (place : ℕ) → place < start → kind_at (before start ranges) place ≡ kind_at ranges place
kind_before start [] place below = refl
kind_before start (range ∷ ranges) place below = elim (cases_lt range.start start) [
  | inl lt ↦
      ap (λ (l : List Range). kind_at l place) (before_cut start range ranges lt)
      ∙ elim (cases_covers range.start range.last place) [
        | inl inside ↦
            kind_here (until start range) (before start ranges) place inside.0 (omega (arith, inside.1))
            ∙ sym (kind_here range ranges place inside.0 inside.1)
        | inr (inl out) ↦
            kind_later (until start range) (before start ranges) place (inl out) ∙ kind_before start ranges place below ∙ sym (kind_later range ranges place (inl out))
        | inr (inr out) ↦
            kind_later (until start range) (before start ranges) place (inr (omega arith)) ∙ kind_before start ranges place below ∙ sym (kind_later range ranges place (inr out))
      ]
  | inr le ↦
      ap (λ (l : List Range). kind_at l place) (before_out start range ranges le) ∙ kind_before start ranges place below
      ∙ sym (kind_later range ranges place (inl (omega arith)))
]

pub none_before : (start : ℕ) (ranges : List Range) (place : ℕ) → start ≤ place → kind_at (before start ranges) place ≡ None
none_before start [] place from = refl
none_before start (range ∷ ranges) place from = elim (cases_lt range.start start) [
  | inl lt ↦
      ap (λ (l : List Range). kind_at l place) (before_cut start range ranges lt)
      ∙ kind_later (until start range) (before start ranges) place (inr (omega arith)) ∙ none_before start ranges place from
  | inr le ↦ ap (λ (l : List Range). kind_at l place) (before_out start range ranges le) ∙ none_before start ranges place from
]

-- ---- what lies behind a last place

pub behind_cut : (last : ℕ) (range : Range) (ranges : List Range) → last < range.last → behind last (range ∷ ranges) ≡ beyond last range ∷ behind last ranges
behind_cut last range ranges lt = ap (λ b. cond b (beyond last range ∷ behind last ranges) (behind last ranges)) (lt-ltb last range.last lt)

pub behind_out : (last : ℕ) (range : Range) (ranges : List Range) → range.last ≤ last → behind last (range ∷ ranges) ≡ behind last ranges
behind_out last range ranges le = ap (λ b. cond b (beyond last range ∷ behind last ranges) (behind last ranges)) (le-ltb last range.last le)

pub kind_behind : (last : ℕ) (ranges : List Range) (place : ℕ) → last < place → kind_at (behind last ranges) place ≡ kind_at ranges place
kind_behind last [] place above = refl
kind_behind last (range ∷ ranges) place above = elim (cases_lt last range.last) [
  | inl lt ↦
      ap (λ (l : List Range). kind_at l place) (behind_cut last range ranges lt)
      ∙ elim (cases_covers range.start range.last place) [
        | inl inside ↦
            kind_here (beyond last range) (behind last ranges) place (omega (arith, inside.0)) inside.1
            ∙ sym (kind_here range ranges place inside.0 inside.1)
        | inr (inl out) ↦
            kind_later (beyond last range) (behind last ranges) place (inl (omega arith)) ∙ kind_behind last ranges place above ∙ sym (kind_later range ranges place (inl out))
        | inr (inr out) ↦
            kind_later (beyond last range) (behind last ranges) place (inr out) ∙ kind_behind last ranges place above ∙ sym (kind_later range ranges place (inr out))
      ]
  | inr le ↦
      ap (λ (l : List Range). kind_at l place) (behind_out last range ranges le) ∙ kind_behind last ranges place above
      ∙ sym (kind_later range ranges place (inr (omega arith)))
]

pub none_behind : (last : ℕ) (ranges : List Range) (place : ℕ) → place ≤ last → kind_at (behind last ranges) place ≡ None
none_behind last [] place to = refl
none_behind last (range ∷ ranges) place to = elim (cases_lt last range.last) [
  | inl lt ↦
      ap (λ (l : List Range). kind_at l place) (behind_cut last range ranges lt)
      ∙ kind_later (beyond last range) (behind last ranges) place (inl (omega arith)) ∙ none_behind last ranges place to
  | inr le ↦ ap (λ (l : List Range). kind_at l place) (behind_out last range ranges le) ∙ none_behind last ranges place to
]

-- ---- ranges that are joined

-- each has a place
abbrev pub AreFull : List Range → Type 0
AreFull [] = Unit {0}
AreFull (range ∷ ranges) = (range.start ≤ range.last) × AreFull ranges

AreFull-added : (ranges : List Range) (new : Range) → AreFull ranges → new.start ≤ new.last → AreFull (added ranges new)
AreFull-added [] new full order = (order, tt)
AreFull-added (range ∷ []) new full order = elim (cases_Bool (touch range new)) [
  | inl touching ↦
      let parts = touch_parts range new touching in
      subst (λ (l : List Range). AreFull l) (sym (added_grown range new touching)) (omega (arith, full.0, parts.1), tt)
  | inr apart ↦ subst (λ (l : List Range). AreFull l) (sym (added_behind range new apart)) (full.0, (order, tt))
]
AreFull-added (range ∷ next ∷ ranges) new full order = (full.0, AreFull-added (next ∷ ranges) new full.1 order)

kind_grown : (range new : Range) (place : ℕ) → range.start ≤ range.last → new.start ≤ new.last → touch range new ≡ true
    → kind_at (grown range new ∷ []) place ≡ kind_at (range ∷ new ∷ []) place
kind_grown range new place full order touching =
    let parts = touch_parts range new touching in
    let next : range.last + 1 ≡ new.start = parts.1 in
    elim (cases_covers range.start range.last place) [
      | inl inside ↦
          kind_here (grown range new) [] place inside.0 (omega (arith, inside.1)) ∙ sym (kind_here range (new ∷ []) place inside.0 inside.1)
      | inr (inl out) ↦
          kind_later (grown range new) [] place (inl out) ∙ sym (kind_later range (new ∷ []) place (inl out) ∙ kind_later new [] place (inl (omega arith)))
      | inr (inr out) ↦ elim (cases_covers new.start new.last place) [
        | inl inside ↦
            kind_here (grown range new) [] place (omega arith) inside.1 ∙ ap (λ k. Some k) parts.0
            ∙ sym (kind_later range (new ∷ []) place (inr out) ∙ kind_here new [] place inside.0 inside.1)
        | inr (inl below) ↦ absurd (omega arith)
        | inr (inr above) ↦
            kind_later (grown range new) [] place (inr above) ∙ sym (kind_later range (new ∷ []) place (inr out) ∙ kind_later new [] place (inr above))
      ]
    ]

kind_added : (ranges : List Range) (new : Range) (place : ℕ) → AreFull ranges → new.start ≤ new.last → kind_at (added ranges new) place ≡ kind_at (ranges ++ new ∷ []) place
kind_added [] new place full order = refl
kind_added (range ∷ []) new place full order = elim (cases_Bool (touch range new)) [
  | inl touching ↦ ap (λ (l : List Range). kind_at l place) (added_grown range new touching) ∙ kind_grown range new place full.0 order touching
  | inr apart ↦ ap (λ (l : List Range). kind_at l place) (added_behind range new apart)
]
kind_added (range ∷ next ∷ ranges) new place full order =
    ap (λ k. cond (covers range.start range.last place) (Some range.kind) k) (kind_added (next ∷ ranges) new place full.1 order)

pub kind_joined : (others ranges : List Range) (place : ℕ) → AreFull ranges → AreFull others → kind_at (joined ranges others) place ≡ kind_at (ranges ++ others) place
kind_joined [] ranges place full fulls = sym (kind_at-append ranges [] place ∙ either-none (kind_at ranges place))
kind_joined (new ∷ others) ranges place full fulls =
    kind_joined others (added ranges new) place (AreFull-added ranges new full fulls.0) fulls.1
    ∙ kind_at-append (added ranges new) others place
    ∙ ap (λ k. either k (kind_at others place)) (kind_added ranges new place full fulls.0)
    ∙ sym (kind_at-append (ranges ++ new ∷ []) others place)
    ∙ ap (λ (l : List Range). kind_at l place) (append_assoc ranges (new ∷ []) others)

-- ---- what is set

kind_held : (kind : Option Kind) (start last place : ℕ) → start ≤ place → place ≤ last → kind_at (held kind start last) place ≡ kind
kind_held None start last place from to = refl
kind_held (Some kind) start last place from to = kind_here (record { kind = kind; start = start; last = last }) [] place from to

none_held : (kind : Option Kind) (start last place : ℕ) → (place < start) ⊎ (last < place) → kind_at (held kind start last) place ≡ None
none_held None start last place out = refl
none_held (Some kind) start last place out = kind_later (record { kind = kind; start = start; last = last }) [] place out

-- the kinds that the three parts of what is set have at a place
kind_parts : (ranges : List Range) (kind : Option Kind) (start last place : ℕ) (first middle end : Option Kind)
    → AreFull (before start ranges) → AreFull (held kind start last ++ behind last ranges)
    → kind_at (before start ranges) place ≡ first → kind_at (held kind start last) place ≡ middle → kind_at (behind last ranges) place ≡ end
    → kind_at (set ranges kind start last) place ≡ either first (either middle end)
kind_parts ranges kind start last place first middle end full fulls is_first is_middle is_end =
    kind_joined (held kind start last ++ behind last ranges) (before start ranges) place full fulls
    ∙ kind_at-append (before start ranges) (held kind start last ++ behind last ranges) place
    ∙ ap (λ k. either (kind_at (before start ranges) place) k) (kind_at-append (held kind start last) (behind last ranges) place)
    ∙ ap (λ k. either k (either (kind_at (held kind start last) place) (kind_at (behind last ranges) place))) is_first
    ∙ ap (λ k. either first (either k (kind_at (behind last ranges) place))) is_middle
    ∙ ap (λ k. either first (either middle k)) is_end

-- what is set is what the places inside have, and the others keep what they had
pub kind_set : (ranges : List Range) (kind : Option Kind) (start last place : ℕ)
    → AreFull (before start ranges) → AreFull (held kind start last ++ behind last ranges) → start ≤ last
    → kind_at (set ranges kind start last) place ≡ cond (covers start last place) kind (kind_at ranges place)
kind_set ranges kind start last place full fulls order = elim (cases_covers start last place) [
  | inl inside ↦
      kind_parts ranges kind start last place None kind None full fulls
      (none_before start ranges place inside.0) (kind_held kind start last place inside.0 inside.1) (none_behind last ranges place inside.1)
      ∙ either-none kind
      ∙ sym (ap (λ b. cond b kind (kind_at ranges place)) (covers-inside start last place inside.0 inside.1))
  | inr (inl below) ↦
      kind_parts ranges kind start last place (kind_at ranges place) None None full fulls
      (kind_before start ranges place below) (none_held kind start last place (inl below)) (none_behind last ranges place (omega arith))
      ∙ either-none (kind_at ranges place)
      ∙ sym (ap (λ b. cond b kind (kind_at ranges place)) (covers-outside start last place (inl below)))
  | inr (inr above) ↦
      kind_parts ranges kind start last place None None (kind_at ranges place) full fulls
      (none_before start ranges place (omega arith)) (none_held kind start last place (inr above)) (kind_behind last ranges place above)
      ∙ sym (ap (λ b. cond b kind (kind_at ranges place)) (covers-outside start last place (inr above)))
]
