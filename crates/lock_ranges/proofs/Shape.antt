-- Ranges that lie apart stay so through cuts and joins.
use Rattle.std.proofs.Common.{◌≡◌, if◌then◌else◌, ℕ, ◌+◌, ◌<◌, ◌≤◌, ◌&&◌, eqb, List, [], ◌∷◌, ◌++◌, length, Option, None, Some, refl, ap, sym, subst, ◌∙◌, inl, inr, arith}
use Rattle.std.specs.List.{AllByRecursion}
use Rattle.std.proofs.lemmas.Bool.{and_right, cases_eq, cases_lt, cases_Bool, ne_eqb}
use Rattle.std.proofs.lemmas.List.{length-append}
use Rattle.kabi_types.specs.declared.ranges.Kind.{Kind}
use Rattle.kabi_types.specs.declared.ranges.Range.{Range}
use Rattle.kabi_types.specs.Ranges.{IsCanonical, LiesBefore, added, before, behind, covers, greatest, held, joined, kind_at, same_kind, set, touch, until}
use Rattle.lock_ranges.proofs.Places.{added_behind, added_grown}
use Rattle.lock_ranges.proofs.Meaning.{AreFull, before_cut, before_out, behind_cut, behind_out, kind_set}

-- ---- facts of each range

pub weaker : (P Q : Range → Type 0) → ((range : Range) → P range → Q range) → (ranges : List Range) → AllByRecursion P ranges → AllByRecursion Q ranges
weaker P Q leads [] all = tt
weaker P Q leads (range ∷ ranges) all = (leads range all.0, weaker P Q leads ranges all.1)

pub all_append : (P : Range → Type 0) (ranges others : List Range) → AllByRecursion P ranges → AllByRecursion P others → AllByRecursion P (ranges ++ others)
all_append P [] others all more = more
all_append P (range ∷ ranges) others all more = (all.0, all_append P ranges others all.1 more)

-- all end before a place; all begin behind one
abbrev pub EndBefore : ℕ → List Range → Type 0
EndBefore place ranges = AllByRecursion (λ range. range.last < place) ranges

abbrev pub BeginBehind : ℕ → List Range → Type 0
BeginBehind place ranges = AllByRecursion (λ range. place < range.start) ranges

-- each range has a place and ends at a place, before all that follow it begin
abbrev pub AreRising : List Range → Type 0
AreRising [] = Unit {0}
AreRising (range ∷ ranges) = (range.start ≤ range.last) × (range.last ≤ greatest) × BeginBehind range.last ranges × AreRising ranges

pub later_behind : (range : Range) (ranges : List Range) → AllByRecursion (LiesBefore range) ranges → BeginBehind range.last ranges
later_behind range ranges lie = weaker (LiesBefore range) (λ next. range.last < next.start) (λ next h. h.0) ranges lie

pub AreRising-canonical : (ranges : List Range) → IsCanonical ranges → AreRising ranges
AreRising-canonical [] canonical = tt
AreRising-canonical (range ∷ ranges) canonical =
    (canonical.0, canonical.1, later_behind range ranges canonical.2, AreRising-canonical ranges canonical.3)

AreFull-rising : (ranges : List Range) → AreRising ranges → AreFull ranges
AreFull-rising [] rising = tt
AreFull-rising (range ∷ ranges) rising = (rising.0, AreFull-rising ranges rising.3)

-- ---- a range that ends earlier, or begins later

pub lies-earlier : (range part next : Range) → part.kind ≡ range.kind → part.last ≤ range.last → LiesBefore range next → LiesBefore part next
lies-earlier range part next same earlier lies =
    let first : range.last < next.start = lies.0 in (
      omega arith,
      elim (cases_eq part.last range.last) [
        | inl equal ↦
            ap (λ k. same_kind k next.kind && eqb (part.last + 1) next.start) same
            ∙ ap (λ n. same_kind range.kind next.kind && eqb (n + 1) next.start) equal ∙ lies.1
        | inr differs ↦ and_right (same_kind part.kind next.kind) (eqb (part.last + 1) next.start) (ne_eqb (part.last + 1) next.start (λ next_is. omega arith))
      ],
    )

pub lies-later : (range next part : Range) → part.kind ≡ next.kind → next.start ≤ part.start → LiesBefore range next → LiesBefore range part
lies-later range next part same later lies =
    let first : range.last < next.start = lies.0 in (
      omega arith,
      elim (cases_eq part.start next.start) [
        | inl equal ↦
            ap (λ k. same_kind range.kind k && eqb (range.last + 1) part.start) same
            ∙ ap (λ n. same_kind range.kind next.kind && eqb (range.last + 1) n) equal ∙ lies.1
        | inr differs ↦ and_right (same_kind range.kind part.kind) (eqb (range.last + 1) part.start) (ne_eqb (range.last + 1) part.start (λ part_is. omega arith))
      ],
    )

-- one that begins two places behind
pub lies-apart : (range next : Range) → range.last + 1 < next.start → LiesBefore range next
lies-apart range next gap =
    (omega arith, and_right (same_kind range.kind next.kind) (eqb (range.last + 1) next.start) (ne_eqb (range.last + 1) next.start (λ next_is. omega arith)))

-- ---- what lies before a start

all_before : (start : ℕ) (range : Range) (ranges : List Range) → AllByRecursion (LiesBefore range) ranges → AllByRecursion (LiesBefore range) (before start ranges)
all_before start range [] lie = tt
all_before start range (next ∷ ranges) lie = elim (cases_lt next.start start) [
  | inl lt ↦ subst (λ (l : List Range). AllByRecursion (LiesBefore range) l) (sym (before_cut start next ranges lt)) (lie.0, all_before start range ranges lie.1)
  | inr le ↦ subst (λ (l : List Range). AllByRecursion (LiesBefore range) l) (sym (before_out start next ranges le)) (all_before start range ranges lie.1)
]

pub IsCanonical-before : (start : ℕ) (ranges : List Range) → IsCanonical ranges → IsCanonical (before start ranges)
IsCanonical-before start [] canonical = tt
IsCanonical-before start (range ∷ ranges) canonical =
    let order : range.start ≤ range.last = canonical.0 in
    let ends : range.last ≤ greatest = canonical.1 in
    elim (cases_lt range.start start) [
      | inl lt ↦
          subst (λ (l : List Range). IsCanonical l) (sym (before_cut start range ranges lt)) (
            omega arith,
            omega arith,
            weaker (LiesBefore range) (LiesBefore (until start range)) (λ next. lies-earlier range (until start range) next refl (omega arith))
                (before start ranges) (all_before start range ranges canonical.2),
            IsCanonical-before start ranges canonical.3,
          )
      | inr le ↦ subst (λ (l : List Range). IsCanonical l) (sym (before_out start range ranges le)) (IsCanonical-before start ranges canonical.3)
    ]

pub EndBefore-before : (start : ℕ) (ranges : List Range) → EndBefore start (before start ranges)
EndBefore-before start [] = tt
EndBefore-before start (range ∷ ranges) = elim (cases_lt range.start start) [
  | inl lt ↦ subst (λ (l : List Range). EndBefore start l) (sym (before_cut start range ranges lt)) (omega arith, EndBefore-before start ranges)
  | inr le ↦ subst (λ (l : List Range). EndBefore start l) (sym (before_out start range ranges le)) (EndBefore-before start ranges)
]

-- ---- what lies behind a last place

all_behind : (last place : ℕ) (ranges : List Range) → BeginBehind place ranges → BeginBehind place (behind last ranges)
all_behind last place [] begin = tt
all_behind last place (next ∷ ranges) begin =
    let first : place < next.start = begin.0 in
    elim (cases_lt last next.last) [
      | inl lt ↦ subst (λ (l : List Range). BeginBehind place l) (sym (behind_cut last next ranges lt)) (omega arith, all_behind last place ranges begin.1)
      | inr le ↦ subst (λ (l : List Range). BeginBehind place l) (sym (behind_out last next ranges le)) (all_behind last place ranges begin.1)
    ]

AreRising-behind : (last : ℕ) (ranges : List Range) → AreRising ranges → AreRising (behind last ranges)
AreRising-behind last [] rising = tt
AreRising-behind last (range ∷ ranges) rising =
    let order : range.start ≤ range.last = rising.0 in
    elim (cases_lt last range.last) [
      | inl lt ↦
          subst (λ (l : List Range). AreRising l) (sym (behind_cut last range ranges lt))
          (omega arith, rising.1, all_behind last range.last ranges rising.2, AreRising-behind last ranges rising.3)
      | inr le ↦ subst (λ (l : List Range). AreRising l) (sym (behind_out last range ranges le)) (AreRising-behind last ranges rising.3)
    ]

pub BeginBehind-behind : (last : ℕ) (ranges : List Range) → BeginBehind last (behind last ranges)
BeginBehind-behind last [] = tt
BeginBehind-behind last (range ∷ ranges) = elim (cases_lt last range.last) [
  | inl lt ↦ subst (λ (l : List Range). BeginBehind last l) (sym (behind_cut last range ranges lt)) (omega arith, BeginBehind-behind last ranges)
  | inr le ↦ subst (λ (l : List Range). BeginBehind last l) (sym (behind_out last range ranges le)) (BeginBehind-behind last ranges)
]

-- ---- one more range behind others

all_added : (range : Range) (ranges : List Range) (new : Range) → AllByRecursion (LiesBefore range) ranges → LiesBefore range new → AllByRecursion (LiesBefore range) (added ranges new)
all_added range [] new lie lies = (lies, tt)
all_added range (next ∷ []) new lie lies = elim (cases_Bool (touch next new)) [
  | inl touching ↦ subst (λ (l : List Range). AllByRecursion (LiesBefore range) l) (sym (added_grown next new touching)) (lie.0, tt)
  | inr apart ↦ subst (λ (l : List Range). AllByRecursion (LiesBefore range) l) (sym (added_behind next new apart)) (lie.0, (lies, tt))
]
all_added range (next ∷ other ∷ ranges) new lie lies = (lie.0, all_added range (other ∷ ranges) new lie.1 lies)

EndBefore-added : (place : ℕ) (ranges : List Range) (new : Range) → EndBefore place ranges → new.last < place → EndBefore place (added ranges new)
EndBefore-added place [] new ends lt = (lt, tt)
EndBefore-added place (range ∷ []) new ends lt = elim (cases_Bool (touch range new)) [
  | inl touching ↦ subst (λ (l : List Range). EndBefore place l) (sym (added_grown range new touching)) (lt, tt)
  | inr apart ↦ subst (λ (l : List Range). EndBefore place l) (sym (added_behind range new apart)) (ends.0, (lt, tt))
]
EndBefore-added place (range ∷ next ∷ ranges) new ends lt = (ends.0, EndBefore-added place (next ∷ ranges) new ends.1 lt)

IsCanonical-added : (ranges : List Range) (new : Range) → IsCanonical ranges → new.start ≤ new.last → new.last ≤ greatest → EndBefore new.start ranges → IsCanonical (added ranges new)
IsCanonical-added [] new canonical order within ends = (order, within, tt, tt)
IsCanonical-added (range ∷ []) new canonical order within ends =
    let full : range.start ≤ range.last = canonical.0 in
    let first : range.last < new.start = ends.0 in
    elim (cases_Bool (touch range new)) [
      | inl touching ↦ subst (λ (l : List Range). IsCanonical l) (sym (added_grown range new touching)) (omega arith, within, tt, tt)
      | inr apart ↦
          subst (λ (l : List Range). IsCanonical l) (sym (added_behind range new apart))
          (full, canonical.1, ((first, apart), tt), (order, within, tt, tt))
    ]
IsCanonical-added (range ∷ next ∷ ranges) new canonical order within ends =
    let lies : range.last < next.start = canonical.2.0.0 in
    let full : next.start ≤ next.last = canonical.3.0 in
    let first : next.last < new.start = ends.1.0 in (
      canonical.0,
      canonical.1,
      all_added range (next ∷ ranges) new canonical.2 (lies-apart range new (omega arith)),
      IsCanonical-added (next ∷ ranges) new canonical.3 order within ends.1,
    )

-- ---- and others behind these

-- all of these end before each of the others begins
abbrev pub EndBeforeAll : List Range → List Range → Type 0
EndBeforeAll ranges others = AllByRecursion (λ other. EndBefore other.start ranges) others

all_end_before : (ranges : List Range) (new : Range) (others : List Range) → EndBeforeAll ranges others → BeginBehind new.last others → EndBeforeAll (added ranges new) others
all_end_before ranges new [] end begin = tt
all_end_before ranges new (other ∷ others) end begin =
    (EndBefore-added other.start ranges new end.0 begin.0, all_end_before ranges new others end.1 begin.1)

IsCanonical-joined : (others ranges : List Range) → IsCanonical ranges → AreRising others → EndBeforeAll ranges others → IsCanonical (joined ranges others)
IsCanonical-joined [] ranges canonical rising end = canonical
IsCanonical-joined (new ∷ others) ranges canonical rising end =
    IsCanonical-joined others (added ranges new) (IsCanonical-added ranges new canonical rising.0 rising.1 end.0) rising.3
    (all_end_before ranges new others end.1 rising.2)

-- ---- what is set

AreRising-new : (kind : Option Kind) (start last : ℕ) (ranges : List Range) → start ≤ last → last ≤ greatest → AreRising ranges
    → AreRising (held kind start last ++ behind last ranges)
AreRising-new None start last ranges order within rising = AreRising-behind last ranges rising
AreRising-new (Some kind) start last ranges order within rising = (order, within, BeginBehind-behind last ranges, AreRising-behind last ranges rising)

begin_new : (kind : Option Kind) (start last : ℕ) (ranges : List Range) → start ≤ last
    → AllByRecursion (λ range. start ≤ range.start) (held kind start last ++ behind last ranges)
begin_new None start last ranges order =
    weaker (λ range. last < range.start) (λ range. start ≤ range.start) (λ range h. omega arith) (behind last ranges) (BeginBehind-behind last ranges)
begin_new (Some kind) start last ranges order =
    (omega arith, weaker (λ range. last < range.start) (λ range. start ≤ range.start) (λ range h. omega arith) (behind last ranges) (BeginBehind-behind last ranges))

all_end : (start : ℕ) (ranges others : List Range) → EndBefore start ranges → AllByRecursion (λ other. start ≤ other.start) others → EndBeforeAll ranges others
all_end start ranges [] ends begin = tt
all_end start ranges (other ∷ others) ends begin =
    let from : start ≤ other.start = begin.0 in
    (weaker (λ range. range.last < start) (λ range. range.last < other.start) (λ range h. omega arith) ranges ends, all_end start ranges others ends begin.1)

pub IsCanonical-set : (ranges : List Range) (kind : Option Kind) (start last : ℕ) → IsCanonical ranges → start ≤ last → last ≤ greatest
    → IsCanonical (set ranges kind start last)
IsCanonical-set ranges kind start last canonical order within =
    IsCanonical-joined (held kind start last ++ behind last ranges) (before start ranges) (IsCanonical-before start ranges canonical)
    (AreRising-new kind start last ranges order within (AreRising-canonical ranges canonical))
    (all_end start (before start ranges) (held kind start last ++ behind last ranges) (EndBefore-before start ranges) (begin_new kind start last ranges order))

-- what is set is what the places inside have, and the others keep what they had
pub kind_at-set : (ranges : List Range) (kind : Option Kind) (start last place : ℕ) → IsCanonical ranges → start ≤ last → last ≤ greatest
    → kind_at (set ranges kind start last) place ≡ (if covers start last place then kind else kind_at ranges place)
kind_at-set ranges kind start last place canonical order within =
    kind_set ranges kind start last place
    (AreFull-rising (before start ranges) (AreRising-canonical (before start ranges) (IsCanonical-before start ranges canonical)))
    (AreFull-rising (held kind start last ++ behind last ranges) (AreRising-new kind start last ranges order within (AreRising-canonical ranges canonical)))
    order

-- ---- how many there are

length-added : (ranges : List Range) (new : Range) → length (added ranges new) ≤ length ranges + 1
length-added [] new = omega arith
length-added (range ∷ []) new = elim (cases_Bool (touch range new)) [
  | inl touching ↦ omega (arith, ap length (added_grown range new touching))
  | inr apart ↦ omega (arith, ap length (added_behind range new apart))
]
length-added (range ∷ next ∷ ranges) new = omega (arith, length-added (next ∷ ranges) new)

length-joined : (others ranges : List Range) → length (joined ranges others) ≤ length ranges + length others
length-joined [] ranges = omega arith
length-joined (new ∷ others) ranges = omega (arith, length-joined others (added ranges new), length-added ranges new)

length-behind : (last : ℕ) (ranges : List Range) → length (behind last ranges) ≤ length ranges
length-behind last [] = omega arith
length-behind last (range ∷ ranges) = elim (cases_lt last range.last) [
  | inl lt ↦ omega (arith, ap length (behind_cut last range ranges lt), length-behind last ranges)
  | inr le ↦ omega (arith, ap length (behind_out last range ranges le), length-behind last ranges)
]

none_before : (start place : ℕ) (ranges : List Range) → start ≤ place → BeginBehind place ranges → length (before start ranges) ≡ 0
none_before start place [] from begin = refl
none_before start place (range ∷ ranges) from begin =
    let first : place < range.start = begin.0 in
    ap length (before_out start range ranges (omega arith)) ∙ none_before start place ranges from begin.1

-- one range at most is in two pieces
length-pieces : (start last : ℕ) (ranges : List Range) → start ≤ last → AreRising ranges
    → length (before start ranges) + length (behind last ranges) ≤ length ranges + 1
length-pieces start last [] order rising = omega arith
length-pieces start last (range ∷ ranges) order rising = elim (cases_lt last range.last) [
  | inl over ↦ elim (cases_lt range.start start) [
    | inl under ↦
        omega (
          arith,
          ap length (before_cut start range ranges under),
          ap length (behind_cut last range ranges over),
          none_before start range.last ranges (omega arith) rising.2,
          length-behind last ranges,
        )
    | inr from ↦
        omega (arith, ap length (before_out start range ranges from), ap length (behind_cut last range ranges over), length-pieces start last ranges order rising.3)
  ]
  | inr to ↦ elim (cases_lt range.start start) [
    | inl under ↦
        omega (arith, ap length (before_cut start range ranges under), ap length (behind_out last range ranges to), length-pieces start last ranges order rising.3)
    | inr from ↦
        omega (arith, ap length (before_out start range ranges from), ap length (behind_out last range ranges to), length-pieces start last ranges order rising.3)
  ]
]

length-held : (kind : Option Kind) (start last : ℕ) → length (held kind start last) ≤ 1
length-held None start last = omega arith
length-held (Some kind) start last = omega arith

pub length-set : (ranges : List Range) (kind : Option Kind) (start last : ℕ) → IsCanonical ranges → start ≤ last
    → length (set ranges kind start last) ≤ length ranges + 2
length-set ranges kind start last canonical order =
    omega (
      arith,
      length-joined (held kind start last ++ behind last ranges) (before start ranges),
      length-append (held kind start last) (behind last ranges),
      length-held kind start last,
      length-pieces start last ranges order (AreRising-canonical ranges canonical),
    )
