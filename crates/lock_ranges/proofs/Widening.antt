-- A range that takes in what it touches of its kind: it is set as what was asked for is, and nothing is joined to it.
use Rattle.std.proofs.Common.{◌≡◌, ℕ, ◌+◌, ◌-◌, ◌<◌, ◌≤◌, ◌&&◌, Bool, true, false, cond, eqb, leb, List, [], ◌∷◌, ◌++◌, append_assoc, None, Some, refl, ap, sym, subst, ◌∙◌, inl, inr, arith}
use Rattle.std.specs.List.{AllByRecursion}
use Rattle.std.proofs.lemmas.Bool.{and_from, and_parts, cases_Bool, cases_lt, eq-eqb, le-leb, leb-true}
use Rattle.std.proofs.lemmas.List.{append-nil}
use Rattle.kabi_types.specs.declared.ranges.Kind.{Kind}
use Rattle.kabi_types.specs.declared.ranges.Range.{Range}
use Rattle.kabi_types.specs.Ranges.{IsCanonical, LiesBefore, added, before, behind, beyond, covers, greatest, joined, kind_at, same_kind, set, touch, until}
use Rattle.lock_ranges.specs.Widening.{Begins, Ends, IsAmong, IsWidened, reaches}
use Rattle.lock_ranges.proofs.Meaning.{before_cut, before_out, behind_cut, behind_out}
use Rattle.lock_ranges.proofs.Places.{added_behind, cases_covers, covers-inside, covers-outside, kind_here, kind_itself, kind_later, kinds_same, touch_parts}
use Rattle.lock_ranges.proofs.Shape.{BeginBehind, BeginBehind-behind, EndBefore, EndBefore-before, IsCanonical-before, IsCanonical-set, all_append, kind_at-set, lies-apart, lies-earlier, lies-later, weaker}
use Rattle.lock_ranges.proofs.Unique.{only_one}

-- ---- members of a list

-- a range is one of these
abbrev pub IsIn : List Range → Range → Type 0
IsIn ranges range = IsAmong (λ other. other ≡ range) ranges

all_at : (P : Range → Type 0) (ranges : List Range) (range : Range) → AllByRecursion P ranges → IsIn ranges range → P range
all_at P [] range all there = absurd there
all_at P (first ∷ ranges) range all (inl same) = subst P same all.0
all_at P (first ∷ ranges) range all (inr later) = all_at P ranges range all.1 later

among_one : (P : Range → Type 0) (ranges : List Range) → IsAmong P ranges → (range : Range) × P range × IsIn ranges range
among_one P [] among = absurd among
among_one P (first ∷ ranges) (inl here) = (first, here, inl refl)
among_one P (first ∷ ranges) (inr later) = let it = among_one P ranges later in (it.0, it.1, inr it.2)

all_by : (P : Range → Type 0) (ranges : List Range) → ((range : Range) → IsIn ranges range → P range) → AllByRecursion P ranges
all_by P [] each = tt
all_by P (first ∷ ranges) each = (each first (inl refl), all_by P ranges (λ range there. each range (inr there)))

-- two of one kind lie apart
not_touching : (range next : Range) → LiesBefore range next → range.kind ≡ next.kind → range.last + 1 < next.start
not_touching range next lies same = elim (cases_lt (range.last + 1) next.start) [
  | inl lt ↦ lt
  | inr le ↦
      let first : range.last < next.start = lies.0 in
      let touching : touch range next ≡ true =
      and_from (same_kind range.kind next.kind) (eqb (range.last + 1) next.start)
      (ap (λ k. same_kind range.kind k) (sym same) ∙ kind_itself range.kind) (eq-eqb (range.last + 1) next.start (omega arith)) in
      absurd (let wrong : false ≡ true = sym lies.1 ∙ touching in cc)
]

members_apart : (ranges : List Range) (one other : Range) → IsCanonical ranges → IsIn ranges one → IsIn ranges other → one.kind ≡ other.kind → one.start < other.start
    → one.last + 1 < other.start
members_apart [] one other canonical here there same before = absurd here
members_apart (first ∷ ranges) one other canonical (inl is) (inl also) same before =
    absurd (let starts : one.start ≡ other.start = ap (λ (r : Range). r.start) (sym is ∙ also) in omega arith)
members_apart (first ∷ ranges) one other canonical (inl is) (inr later) same before =
    not_touching one other (subst (λ (r : Range). LiesBefore r other) is (all_at (LiesBefore first) ranges other canonical.2 later)) same
members_apart (first ∷ ranges) one other canonical (inr later) (inl is) same before =
    let lies : LiesBefore first one = all_at (LiesBefore first) ranges one canonical.2 later in
    let ends : first.last < one.start = lies.0 in
    let order : first.start ≤ first.last = canonical.0 in
    let starts : first.start ≡ other.start = ap (λ (r : Range). r.start) is in
    absurd (omega arith)
members_apart (first ∷ ranges) one other canonical (inr later) (inr behind) same before = members_apart ranges one other canonical.3 later behind same before

kind_of_member : (ranges : List Range) (range : Range) (place : ℕ) → IsCanonical ranges → IsIn ranges range → range.start ≤ place → place ≤ range.last → kind_at ranges place ≡ Some range.kind
kind_of_member [] range place canonical there from to = absurd there
kind_of_member (first ∷ ranges) range place canonical (inl is) from to =
    subst (λ (r : Range). kind_at (r ∷ ranges) place ≡ Some range.kind) (sym is) (kind_here range ranges place from to)
kind_of_member (first ∷ ranges) range place canonical (inr later) from to =
    let lies : LiesBefore first range = all_at (LiesBefore first) ranges range canonical.2 later in
    let ends : first.last < range.start = lies.0 in
    kind_later first ranges place (inr (omega arith)) ∙ kind_of_member ranges range place canonical.3 later from to

within_places : (ranges : List Range) (range : Range) → IsCanonical ranges → IsIn ranges range → range.last ≤ greatest
within_places [] range canonical there = absurd there
within_places (first ∷ ranges) range canonical (inl is) = subst (λ (r : Range). r.last ≤ greatest) is canonical.1
within_places (first ∷ ranges) range canonical (inr later) = within_places ranges range canonical.3 later

-- ---- what is reached

reaches_parts : (asked range : Range) → reaches asked range ≡ true → (range.kind ≡ asked.kind) × (range.start - 1 ≤ asked.last) × (asked.start - 1 ≤ range.last)
reaches_parts asked range is =
    let parts = and_parts (same_kind range.kind asked.kind) (leb (range.start - 1) asked.last && leb (asked.start - 1) range.last) is in
    let places = and_parts (leb (range.start - 1) asked.last) (leb (asked.start - 1) range.last) parts.1 in
    (kinds_same range.kind asked.kind parts.0, leb-true (range.start - 1) asked.last places.0, leb-true (asked.start - 1) range.last places.1)

reaches_from : (asked range : Range) → range.kind ≡ asked.kind → range.start - 1 ≤ asked.last → asked.start - 1 ≤ range.last → reaches asked range ≡ true
reaches_from asked range same from to =
    and_from (same_kind range.kind asked.kind) (leb (range.start - 1) asked.last && leb (asked.start - 1) range.last)
    (ap (λ k. same_kind range.kind k) (sym same) ∙ kind_itself range.kind)
    (and_from (leb (range.start - 1) asked.last) (leb (asked.start - 1) range.last) (le-leb (range.start - 1) asked.last from) (le-leb (asked.start - 1) range.last to))

module _ (ranges : List Range) (asked wide : Range) (canonical : IsCanonical ranges) (order : asked.start ≤ asked.last) (within : asked.last ≤ greatest) (widened : IsWidened ranges asked wide) where
  -- who is of its kind and begins before it ends more than a place before it
  ends_before : (range : Range) → IsIn ranges range → range.kind ≡ asked.kind → range.start < wide.start → range.last + 1 < wide.start
  ends_before range there same first = elim (cases_lt (range.last + 1) wide.start) [
    | inl lt ↦ lt
    | inr le ↦ elim widened.start_is [
      | inl is ↦
          let all = all_at _ ranges range widened.all there (reaches_from asked range same (omega (arith, is)) (omega (arith, is))) in
          absurd (omega (arith, all.0))
      | inr among ↦
          let it = among_one (Begins asked wide.start) ranges among in
          let parts = reaches_parts asked it.0 it.1.0 in
          let begins : it.0.start ≡ wide.start = it.1.1 in
          let apart = members_apart ranges range it.0 canonical there it.2 (same ∙ sym parts.0) (omega arith) in
          absurd (omega (arith, apart))
    ]
  ]

  begins_behind : (range : Range) → IsIn ranges range → range.kind ≡ asked.kind → wide.last < range.last → wide.last + 1 < range.start
  begins_behind range there same longer = elim (cases_lt (wide.last + 1) range.start) [
    | inl lt ↦ lt
    | inr le ↦ elim widened.last_is [
      | inl is ↦
          let all = all_at _ ranges range widened.all there (reaches_from asked range same (omega (arith, is)) (omega (arith, is))) in
          absurd (omega (arith, all.1))
      | inr among ↦
          let it = among_one (Ends asked wide.last) ranges among in
          let parts = reaches_parts asked it.0 it.1.0 in
          let ends : it.0.last ≡ wide.last = it.1.1 in
          elim (cases_lt it.0.start range.start) [
            | inl before ↦ absurd (let apart = members_apart ranges it.0 range canonical it.2 there (parts.0 ∙ sym same) before in omega (arith, apart))
            | inr not_before ↦ elim (cases_lt range.start it.0.start) [
              | inl before ↦
                  let full : it.0.start ≤ it.0.last = all_at (λ r. r.start ≤ r.last) ranges it.0 (full_all ranges canonical) it.2 in
                  absurd (let apart = members_apart ranges range it.0 canonical there it.2 (same ∙ sym parts.0) before in omega (arith, apart))
              | inr not_behind ↦
                  let one : range.last ≤ it.0.last = same_start ranges range it.0 canonical there it.2 (omega arith) in
                  absurd (omega arith)
            ]
          ]
    ]
  ]
    where
      full_all : (some : List Range) → IsCanonical some → AllByRecursion (λ r. r.start ≤ r.last) some
      full_all [] c = tt
      full_all (first ∷ rest) c = (c.0, full_all rest c.3)

      -- of two that begin at one place neither is longer
      same_start : (some : List Range) (one other : Range) → IsCanonical some → IsIn some one → IsIn some other → one.start ≡ other.start → one.last ≤ other.last
      same_start [] one other c here also starts = absurd here
      same_start (first ∷ rest) one other c (inl is) (inl too) starts = omega (arith, ap (λ (r : Range). r.last) (sym is ∙ too))
      same_start (first ∷ rest) one other c (inl is) (inr later) starts =
          let lies : first.last < other.start = (all_at (LiesBefore first) rest other c.2 later).0 in
          let first_is : first.start ≡ one.start = ap (λ (r : Range). r.start) is in
          let full : first.start ≤ first.last = c.0 in
          absurd (omega arith)
      same_start (first ∷ rest) one other c (inr later) (inl is) starts =
          let lies : first.last < one.start = (all_at (LiesBefore first) rest one c.2 later).0 in
          let first_is : first.start ≡ other.start = ap (λ (r : Range). r.start) is in
          let full : first.start ≤ first.last = c.0 in
          absurd (omega arith)
      same_start (first ∷ rest) one other c (inr later) (inr behind) starts = same_start rest one other c.3 later behind starts

  -- it has places alone
  within_wide : wide.last ≤ greatest
  within_wide = elim widened.last_is [
    | inl is ↦ omega (arith, is)
    | inr among ↦ let it = among_one (Ends asked wide.last) ranges among in subst (λ n. n ≤ greatest) it.1.1 (within_places ranges it.0 canonical it.2)
  ]

  -- ---- what is held there without being asked for

  held_first : (place : ℕ) → wide.start ≤ place → place < asked.start → kind_at ranges place ≡ Some asked.kind
  held_first place from before = elim widened.start_is [
    | inl is ↦ absurd (omega (arith, is))
    | inr among ↦
        let it = among_one (Begins asked wide.start) ranges among in
        let parts = reaches_parts asked it.0 it.1.0 in
        let begins : it.0.start ≡ wide.start = it.1.1 in
        kind_of_member ranges it.0 place canonical it.2 (omega arith) (omega (arith, parts.2)) ∙ ap (λ k. Some k) parts.0
  ]

  held_last : (place : ℕ) → asked.last < place → place ≤ wide.last → kind_at ranges place ≡ Some asked.kind
  held_last place above to = elim widened.last_is [
    | inl is ↦ absurd (omega (arith, is))
    | inr among ↦
        let it = among_one (Ends asked wide.last) ranges among in
        let parts = reaches_parts asked it.0 it.1.0 in
        let ends : it.0.last ≡ wide.last = it.1.1 in
        kind_of_member ranges it.0 place canonical it.2 (omega (arith, parts.1)) (omega arith) ∙ ap (λ k. Some k) parts.0
  ]

  order_wide : wide.start ≤ wide.last
  order_wide = omega (arith, widened.from, widened.to)

  -- setting the wide one says the same of each place
  said_so : (place : ℕ) → cond (covers wide.start wide.last place) (Some asked.kind) (kind_at ranges place) ≡ cond (covers asked.start asked.last place) (Some asked.kind) (kind_at ranges place)
  said_so place = elim (cases_covers asked.start asked.last place) [
    | inl inside ↦
        chosen (covers wide.start wide.last place) true (covers-inside wide.start wide.last place (omega (arith, widened.from, inside.0)) (omega (arith, widened.to, inside.1)))
        ∙ sym (chosen (covers asked.start asked.last place) true (covers-inside asked.start asked.last place inside.0 inside.1))
    | inr (inl below) ↦ elim (cases_lt place wide.start) [
      | inl before ↦
          chosen (covers wide.start wide.last place) false (covers-outside wide.start wide.last place (inl before))
          ∙ sym (chosen (covers asked.start asked.last place) false (covers-outside asked.start asked.last place (inl below)))
      | inr from ↦
          chosen (covers wide.start wide.last place) true (covers-inside wide.start wide.last place from (omega (arith, widened.to)))
          ∙ sym (held_first place from below)
          ∙ sym (chosen (covers asked.start asked.last place) false (covers-outside asked.start asked.last place (inl below)))
    ]
    | inr (inr above) ↦ elim (cases_lt wide.last place) [
      | inl behind ↦
          chosen (covers wide.start wide.last place) false (covers-outside wide.start wide.last place (inr behind))
          ∙ sym (chosen (covers asked.start asked.last place) false (covers-outside asked.start asked.last place (inr above)))
      | inr to ↦
          chosen (covers wide.start wide.last place) true (covers-inside wide.start wide.last place (omega (arith, widened.from)) to)
          ∙ sym (held_last place above to)
          ∙ sym (chosen (covers asked.start asked.last place) false (covers-outside asked.start asked.last place (inr above)))
    ]
  ]
    where
      chosen : (b c : Bool) → b ≡ c → cond b (Some asked.kind) (kind_at ranges place) ≡ cond c (Some asked.kind) (kind_at ranges place)
      chosen b c is = ap (λ x. cond x (Some asked.kind) (kind_at ranges place)) is

  set_wide : set ranges (Some asked.kind) asked.start asked.last ≡ set ranges (Some asked.kind) wide.start wide.last
  set_wide =
      only_one (set ranges (Some asked.kind) asked.start asked.last) (set ranges (Some asked.kind) wide.start wide.last)
      (IsCanonical-set ranges (Some asked.kind) asked.start asked.last canonical order within)
      (IsCanonical-set ranges (Some asked.kind) wide.start wide.last canonical order_wide within_wide) (λ place fits.
      kind_at-set ranges (Some asked.kind) asked.start asked.last place canonical order within
      ∙ sym (said_so place)
      ∙ sym (kind_at-set ranges (Some asked.kind) wide.start wide.last place canonical order_wide within_wide))

-- ---- where nothing is joined

added_apart : (ranges : List Range) (new : Range) (others : List Range) → IsCanonical (ranges ++ new ∷ others) → added ranges new ≡ ranges ++ new ∷ []
added_apart [] new others canonical = refl
added_apart (range ∷ []) new others canonical = added_behind range new canonical.2.0.1
added_apart (range ∷ next ∷ ranges) new others canonical = ap (λ (l : List Range). range ∷ l) (added_apart (next ∷ ranges) new others canonical.3)

joined_apart : (others ranges : List Range) → IsCanonical (ranges ++ others) → joined ranges others ≡ ranges ++ others
joined_apart [] ranges canonical = sym (append-nil ranges)
joined_apart (new ∷ others) ranges canonical =
    ap (λ (l : List Range). joined l others) (added_apart ranges new others canonical)
    ∙ joined_apart others (ranges ++ new ∷ []) (subst (λ (l : List Range). IsCanonical l) (sym (append_assoc ranges (new ∷ []) others)) canonical)
    ∙ append_assoc ranges (new ∷ []) others

canonical_append : (ranges others : List Range) → IsCanonical ranges → IsCanonical others → AllByRecursion (λ range. AllByRecursion (LiesBefore range) others) ranges → IsCanonical (ranges ++ others)
canonical_append [] others canonical canonicals lie = canonicals
canonical_append (range ∷ ranges) others canonical canonicals lie =
    (canonical.0, canonical.1, all_append (LiesBefore range) ranges others canonical.2 lie.0, canonical_append ranges others canonical.3 canonicals lie.1)

all_later : (last : ℕ) (range : Range) (ranges : List Range) → AllByRecursion (LiesBefore range) ranges → AllByRecursion (LiesBefore range) (behind last ranges)
all_later last range [] lie = tt
all_later last range (next ∷ ranges) lie = elim (cases_lt last next.last) [
  | inl lt ↦
      subst (λ (l : List Range). AllByRecursion (LiesBefore range) l) (sym (behind_cut last next ranges lt))
      (lies-later range next (beyond last next) refl (omega arith) lie.0, all_later last range ranges lie.1)
  | inr le ↦ subst (λ (l : List Range). AllByRecursion (LiesBefore range) l) (sym (behind_out last next ranges le)) (all_later last range ranges lie.1)
]

IsCanonical-behind : (last : ℕ) (ranges : List Range) → IsCanonical ranges → IsCanonical (behind last ranges)
IsCanonical-behind last [] canonical = tt
IsCanonical-behind last (range ∷ ranges) canonical =
    let order : range.start ≤ range.last = canonical.0 in
    elim (cases_lt last range.last) [
      | inl lt ↦
          subst (λ (l : List Range). IsCanonical l) (sym (behind_cut last range ranges lt)) (
            omega arith,
            canonical.1,
            weaker (LiesBefore range) (LiesBefore (beyond last range)) (λ next. lies-earlier range (beyond last range) next refl (omega arith))
                (behind last ranges) (all_later last range ranges canonical.2),
            IsCanonical-behind last ranges canonical.3,
          )
      | inr le ↦ subst (λ (l : List Range). IsCanonical l) (sym (behind_out last range ranges le)) (IsCanonical-behind last ranges canonical.3)
    ]

-- what ends before a place lies before what begins more than a place behind it
lie_apart : (start last : ℕ) (ranges others : List Range) → start ≤ last → EndBefore start ranges → BeginBehind last others → AllByRecursion (λ range. AllByRecursion (LiesBefore range) others) ranges
lie_apart start last [] others order ends begin = tt
lie_apart start last (range ∷ ranges) others order ends begin =
    let first : range.last < start = ends.0 in (
      weaker (λ other. last < other.start) (LiesBefore range) (λ other above. lies-apart range other (omega (arith, above))) others begin,
      lie_apart start last ranges others order ends.1 begin,
    )

pub set_none : (ranges : List Range) (start last : ℕ) → IsCanonical ranges → start ≤ last → last ≤ greatest → set ranges None start last ≡ before start ranges ++ behind last ranges
set_none ranges start last canonical order within =
    joined_apart (behind last ranges) (before start ranges)
    (canonical_append (before start ranges) (behind last ranges) (IsCanonical-before start ranges canonical) (IsCanonical-behind last ranges canonical)
    (lie_apart start last (before start ranges) (behind last ranges) order (EndBefore-before start ranges) (BeginBehind-behind last ranges)))

-- ---- the wide range between what lies before it and behind it

module _ (wide : Range) where
  pieces_before : (ranges : List Range) → AllByRecursion (λ range. range.start < wide.start → range.kind ≡ wide.kind → range.last + 1 < wide.start) ranges
      → AllByRecursion (λ range. LiesBefore range wide) (before wide.start ranges)
  pieces_before [] all = tt
  pieces_before (range ∷ ranges) all = elim (cases_lt range.start wide.start) [
    | inl lt ↦
        subst (λ (l : List Range). AllByRecursion (λ range. LiesBefore range wide) l) (sym (before_cut wide.start range ranges lt))
        ((omega arith, free lt), pieces_before ranges all.1)
    | inr le ↦ subst (λ (l : List Range). AllByRecursion (λ range. LiesBefore range wide) l) (sym (before_out wide.start range ranges le)) (pieces_before ranges all.1)
  ]
    where
      free : range.start < wide.start → touch (until wide.start range) wide ≡ false
      free lt = elim (cases_Bool (touch (until wide.start range) wide)) [
        | inl touching ↦
            let parts = touch_parts (until wide.start range) wide touching in
            absurd (let gap = all.0 lt parts.0 in omega (arith, gap, parts.1))
        | inr apart ↦ apart
      ]

  pieces_behind : (ranges : List Range) → AllByRecursion (λ range. wide.last < range.last → range.kind ≡ wide.kind → wide.last + 1 < range.start) ranges
      → AllByRecursion (LiesBefore wide) (behind wide.last ranges)
  pieces_behind [] all = tt
  pieces_behind (range ∷ ranges) all = elim (cases_lt wide.last range.last) [
    | inl lt ↦
        subst (λ (l : List Range). AllByRecursion (LiesBefore wide) l) (sym (behind_cut wide.last range ranges lt))
        ((omega arith, free lt), pieces_behind ranges all.1)
    | inr le ↦ subst (λ (l : List Range). AllByRecursion (LiesBefore wide) l) (sym (behind_out wide.last range ranges le)) (pieces_behind ranges all.1)
  ]
    where
      free : wide.last < range.last → touch wide (beyond wide.last range) ≡ false
      free lt = elim (cases_Bool (touch wide (beyond wide.last range))) [
        | inl touching ↦
            let parts = touch_parts wide (beyond wide.last range) touching in
            absurd (let gap = all.0 lt (sym parts.0) in omega (arith, gap, parts.1))
        | inr apart ↦ apart
      ]

-- both facts of each
both : (P Q : Range → Type 0) (ranges : List Range) → AllByRecursion P ranges → AllByRecursion Q ranges → AllByRecursion (λ range. P range × Q range) ranges
both P Q [] all also = tt
both P Q (range ∷ ranges) all also = ((all.0, also.0), both P Q ranges all.1 also.1)

pub set_held : (ranges : List Range) (asked wide : Range) → IsCanonical ranges → asked.start ≤ asked.last → asked.last ≤ greatest → IsWidened ranges asked wide
    → set ranges (Some asked.kind) asked.start asked.last ≡ before wide.start ranges ++ wide ∷ behind wide.last ranges
set_held ranges asked wide canonical order within widened =
    let lies_before = pieces_before wide ranges (all_by _ ranges (λ range there first same. ends_before ranges asked wide canonical order within widened range there (same ∙ widened.kind) first)) in
    let lies_behind = pieces_behind wide ranges (all_by _ ranges (λ range there longer same. begins_behind ranges asked wide canonical order within widened range there (same ∙ widened.kind) longer)) in
    let fits : wide.last ≤ greatest = within_wide ranges asked wide canonical order within widened in
    let full : wide.start ≤ wide.last = order_wide ranges asked wide canonical order within widened in
    let back : IsCanonical (wide ∷ behind wide.last ranges) = (full, fits, lies_behind, IsCanonical-behind wide.last ranges canonical) in
    let beside = lie_apart wide.start wide.last (before wide.start ranges) (behind wide.last ranges) full (EndBefore-before wide.start ranges) (BeginBehind-behind wide.last ranges) in
    set_wide ranges asked wide canonical order within widened
    ∙ ap (λ (r : Range). joined (before wide.start ranges) (r ∷ behind wide.last ranges)) (ap (λ (k : Kind). record { kind = k; start = wide.start; last = wide.last }) (sym widened.kind))
    ∙ joined_apart (wide ∷ behind wide.last ranges) (before wide.start ranges)
    (canonical_append (before wide.start ranges) (wide ∷ behind wide.last ranges) (IsCanonical-before wide.start ranges canonical) back
    (both (λ range. LiesBefore range wide) (λ range. AllByRecursion (LiesBefore range) (behind wide.last ranges)) (before wide.start ranges) lies_before beside))
