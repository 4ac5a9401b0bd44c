-- A range that is in the way, and a place that two can't hold.
use Rattle.std.proofs.Common.{◌≡◌, ℕ, ◌<◌, ◌≤◌, max, Bool, true, false, ◌&&◌, cond, leb, suc, get_or, drop, length, List, [], ◌∷◌, Option, None, Some, IsSome, is_some, refl, ap, sym, ◌∙◌, subst, inl, inr, arith}
use Rattle.std.specs.List.{AllByRecursion}
use Rattle.std.proofs.Math.Seq.{drop-cons}
use Rattle.std.proofs.lemmas.Bool.{and_from, and_parts, cases_Bool, leb-true, le-leb}
use Rattle.kabi_types.specs.declared.ranges.Kind.{Kind}
use Rattle.kabi_types.specs.declared.ranges.Kind.TheVariants.{Shared, Exclusive}
use Rattle.kabi_types.specs.declared.ranges.Range.{Range}
use Rattle.kabi_types.specs.Ranges.{AreApart, IsCanonical, clashes, conflicts, covers, first_conflict, greatest, kind_at, set}
use Rattle.lock_ranges.proofs.Places.{cases_covers, covers-inside, kind_here, kind_later}
use Rattle.lock_ranges.proofs.Shape.{BeginBehind, kind_at-set, later_behind}
use Rattle.lock_ranges.proofs.Unique.{none_up_to}

-- a place of what is asked for that is held so that both can't be
abbrev pub IsInTheWay : List Range → Range → ℕ → Type 0
IsInTheWay ranges asked place = (covers asked.start asked.last place ≡ true) × (clashes (kind_at ranges place) (Some asked.kind) ≡ true)

conflict_parts : (range asked : Range) → conflicts range asked ≡ true → (range.start ≤ asked.last) × (asked.start ≤ range.last) × (clashes (Some range.kind) (Some asked.kind) ≡ true)
conflict_parts range asked conflict =
    let parts = and_parts (leb range.start asked.last && leb asked.start range.last) (clashes (Some range.kind) (Some asked.kind)) conflict in
    let share = and_parts (leb range.start asked.last) (leb asked.start range.last) parts.0 in
    (leb-true range.start asked.last share.0, leb-true asked.start range.last share.1, parts.1)

conflict_from : (range asked : Range) → range.start ≤ asked.last → asked.start ≤ range.last → clashes (Some range.kind) (Some asked.kind) ≡ true → conflicts range asked ≡ true
conflict_from range asked to from clash =
    and_from (leb range.start asked.last && leb asked.start range.last) (clashes (Some range.kind) (Some asked.kind))
    (and_from (leb range.start asked.last) (leb asked.start range.last) (le-leb range.start asked.last to) (le-leb asked.start range.last from)) clash

covers_parts : (start last place : ℕ) → covers start last place ≡ true → (start ≤ place) × (place ≤ last)
covers_parts start last place inside =
    let parts = and_parts (leb start place) (leb place last) inside in
    (leb-true start place parts.0, leb-true place last parts.1)

conflict_here : (range : Range) (ranges : List Range) (asked : Range) → conflicts range asked ≡ true → first_conflict (range ∷ ranges) asked ≡ Some range
conflict_here range ranges asked conflict = ap (λ b. cond b (Some range) (first_conflict ranges asked)) conflict

conflict_later : (range : Range) (ranges : List Range) (asked : Range) → conflicts range asked ≡ false → first_conflict (range ∷ ranges) asked ≡ first_conflict ranges asked
conflict_later range ranges asked free = ap (λ b. cond b (Some range) (first_conflict ranges asked)) free

-- what is held up to where the first range ends is held by it
held_later : (range : Range) (ranges : List Range) (asked : Range) (place : ℕ) → IsCanonical (range ∷ ranges) → IsInTheWay ranges asked place → IsInTheWay (range ∷ ranges) asked place
held_later range ranges asked place canonical way = elim (cases_covers range.start range.last place) [
  | inl inside ↦
      let none : kind_at ranges place ≡ None = none_up_to range.last ranges place (later_behind range ranges canonical.2) inside.1 in
      let clash : clashes None (Some asked.kind) ≡ true = subst (λ k. clashes k (Some asked.kind) ≡ true) none way.1 in
      cc
  | inr out ↦ (way.0, subst (λ k. clashes k (Some asked.kind) ≡ true) (sym (kind_later range ranges place out)) way.1)
]

pub place_of_conflict : (ranges : List Range) (asked : Range) → IsCanonical ranges → asked.start ≤ asked.last → IsSome (first_conflict ranges asked)
    → (place : ℕ) × IsInTheWay ranges asked place
place_of_conflict [] asked canonical order some = absurd cc
place_of_conflict (range ∷ ranges) asked canonical order some = elim (cases_Bool (conflicts range asked)) [
  | inl conflict ↦
      let parts = conflict_parts range asked conflict in
      let full : range.start ≤ range.last = canonical.0 in
      let to : range.start ≤ asked.last = parts.0 in
      let from : asked.start ≤ range.last = parts.1 in
      let place : ℕ = max range.start asked.start in (
        place,
        (
          covers-inside asked.start asked.last place (omega arith) (omega arith),
          subst (λ k. clashes k (Some asked.kind) ≡ true) (sym (kind_here range ranges place (omega arith) (omega arith))) parts.2,
        ),
      )
  | inr free ↦
      let later = place_of_conflict ranges asked canonical.3 order (sym (ap (λ (o : Option Range). is_some o) (conflict_later range ranges asked free)) ∙ some) in
      (later.0, held_later range ranges asked later.0 canonical later.1)
]

pub conflict_at_place : (ranges : List Range) (asked : Range) (place : ℕ) → IsInTheWay ranges asked place → IsSome (first_conflict ranges asked)
conflict_at_place [] asked place way = absurd (let wrong : false ≡ true = way.1 in cc)
conflict_at_place (range ∷ ranges) asked place way =
    let asks = covers_parts asked.start asked.last place way.0 in
    let from : asked.start ≤ place = asks.0 in
    let to : place ≤ asked.last = asks.1 in
    elim (cases_covers range.start range.last place) [
      | inl inside ↦
          let above : range.start ≤ place = inside.0 in
          let below : place ≤ range.last = inside.1 in
          let clash : clashes (Some range.kind) (Some asked.kind) ≡ true = subst (λ k. clashes k (Some asked.kind) ≡ true) (kind_here range ranges place above below) way.1 in
          ap (λ (o : Option Range). is_some o) (conflict_here range ranges asked (conflict_from range asked (omega arith) (omega arith) clash))
      | inr out ↦
          let later = conflict_at_place ranges asked place (way.0, subst (λ k. clashes k (Some asked.kind) ≡ true) (kind_later range ranges place out) way.1) in
          elim (cases_Bool (conflicts range asked)) [
            | inl conflict ↦ ap (λ (o : Option Range). is_some o) (conflict_here range ranges asked conflict)
            | inr free ↦ ap (λ (o : Option Range). is_some o) (conflict_later range ranges asked free) ∙ later
          ]
    ]

-- ---- the first one begins first

-- all that is in the way begins there or behind
abbrev pub BeginsFirst : List Range → Range → Range → Type 0
BeginsFirst ranges asked first = AllByRecursion (λ range. conflicts range asked ≡ true → first.start ≤ range.start) ranges

all_later : (place : ℕ) (asked first : Range) (ranges : List Range) → first.start ≤ place → BeginBehind place ranges → BeginsFirst ranges asked first
all_later place asked first [] to begin = tt
all_later place asked first (range ∷ ranges) to begin =
    let later : place < range.start = begin.0 in
    ((λ conflict. omega arith), all_later place asked first ranges to begin.1)

pub first_is_least : (ranges : List Range) (asked first : Range) → IsCanonical ranges → first_conflict ranges asked ≡ Some first → BeginsFirst ranges asked first
first_is_least [] asked first canonical found = tt
first_is_least (range ∷ ranges) asked first canonical found = elim (cases_Bool (conflicts range asked)) [
  | inl conflict ↦
      let full : range.start ≤ range.last = canonical.0 in
      let ranges_are : Some range ≡ Some first = sym (conflict_here range ranges asked conflict) ∙ found in
      let is : range ≡ first = cc in
      let starts : range.start ≡ first.start = ap (λ (r : Range). r.start) is in
      ((λ same. omega arith), all_later range.last asked first ranges (omega arith) (later_behind range ranges canonical.2))
  | inr free ↦ (
    (λ conflict. absurd (let wrong : false ≡ true = sym free ∙ conflict in cc)),
    first_is_least ranges asked first canonical.3 (sym (conflict_later range ranges asked free) ∙ found),
  )
]

-- the one that is found among those from an index on
pub found_first : (ranges : List Range) (asked : Range) (index : ℕ) (none : Range) → index < length ranges → first_conflict (drop index ranges) asked ≡ first_conflict ranges asked
    → conflicts (get_or ranges index none) asked ≡ true → first_conflict ranges asked ≡ Some (get_or ranges index none)
found_first ranges asked index none within rest conflict =
    sym rest ∙ ap (λ (l : List Range). first_conflict l asked) (drop-cons ranges index none within)
    ∙ conflict_here (get_or ranges index none) (drop (suc index) ranges) asked conflict

-- ---- holders that stay apart

clash_swapped : (kind other : Option Kind) → clashes kind other ≡ clashes other kind
clash_swapped None None = refl
clash_swapped None (Some other) = refl
clash_swapped (Some kind) None = refl
clash_swapped (Some Shared) (Some Shared) = refl
clash_swapped (Some Shared) (Some Exclusive) = refl
clash_swapped (Some Exclusive) (Some Shared) = refl
clash_swapped (Some Exclusive) (Some Exclusive) = refl

pub apart_both : (ranges others : List Range) → AreApart ranges others → AreApart others ranges
apart_both ranges others apart place = clash_swapped (kind_at others place) (kind_at ranges place) ∙ apart place

-- where each place has a kind that was there before, or one that is free
apart_chosen : (inside : Bool) (kind was other : Option Kind) → (inside ≡ true → clashes kind other ≡ false) → clashes was other ≡ false → clashes (cond inside kind was) other ≡ false
apart_chosen true kind was other free apart = free refl
apart_chosen false kind was other free apart = apart

apart_set : (ranges others : List Range) (kind : Option Kind) (start last : ℕ) → IsCanonical ranges → start ≤ last → last ≤ greatest
    → ((place : ℕ) → covers start last place ≡ true → clashes kind (kind_at others place) ≡ false)
    → AreApart ranges others → AreApart (set ranges kind start last) others
apart_set ranges others kind start last canonical order within free apart place =
    ap (λ k. clashes k (kind_at others place)) (kind_at-set ranges kind start last place canonical order within)
    ∙ apart_chosen (covers start last place) kind (kind_at ranges place) (kind_at others place) (free place) (apart place)

pub apart_held : (ranges others : List Range) (asked : Range) → IsCanonical ranges → asked.start ≤ asked.last → asked.last ≤ greatest
    → AreApart ranges others → first_conflict others asked ≡ None → AreApart (set ranges (Some asked.kind) asked.start asked.last) others
apart_held ranges others asked canonical order within apart none =
    apart_set ranges others (Some asked.kind) asked.start asked.last canonical order within (λ place inside.
    elim (cases_Bool (clashes (kind_at others place) (Some asked.kind))) [
      | inl clash ↦
          let some : IsSome (first_conflict others asked) = conflict_at_place others asked place (inside, clash) in
          let wrong : false ≡ true = sym (ap (λ (o : Option Range). is_some o) none) ∙ some in
          cc
      | inr free ↦ clash_swapped (Some asked.kind) (kind_at others place) ∙ free
    ]) apart

pub apart_let_go : (ranges others : List Range) (start last : ℕ) → IsCanonical ranges → start ≤ last → last ≤ greatest
    → AreApart ranges others → AreApart (set ranges None start last) others
apart_let_go ranges others start last canonical order within apart =
    apart_set ranges others None start last canonical order within (λ place inside. refl) apart
