-- How many Vnodes no one holds, after each change of one.
use Rattle.std.proofs.Common.{◌≡◌, ℕ, suc, ◌+◌, ◌-◌, ◌<◌, ◌≤◌, Bool, true, false, cond, List, ◌∷◌, [], length, Option, Some, None, IsSome, is_some, Contains, replicate, mul-zero, refl, sym, ap, ◌∙◌, subst, inl, inr, arith}
use Rattle.std.specs.Prelude.{nat_eq, remove, slice_index_or, sum_by, slice_set}
use Rattle.std.proofs.lemmas.Bool.{cases_eq, ne_eqb}
use Rattle.std.proofs.lemmas.List.Sums.{sum_by-cons, sum_by-set}
use Rattle.std.proofs.lemmas.List.Folds.{sum_by-replicate}
use Rattle.kheap_slabs.specs.Objects.{object, count, put, without}
use Rattle.kheap_slabs.specs.declared.objects.Vnode.{Vnode}
use Rattle.kheap_slabs.proofs.ObjectLemmas.{InUse-within, object-without_other}
use Rattle.kheap_slabs.specs.Keys.{IsOnce}
use Rattle.kheap_laws.proofs.OnceLemmas.{IsOnce-head}
use Rattle.vnode_cache.specs.Nodes.{is_loose, IsLoose, AreLoose, loose_count}

-- 1 for a Vnode that no one holds
abbrev one_if : Option Vnode → ℕ
one_if o = cond (is_loose o) 1 0

pub within_used : (objects : List (Option Vnode)) (slot : ℕ) (was : Vnode) → object objects slot ≡ Some was → slot < length objects
within_used objects slot was there = InUse-within objects slot (subst IsSome (sym there) refl)

pub loose_used : (objects : List (Option Vnode)) (slot : ℕ) → IsLoose objects slot → slot < length objects
loose_used objects slot loose = by_case (object objects slot) refl
  where
    by_case : (o : Option Vnode) → object objects slot ≡ o → slot < length objects
    by_case None none = let no : is_loose (object objects slot) ≡ false = ap is_loose none in absurd (cc)
    by_case (Some v) some = within_used objects slot v some

set_count : (objects : List (Option Vnode)) (slot : ℕ) (was now : Option Vnode) (a b : Bool) → slot < length objects → object objects slot ≡ was → is_loose was ≡ a → is_loose now ≡ b → sum_by one_if (slice_set objects slot now) + cond a 1 0 ≡ sum_by one_if objects + cond b 1 0
set_count objects slot was now a b within there first second =
    let set = sum_by-set one_if objects slot now None within in
    ap (λ x. sum_by one_if (slice_set objects slot now) + cond x 1 0) (sym (ap is_loose there ∙ first)) ∙ set ∙ ap (λ x. sum_by one_if objects + cond x 1 0) second

-- a Vnode is put in the place of another, where no one holds either, or each is held
pub loose_kept : (objects : List (Option Vnode)) (slot : ℕ) (was now : Vnode) → object objects slot ≡ Some was → now.pins ≡ was.pins → loose_count (put objects slot now) ≡ loose_count objects
loose_kept objects slot was now there same =
    let set = set_count objects slot (Some was) (Some now) (nat_eq was.pins 0) (nat_eq was.pins 0) (within_used objects slot was there) there refl (ap (λ n. nat_eq n 0) same) in
    cancel (loose_count (put objects slot now)) (loose_count objects) (cond (nat_eq was.pins 0) 1 0) set
  where
    cancel : (a b c : ℕ) → a + c ≡ b + c → a ≡ b
    cancel a b c e = omega arith

some_pins : (n : ℕ) → 0 < n → nat_eq n 0 ≡ false
some_pins n some = ne_eqb n 0 (λ e. omega (arith, e, some))

one_left : (n : ℕ) → 0 < n → nat_eq (n - 1) 0 ≡ nat_eq n 1
one_left n some = elim (cases_eq n 1) [
  | inl e ↦ ap (λ x. nat_eq (x - 1) 0) e ∙ sym (ap (λ x. nat_eq x 1) e)
  | inr differs ↦ ne_eqb (n - 1) 0 (λ e. differs (omega (arith, e, some))) ∙ sym (ne_eqb n 1 differs)
]

-- a Vnode has one pin more
pub loose_pin : (objects : List (Option Vnode)) (slot : ℕ) (was now : Vnode) (loose left : ℕ) → object objects slot ≡ Some was → now.pins ≡ was.pins + 1 → loose ≡ loose_count objects → left + cond (nat_eq was.pins 0) 1 0 ≡ loose → left ≡ loose_count (put objects slot now)
loose_pin objects slot was now loose left there more is counted =
    let set = set_count objects slot (Some was) (Some now) (nat_eq was.pins 0) false (within_used objects slot was there) there refl (some_pins now.pins (omega arith)) in
    cancel left (cond (nat_eq was.pins 0) 1 0) loose (loose_count objects) (loose_count (put objects slot now)) counted is set
  where
    cancel : (a x l s t : ℕ) → a + x ≡ l → l ≡ s → t + x ≡ s + 0 → a ≡ t
    cancel a x l s t first second third = omega arith

-- a Vnode has one pin less
pub loose_unpin : (objects : List (Option Vnode)) (slot : ℕ) (was now : Vnode) (loose more : ℕ) → object objects slot ≡ Some was → 0 < was.pins → now.pins ≡ was.pins - 1 → loose ≡ loose_count objects → more ≡ loose + cond (nat_eq was.pins 1) 1 0 → more ≡ loose_count (put objects slot now)
loose_unpin objects slot was now loose more there some less is counted =
    let set = set_count objects slot (Some was) (Some now) false (nat_eq was.pins 1) (within_used objects slot was there) there (some_pins was.pins some) (ap (λ n. nat_eq n 0) less ∙ one_left was.pins some) in
    cancel more (cond (nat_eq was.pins 1) 1 0) loose (loose_count objects) (loose_count (put objects slot now)) counted is set
  where
    cancel : (a x l s t : ℕ) → a ≡ l + x → l ≡ s → t + 0 ≡ s + x → a ≡ t
    cancel a x l s t first second third = omega arith

pub loose_made : (objects : List (Option Vnode)) (slot : ℕ) (made : Vnode) → slot < length objects → object objects slot ≡ None → made.pins ≡ 0 → loose_count (put objects slot made) ≡ loose_count objects + 1
loose_made objects slot made within vacant none =
    let set : loose_count (put objects slot made) + 0 ≡ loose_count objects + 1 = set_count objects slot None (Some made) false true within vacant refl (ap (λ n. nat_eq n 0) none) in
    omega arith

pub loose_freed : (objects : List (Option Vnode)) (slot : ℕ) → IsLoose objects slot → loose_count (without objects slot) + 1 ≡ loose_count objects
loose_freed objects slot loose =
    let set : loose_count (without objects slot) + 1 ≡ loose_count objects + 0 = set_count objects slot (object objects slot) None true false (loose_used objects slot loose) refl loose refl in
    omega arith

at_most_one : (b : Bool) → cond b 1 0 ≤ 1
at_most_one true = omega arith
at_most_one false = omega arith

pub loose_few : (objects : List (Option Vnode)) → loose_count objects ≤ count objects
loose_few [] = omega arith
loose_few (o ∷ objects) =
    let rest = loose_few objects in
    let one = each o in
    subst (λ n. n ≤ count (o ∷ objects)) (sym (sum_by-cons one_if o objects)) (subst (λ n. one_if o + loose_count objects ≤ n) (sym (sum_by-cons (λ x. cond (is_some x) 1 0) o objects)) (omega arith))
  where
    each : (o : Option Vnode) → one_if o ≤ cond (is_some o) 1 0
    each None = omega arith
    each (Some v) = at_most_one (nat_eq v.pins 0)

pub loose_none : (objects : List (Option Vnode)) → ((slot : ℕ) → is_loose (object objects slot) ≡ false) → loose_count objects ≡ 0
loose_none [] each = refl
loose_none (o ∷ objects) each =
    let head : loose_count (o ∷ objects) ≡ one_if o + loose_count objects = sum_by-cons one_if o objects in
    let none : one_if o ≡ 0 = ap (λ b. cond b 1 0) (each 0) in
    let rest = loose_none objects (λ slot. each (suc slot)) in
    omega arith

-- there are none at boot
pub loose_empty : (objects : List (Option Vnode)) (limit : ℕ) → objects ≡ replicate limit None → loose_count objects ≡ 0
loose_empty objects limit empty = ap loose_count empty ∙ sum_by-replicate one_if limit None ∙ mul-zero limit

-- one less after a Vnode went that no one held
pub loose_less : (loose : ℕ) (objects : List (Option Vnode)) (slot : ℕ) → loose ≡ loose_count objects → IsLoose objects slot → (1 ≤ loose) × (loose - 1 ≡ loose_count (without objects slot))
loose_less loose objects slot is free =
    let freed = loose_freed objects slot free in
    (omega arith, omega arith)

-- one that no one holds any more is counted beside the others
pub loose_room : (objects : List (Option Vnode)) (slot : ℕ) (was now : Vnode) (loose : ℕ) → object objects slot ≡ Some was → 0 < was.pins → now.pins ≡ 0 → loose ≡ loose_count objects → loose < count (put objects slot now)
loose_room objects slot was now loose there some none is =
    let set : loose_count (put objects slot now) + 0 ≡ loose_count objects + 1 = set_count objects slot (Some was) (Some now) false true (within_used objects slot was there) there (some_pins was.pins some) (ap (λ n. nat_eq n 0) none) in
    let few = loose_few (put objects slot now) in
    omega arith

-- no one holds what is left of some slots, where the first of them has gone
pub loose_rest : (objects : List (Option Vnode)) (slots : List ℕ) → IsOnce slots → AreLoose objects slots → AreLoose (without objects (slice_index_or slots 0 0)) (remove slots 0)
loose_rest objects [] once are slot there = absurd (omega (arith, there.1))
loose_rest objects (first ∷ slots) once are slot there =
    ap is_loose (object-without_other objects first slot (λ e. IsOnce-head first slots once (subst (Contains slots) e there))) ∙ are slot (suc there.0, omega (arith, there.1), there.2)

-- the first of some slots
pub loose_first : (objects : List (Option Vnode)) (slots : List ℕ) → 0 < length slots → AreLoose objects slots → IsLoose objects (slice_index_or slots 0 0)
loose_first objects [] some are = absurd (omega arith)
loose_first objects (first ∷ slots) some are = are first (0, omega arith, refl)
