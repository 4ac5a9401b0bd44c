-- What a key names, and how many objects there are, after a put or a removal.
use Rattle.std.proofs.Common.{◌≡◌, ◌≢◌, ℕ, ◌+◌, ◌<◌, List, length, Option, Some, None, is_some, IsSome, cond, replicate, mul-zero, refl, ap, inl, inr, ◌∙◌, arith}
use Rattle.std.proofs.lemmas.Bool.{cases_eq, cases_lt}
use Rattle.std.proofs.lemmas.List.{get_or-set_same, get_or-set_other, get_or_past, get_or-replicate, length-replicate, length-set}
use Rattle.std.proofs.lemmas.List.Sums.{sum_by-set}
use Rattle.std.proofs.lemmas.List.Folds.{sum_by-replicate}
use Rattle.kheap_slabs.specs.Objects.{object, InUse, count, put, without}

module _ {X : Type 0} where
  pub count-none : (objects : List (Option X)) (limit : ℕ) → objects ≡ replicate limit None → count objects ≡ 0
  count-none objects limit empty = ap count empty ∙ sum_by-replicate (λ o. cond (is_some o) 1 0) limit None ∙ mul-zero limit

  -- where there are no objects no key names one
  pub object-none : (limit key : ℕ) (value : X) → object (replicate {A = Option X} limit None) key ≡ Some value → ⊥
  object-none limit key value is = elim (cases_lt key limit) [
    | inl lt ↦ let none : object (replicate {A = Option X} limit None) key ≡ None = get_or-replicate limit key None None lt in cc
    | inr le ↦ let none : object (replicate {A = Option X} limit None) key ≡ None = get_or_past _ key None (rw length-replicate le) in cc
  ]

  pub InUse-within : (objects : List (Option X)) (key : ℕ) → InUse objects key → key < length objects
  InUse-within objects key used = grind (arith, get_or_past)

  pub object-put : (objects : List (Option X)) (key : ℕ) (value : X) → key < length objects → object (put objects key value) key ≡ Some value
  object-put objects key value within = get_or-set_same objects key (Some value) None within

  pub object-put_other : (objects : List (Option X)) (key other : ℕ) (value : X) → other ≢ key → object (put objects key value) other ≡ object objects other
  object-put_other objects key other value differs = get_or-set_other objects key other (Some value) None differs

  -- a key in use stays in use where one in use gets another object
  pub InUse-put : (objects : List (Option X)) (at : ℕ) (value : X) (key : ℕ) → InUse objects at → InUse objects key → InUse (put objects at value) key
  InUse-put objects at value key there used = elim (cases_eq key at) [
    | inl same ↦ rw (same, object-put objects at value (InUse-within objects at there)) refl
    | inr differs ↦ rw (object-put_other objects at key value differs) used
  ]

  pub object-without : (objects : List (Option X)) (key : ℕ) → key < length objects → object (without objects key) key ≡ None
  object-without objects key within = get_or-set_same objects key None None within

  pub object-without_other : (objects : List (Option X)) (key other : ℕ) → other ≢ key → object (without objects key) other ≡ object objects other
  object-without_other objects key other differs = get_or-set_other objects key other None None differs

  pub length-put : (objects : List (Option X)) (key : ℕ) (value : X) → length (put objects key value) ≡ length objects
  length-put objects key value = length-set objects key (Some value)

  pub length-without : (objects : List (Option X)) (key : ℕ) → length (without objects key) ≡ length objects
  length-without objects key = length-set objects key None

  -- what is put under a key is found there only where the key has a place
  pub put-within : (objects : List (Option X)) (key : ℕ) (value : X) → object (put objects key value) key ≡ Some value → key < length objects
  put-within objects key value stored = rw length-put at (InUse-within (put objects key value) key (rw stored refl))

  pub count-put_new : (objects : List (Option X)) (key : ℕ) (value : X) → key < length objects → object objects key ≡ None → count (put objects key value) ≡ count objects + 1
  count-put_new objects key value within vacant =
      omega (arith, rw vacant at (sum_by-set (λ o. cond (is_some o) 1 0) objects key (Some value) None within))

  -- a key in use names some object
  pub object_of : (objects : List (Option X)) (key : ℕ) → InUse objects key → (value : X) × (object objects key ≡ Some value)
  object_of objects key used = by_case (object objects key) refl used
    where
      by_case : (o : Option X) → object objects key ≡ o → IsSome o → (value : X) × (object objects key ≡ Some value)
      by_case None is some = absurd (grind arith)
      by_case (Some value) is some = (value, is)

  pub count-put_used : (objects : List (Option X)) (key : ℕ) (value : X) → InUse objects key → count (put objects key value) ≡ count objects
  count-put_used objects key value used =
      let named = object_of objects key used in
      omega (arith, rw named.1 at (sum_by-set (λ o. cond (is_some o) 1 0) objects key (Some value) None (InUse-within objects key used)))

  pub count-without : (objects : List (Option X)) (key : ℕ) → InUse objects key → count (without objects key) + 1 ≡ count objects
  count-without objects key used =
      let named = object_of objects key used in
      omega (arith, rw named.1 at (sum_by-set (λ o. cond (is_some o) 1 0) objects key None None (InUse-within objects key used)))
