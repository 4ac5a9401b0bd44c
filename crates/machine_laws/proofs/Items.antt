-- What stands at a place of a list whose items may be none, and how many pass a test, after one item has changed.
use Rattle.std.proofs.Common.{◌≡◌, ◌≢◌, ℕ, suc, ◌+◌, ◌<◌, ◌≤◌, Bool, true, false, cond, List, [], ◌∷◌, ◌++◌, length, Option, None, Some, is_some, slice_index_or, slice_set, refl, ap, sym, ◌∙◌, subst, ◌⊎◌, inl, inr, arith, length-append}
use Rattle.std.specs.List.{count_by}
use Rattle.std.proofs.lemmas.Bool.Decides.{eqb_tells}
use Rattle.std.proofs.lemmas.List.{get_or-set_same, get_or-set_other, get_or_append_left, get_or_at, length-set}
use Rattle.std.proofs.lemmas.List.Sums.{sum_by-cons, sum_by-set, sum_by_push, get_or-le-sum_by}
use Rattle.kern_laws.proofs.TablePlaces.{below_or_not}
use Rattle.machine_laws.proofs.Places.{there_within}

pub true_false : (b : Bool) → b ≡ true → b ≡ false → ⊥
true_false b one two = cc

pub some_there : {X : Type 0} {o : Option X} {x : X} → o ≡ Some x → is_some o ≡ true
some_there e = ap is_some e

pub some_is : {X : Type 0} (o : Option X) → is_some o ≡ true → (x : X) × (o ≡ Some x)
some_is None e = absurd (true_false false e refl)
some_is (Some x) e = (x, refl)

-- what is there after one more was put at the end was there before, or is that one
pub pushed_is : {X : Type 0} (xs : List (Option X)) (x : Option X) (i : ℕ) (y : X) → slice_index_or (xs ++ x ∷ []) i None ≡ Some y
    → (slice_index_or xs i None ≡ Some y) ⊎ ((i ≡ length xs) × (x ≡ Some y))
pushed_is xs x i y is = elim (below_or_not i (length xs)) [
  | inl h ↦ inl (sym (get_or_append_left xs (x ∷ []) None i h) ∙ is)
  | inr h ↦ inr (last h, sym (get_or_at xs x [] None i (sym (last h))) ∙ is)
]
  where
    last : length xs ≤ i → i ≡ length xs
    last h = let below : i < length (xs ++ x ∷ []) = there_within (xs ++ x ∷ []) i y is in
        let longer : length (xs ++ x ∷ []) ≡ length xs + 1 = length-append xs (x ∷ []) in omega arith

-- what was there is there
pub pushed_front : {X : Type 0} (xs : List (Option X)) (x : Option X) (i : ℕ) (y : X) → slice_index_or xs i None ≡ Some y → slice_index_or (xs ++ x ∷ []) i None ≡ Some y
pushed_front xs x i y is = get_or_append_left xs (x ∷ []) None i (there_within xs i y is) ∙ is

-- what is there after one was changed is another, which was there before, or is that one
pub changed_is : {X : Type 0} (xs : List (Option X)) (at : ℕ) (x : Option X) (i : ℕ) (y : X) → slice_index_or (slice_set xs at x) i None ≡ Some y
    → ((i ≢ at) × (slice_index_or xs i None ≡ Some y)) ⊎ ((i ≡ at) × (x ≡ Some y))
changed_is xs at x i y is = elim (eqb_tells i at) [
  | inr apart ↦ inl (apart.1, sym (get_or-set_other xs at i x None apart.1) ∙ is)
  | inl alike ↦ inr (
    alike.1,
    sym (get_or-set_same xs at x None
        (subst (λ n. n < length xs) alike.1 (subst (λ n. i < n) (length-set xs at x) (there_within (slice_set xs at x) i y is))))
        ∙ ap (λ n. slice_index_or (slice_set xs at x) n None) (sym alike.1) ∙ is,
  )
]

-- ---- how many pass a test

pub count_kept : {X : Type 0} (p : X → Bool) (xs : List X) (i : ℕ) (y d : X) → i < length xs → p y ≡ p (slice_index_or xs i d) → count_by p (slice_set xs i y) ≡ count_by p xs
count_kept p xs i y d h same = go (count_by p (slice_set xs i y)) (count_by p xs) (cond (p (slice_index_or xs i d)) 1 0) (cond (p y) 1 0)
    (sum_by-set (λ x. cond (p x) 1 0) xs i y d h) (ap (λ b. cond b 1 0) same)
  where
    go : (new old was now : ℕ) → new + was ≡ old + now → now ≡ was → new ≡ old
    go new old was now e f = omega arith

pub count_less : {X : Type 0} (p : X → Bool) (xs : List X) (i : ℕ) (y d : X) → i < length xs → p (slice_index_or xs i d) ≡ true → p y ≡ false
    → count_by p (slice_set xs i y) + 1 ≡ count_by p xs
count_less p xs i y d h was now = go (count_by p (slice_set xs i y)) (count_by p xs) (cond (p (slice_index_or xs i d)) 1 0) (cond (p y) 1 0)
    (sum_by-set (λ x. cond (p x) 1 0) xs i y d h) (ap (λ b. cond b 1 0) was) (ap (λ b. cond b 1 0) now)
  where
    go : (new old was now : ℕ) → new + was ≡ old + now → was ≡ 1 → now ≡ 0 → new + 1 ≡ old
    go new old was now e f g = omega arith

pub count_pushed : {X : Type 0} (p : X → Bool) (xs : List X) (y : X) (n : ℕ) → cond (p y) 1 0 ≡ n → count_by p (xs ++ y ∷ []) ≡ count_by p xs + n
count_pushed p xs y n is = sum_by_push (λ x. cond (p x) 1 0) xs y ∙ ap (λ m. count_by p xs + m) is

pub count_some : {X : Type 0} (p : X → Bool) (xs : List X) (i : ℕ) (d : X) → i < length xs → p (slice_index_or xs i d) ≡ true → 0 < count_by p xs
count_some p xs i d h passes = go (cond (p (slice_index_or xs i d)) 1 0) (count_by p xs) (get_or-le-sum_by (λ x. cond (p x) 1 0) xs i d h) (ap (λ b. cond b 1 0) passes)
  where
    go : (one all : ℕ) → one ≤ all → one ≡ 1 → 0 < all
    go one all h e = omega arith

pub count_none : {X : Type 0} (p : X → Bool) (xs : List X) (d : X) → ((i : ℕ) → i < length xs → p (slice_index_or xs i d) ≡ false) → count_by p xs ≡ 0
count_none p [] d each = refl
count_none p (x ∷ xs) d each = sum_by-cons (λ x. cond (p x) 1 0) x xs ∙ go (cond (p x) 1 0) (count_by p xs) (ap (λ b. cond b 1 0) (each 0 (omega arith)))
    (count_none p xs d (λ i h. each (suc i) (omega arith)))
  where
    go : (one rest : ℕ) → one ≡ 0 → rest ≡ 0 → one + rest ≡ 0
    go one rest e f = omega arith
