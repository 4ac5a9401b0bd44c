-- One element of a list, in a test or a sum over all.
use Rattle.std.proofs.Common.{◌≡◌, ℕ, zero, suc, ◌+◌, ◌<◌, ◌≤◌, ◌||◌, Bool, true, false, cond, List, [], ◌∷◌, length, Option, None, Some, refl, ap, ◌∙◌, arith}
use Rattle.std.specs.Prelude.{count_by, slice_get, sum_by}
use Rattle.std.specs.List.{list_any}
use Rattle.std.proofs.lemmas.List.Sums.{sum_by-cons}
use Rattle.kheap_slabs.specs.Objects.{object}

pub or_true : (b : Bool) → (b || true) ≡ true
or_true true = refl
or_true false = refl

-- ---- a test

pub none_any : {X : Type 0} (p : X → Bool) (xs : List X) → ((i : ℕ) (x : X) → slice_get xs i ≡ Some x → p x ≡ false) → list_any p xs ≡ false
none_any p [] each = refl
none_any p (x ∷ xs) each = ap (λ b. b || list_any p xs) (each 0 x refl) ∙ none_any p xs (λ i y is. each (suc i) y is)

pub one_any : {X : Type 0} (p : X → Bool) (xs : List X) (i : ℕ) (x : X) → slice_get xs i ≡ Some x → p x ≡ true → list_any p xs ≡ true
one_any p [] i x is passes = cc
one_any {X} p (y ∷ xs) zero x is passes =
    let same : y ≡ x = first is in ap (λ b. b || list_any p xs) (ap p same ∙ passes)
  where
    first : Some y ≡ Some x → y ≡ x
    first e = cc
one_any p (y ∷ xs) (suc i) x is passes = ap (λ b. p y || b) (one_any p xs i x is passes) ∙ or_true (p y)

-- who is within is found
pub get_within : {X : Type 0} (xs : List X) (i : ℕ) → i < length xs → (x : X) × (slice_get xs i ≡ Some x)
get_within [] i within = absurd (omega (arith, within))
get_within (x ∷ xs) zero within = (x, refl)
get_within (x ∷ xs) (suc i) within = get_within xs i (omega (arith, within))

-- ---- a count

abbrev pub one_if : Bool → ℕ
one_if b = cond b 1 0

pub count_cons : {X : Type 0} (p : X → Bool) (x : X) (xs : List X) → count_by p (x ∷ xs) ≡ one_if (p x) + count_by p xs
count_cons {X} p x xs = sum_by-cons (λ (y : X). one_if (p y)) x xs

-- ---- a sum over objects

pub part_of_sum : {X : Type 0} (f : Option X → ℕ) (objects : List (Option X)) (key : ℕ) (x : X) → object objects key ≡ Some x → f (Some x) ≤ sum_by f objects
part_of_sum f [] key x is = absurd (nothing is)
  where
    nothing : None ≡ Some x → ⊥
    nothing e = cc
part_of_sum f (o ∷ objects) zero x is =
    let sum = sum_by-cons f o objects in let here : f o ≡ f (Some x) = ap f is in omega (arith, sum, here)
part_of_sum f (o ∷ objects) (suc key) x is =
    let sum = sum_by-cons f o objects in let more = part_of_sum f objects key x is in omega (arith, sum, more)

-- An object that adds to a sum.
pub record Adds {X : Type 0} (f : Option X → ℕ) (objects : List (Option X)) : Type 0 where
  pub key : ℕ
  pub value : X
  pub is : object objects key ≡ Some value
  pub adds : 0 < f (Some value)

pub some_adds : {X : Type 0} (f : Option X → ℕ) (objects : List (Option X)) → f None ≡ 0 → 0 < sum_by f objects → Adds f objects
some_adds f [] none some = absurd (let nothing : sum_by f [] ≡ 0 = refl in omega (arith, some, nothing))
some_adds {X} f (None ∷ objects) none some =
    let sum = sum_by-cons f None objects in
    let later = some_adds f objects none (omega (arith, sum, none, some)) in
    record { key = suc later.key; value = later.value; is = later.is; adds = later.adds }
some_adds {X} f (Some x ∷ objects) none some = by_first (f (Some x)) refl (λ later. some_adds f objects none later)
  where
    by_first : (n : ℕ) → f (Some x) ≡ n → (0 < sum_by f objects → Adds f objects) → Adds f (Some x ∷ objects)
    by_first zero e rest =
        let sum = sum_by-cons f (Some x) objects in
        let later = rest (omega (arith, sum, e, some)) in
        record { key = suc later.key; value = later.value; is = later.is; adds = later.adds }
    by_first (suc n) e rest = record { key = zero; value = x; is = refl; adds = omega (arith, e) }
