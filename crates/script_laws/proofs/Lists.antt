-- What holds of each element of a list, and where elements stand in lists that are joined.
use Rattle.std.proofs.Common.{◌≡◌, ◌≢◌, ◌<◌, ◌+◌, ℕ, zero, suc, List, [], ◌∷◌, ◌++◌, length, Some, IfSome, slice_get, refl, subst, arith}
use Rattle.std.specs.Prelude.{⊤}
use Rattle.std.specs.List.{AllByRecursion}

pub all_weaker : {X : Type 0} (P Q : X → Type 0) (xs : List X) → ((x : X) → P x → Q x) → AllByRecursion P xs → AllByRecursion Q xs
all_weaker P Q [] weaker all = tt
all_weaker P Q (x ∷ xs) weaker all = (weaker x all.0, all_weaker P Q xs weaker all.1)

-- each element, at its place: the first stands at this one
abbrev pub AllFrom : {X : Type 0} → (ℕ → X → Type 0) → ℕ → List X → Type 0
AllFrom P at [] = ⊤
AllFrom P at (x ∷ xs) = P at x × AllFrom P (at + 1) xs

pub all_from_append : {X : Type 0} (P : ℕ → X → Type 0) (at place : ℕ) (xs ys : List X) → place ≡ at + length xs → AllFrom P at xs → AllFrom P place ys → AllFrom P at (xs ++ ys)
all_from_append P at place [] ys is first second = subst (λ n. AllFrom P n ys) (let same : place ≡ at = omega (arith, is) in same) second
all_from_append P at place (x ∷ xs) ys is first second = (first.0, all_from_append P (at + 1) place xs ys (omega (arith, is)) first.1 second)

pub each_place : {X : Type 0} (P : ℕ → X → Type 0) (at : ℕ) (xs : List X) → AllFrom P at xs → (i place : ℕ) → place ≡ at + i → IfSome (slice_get xs i) (P place)
each_place P at [] all i place is = tt
each_place P at (x ∷ xs) all zero place is = subst (λ n. P n x) (let same : at ≡ place = omega (arith, is) in same) all.0
each_place P at (x ∷ xs) all (suc i) place is = each_place P (at + 1) xs all.1 i place (omega (arith, is))

-- what stands behind a list
pub found_behind : {X : Type 0} (xs ys : List X) (i place : ℕ) → place ≡ length xs + i → slice_get (xs ++ ys) place ≡ slice_get ys i
found_behind [] ys i place is = subst (λ n. slice_get ys n ≡ slice_get ys i) (let same : i ≡ place = omega (arith, is) in same) refl
found_behind (x ∷ xs) ys i zero is = absurd (omega (arith, is))
found_behind (x ∷ xs) ys i (suc place) is = found_behind xs ys i place (omega (arith, is))

-- what isn't in two lists isn't found before the third
pub not_before : {X : Type 0} (x : X) (xs ys zs : List X) → AllByRecursion (λ y. y ≢ x) xs → AllByRecursion (λ y. y ≢ x) ys
    → (i : ℕ) → i < length xs + length ys → slice_get (xs ++ (ys ++ zs)) i ≢ Some x
not_before x [] [] zs none also i less same = absurd (omega (arith, less))
not_before x [] (y ∷ ys) zs none also zero less same = also.0 cc
not_before x [] (y ∷ ys) zs none also (suc i) less same = not_before x [] ys zs none also.1 i (omega (arith, less)) same
not_before x (y ∷ xs) ys zs none also zero less same = none.0 cc
not_before x (y ∷ xs) ys zs none also (suc i) less same = not_before x xs ys zs none.1 also i (omega (arith, less)) same
