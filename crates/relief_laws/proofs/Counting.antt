-- How many pass a test where one of a list goes, or becomes another.
use Rattle.std.proofs.Common.{◌≡◌, ℕ, zero, suc, ◌+◌, Bool, true, false, cond, List, [], ◌∷◌, map, Option, None, slice_get, slice_set, unwrap_or, refl, ap, sym, ◌∙◌, arith}
use Rattle.std.specs.List.{count_by}
use Rattle.std.proofs.lemmas.List.Sums.{sum_by-append, sum_by-cons}
use Rattle.posix_defs.specs.Relief.{LosesOne}

abbrev pub one_if : Bool → ℕ
one_if b = cond b 1 0

-- as many as of the first, and of the rest
pub count_cons : {X : Type 0} (p : X → Bool) (x : X) (xs : List X) → count_by p (x ∷ xs) ≡ one_if (p x) + count_by p xs
count_cons p x xs = sum_by-cons (λ x. one_if (p x)) x xs

-- one that passes is gone
pub count_loses : {X : Type 0} (p : X → Bool) (old : List X) (gone : X) (new : List X) → LosesOne old gone new → p gone ≡ true → count_by p new + 1 ≡ count_by p old
count_loses p old gone new loses passes =
    let was : count_by p old ≡ count_by p loses.front + count_by p (gone ∷ loses.back) =
    ap (count_by p) loses.was ∙ sum_by-append (λ x. one_if (p x)) loses.front (gone ∷ loses.back) in
    let is : count_by p new ≡ count_by p loses.front + count_by p loses.back =
    ap (count_by p) loses.is ∙ sum_by-append (λ x. one_if (p x)) loses.front loses.back in
    let more : count_by p (gone ∷ loses.back) ≡ one_if (p gone) + count_by p loses.back = count_cons p gone loses.back in
    let one : one_if (p gone) ≡ 1 = ap one_if passes in
    omega arith

-- what keeps who passes keeps how many
pub count_map : {X : Type 0} (p : X → Bool) (f : X → X) → ((x : X) → p (f x) ≡ p x) → (xs : List X) → count_by p (map f xs) ≡ count_by p xs
count_map p f same [] = refl
count_map p f same (x ∷ xs) =
    let now : count_by p (f x ∷ map f xs) ≡ one_if (p (f x)) + count_by p (map f xs) = count_cons p (f x) (map f xs) in
    let was : count_by p (x ∷ xs) ≡ one_if (p x) + count_by p xs = count_cons p x xs in
    let first : one_if (p (f x)) ≡ one_if (p x) = ap one_if (same x) in
    let rest : count_by p (map f xs) ≡ count_by p xs = count_map p f same xs in
    omega arith

-- one that passed becomes one that doesn't
pub count_set : {X : Type 0} (p : Option X → Bool) (xs : List (Option X)) (i : ℕ) (there : Option X)
    → p None ≡ false → p (unwrap_or (slice_get xs i) None) ≡ true → p there ≡ false → count_by p (slice_set xs i there) + 1 ≡ count_by p xs
count_set p [] i there none passes fails = absurd (let both : true ≡ false = sym passes ∙ none in cc)
count_set p (x ∷ xs) zero there none passes fails =
    let now : count_by p (there ∷ xs) ≡ one_if (p there) + count_by p xs = count_cons p there xs in
    let was : count_by p (x ∷ xs) ≡ one_if (p x) + count_by p xs = count_cons p x xs in
    let new : one_if (p there) ≡ 0 = ap one_if fails in
    let old : one_if (p x) ≡ 1 = ap one_if passes in
    omega arith
count_set p (x ∷ xs) (suc i) there none passes fails =
    let now : count_by p (x ∷ slice_set xs i there) ≡ one_if (p x) + count_by p (slice_set xs i there) = count_cons p x (slice_set xs i there) in
    let was : count_by p (x ∷ xs) ≡ one_if (p x) + count_by p xs = count_cons p x xs in
    let rest : count_by p (slice_set xs i there) + 1 ≡ count_by p xs = count_set p xs i there none passes fails in
    omega arith
