-- Facts at each place of a list, and of its last element.
use Rattle.std.proofs.Common.{◌≡◌, ℕ, zero, suc, ◌<◌, List, [], ◌∷◌, ◌++◌, length, get_or, refl, ap, sym, ◌∙◌, subst, arith}
use Rattle.std.specs.List.{AllByRecursion}
use Rattle.kern_shared.specs.Closing.{HasLast}

-- what holds at each place holds of all
pub all_of_places : {X : Type 0} (P : X → Type 0) (xs : List X) → ((place : ℕ) (d : X) → place < length xs → P (get_or xs place d)) → AllByRecursion P xs
all_of_places P [] each = tt
all_of_places P (x ∷ xs) each = (each zero x (omega arith), all_of_places P xs (λ place d within. each (suc place) d (omega (arith, within))))

-- what holds of all holds at each place
pub place_of_all : {X : Type 0} (P : X → Type 0) (xs : List X) (place : ℕ) (d : X) → place < length xs → AllByRecursion P xs → P (get_or xs place d)
place_of_all P [] place d within all = absurd (omega (arith, within))
place_of_all P (x ∷ xs) zero d within all = all.0
place_of_all P (x ∷ xs) (suc place) d within all = place_of_all P xs place d (omega (arith, within)) all.1

-- a list ends with one that is related to this one, which has as many before it
abbrev EndsLike : {X : Type 0} → (X → X → Type 0) → List X → X → List X → Type 0
EndsLike {X} R others last new = (rest : List X) × (now : X) × (new ≡ rest ++ now ∷ []) × (length rest ≡ length others) × R last now

one_more : {X : Type 0} (R : X → X → Type 0) (x y : X) (others : List X) (last : X) (new : List X) → EndsLike R others last new → EndsLike R (x ∷ others) last (y ∷ new)
one_more R x y others last new ends = (y ∷ ends.0, ends.1, ap (λ l. y ∷ l) ends.2, longer (length ends.0) (length others) ends.3, ends.4)
  where
    longer : (n m : ℕ) → n ≡ m → suc n ≡ suc m
    longer n m same = ap suc same

-- two lists as long, and one relation at each place: the last of the one is related to the last of the other
pair_last : {X : Type 0} (R : X → X → Type 0) (others : List X) (last : X) (new : List X) → length new ≡ length (others ++ last ∷ [])
    → ((place : ℕ) (d : X) → place < length (others ++ last ∷ []) → R (get_or (others ++ last ∷ []) place d) (get_or new place d))
    → EndsLike R others last new
pair_last R [] last [] long each = absurd (omega (arith, long))
pair_last R [] last (y ∷ []) long each = ([], y, refl, refl, each zero last (omega arith))
pair_last R [] last (y ∷ z ∷ new) long each = absurd (omega (arith, long))
pair_last R (x ∷ others) last [] long each = absurd (omega (arith, long))
pair_last R (x ∷ others) last (y ∷ new) long each =
    one_more R x y others last new (pair_last R others last new (omega (arith, long)) (λ place d within. each (suc place) d (omega (arith, within))))

-- what holds of the last of a list and of how many come before it goes on where it does from each element to the one at its place
pub last_stays : {X : Type 0} (R : X → X → Type 0) (Holds : ℕ → X → Type 0) (old new : List X) → ((n : ℕ) (x y : X) → R x y → Holds n x → Holds n y) → length new ≡ length old
    → ((place : ℕ) (d : X) → place < length old → R (get_or old place d) (get_or new place d)) → HasLast (λ others last. Holds (length others) last) old
    → HasLast (λ others last. Holds (length others) last) new
last_stays R Holds old new goes long each last =
    let pair = pair_last R last.0 last.1 new (long ∙ ap length last.2) (subst (λ l. (place : ℕ) (d : _) → place < length l → R (get_or l place d) (get_or new place d)) last.2 each) in
    (pair.0, pair.1, pair.2, subst (λ n. Holds n pair.1) (sym pair.3) (goes (length last.0) last.1 pair.1 pair.4 last.3))
