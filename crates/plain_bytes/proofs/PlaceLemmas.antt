-- Objects by their places, and another list that is made of them, object by object: what it has at a place, how many are there, and
-- what was found by a test.
use Rattle.std.proofs.Common.{◌≡◌, ℕ, zero, suc, ◌+◌, Bool, true, false, List, [], ◌∷◌, length, get_or, cond, map, Option, None, Some, refl, sym, ◌∙◌, subst, inl, inr, arith}
use Rattle.std.specs.Prelude.{is_some}
use Rattle.std.specs.List.{count_by, position_from}
use Rattle.std.specs.Option.{option_map}
use Rattle.std.proofs.lemmas.Bool.{cases_Bool, false≢true}
use Rattle.std.proofs.lemmas.List.Sums.{sum_by-cons}
use Rattle.kept_places.specs.Places.{there_from}

-- what the list has at the place of an object
pub at_mapped : {A B : Type 0} (f : A → B) (there : List (Option A)) (place : ℕ) → get_or (map (option_map f) there) place None ≡ option_map f (get_or there place None)
at_mapped f [] place = refl
at_mapped f (first ∷ rest) zero = refl
at_mapped f (first ∷ rest) (suc place) = at_mapped f rest place

pub some_mapped : {A B : Type 0} (f : A → B) (o : Option A) → is_some (option_map f o) ≡ true → is_some o ≡ true
some_mapped f None h = h
some_mapped f (Some a) h = refl

-- where the list has something there is an object
pub is_there : {A B : Type 0} (f : A → B) (there : List (Option A)) (place : ℕ) → is_some (get_or (map (option_map f) there) place None) ≡ true
    → is_some (get_or there place None) ≡ true
is_there f there place h = some_mapped f (get_or there place None) (subst (λ o. is_some o ≡ true) (at_mapped f there place) h)

count_cons : {B : Type 0} (o : Option B) (rest : List (Option B)) → count_by is_some (o ∷ rest) ≡ cond (is_some o) 1 0 + count_by is_some rest
count_cons o rest = sum_by-cons (λ q. cond (is_some q) 1 0) o rest

-- how many are there
pub count_there : {A B : Type 0} (f : A → B) (from : ℕ) (there : List (Option A)) → length (there_from from there) ≡ count_by is_some (map (option_map f) there)
count_there f from [] = refl
count_there f from (None ∷ rest) = omega (arith, count_there f (from + 1) rest, count_cons None (map (option_map f) rest))
count_there f from (Some a ∷ rest) = omega (arith, count_there f (from + 1) rest, count_cons (Some (f a)) (map (option_map f) rest))

-- ---- what was found

-- the first that passes, counted from a place on
record Found {B : Type 0} (test : Option B → Bool) (from : ℕ) (there : List (Option B)) (found : ℕ) : Type 0 where
  place : ℕ
  is : found ≡ from + place
  passes : test (get_or there place None) ≡ true

found_at : {B : Type 0} (test : Option B → Bool) (from : ℕ) (there : List (Option B)) (found : ℕ) → position_from test from there ≡ Some found → Found test from there found
found_at test from [] found is = absurd (cc)
found_at test from (first ∷ rest) found is = elim (cases_Bool (test first)) [
  | inl holds ↦ record { place = 0; is = let same : from ≡ found = let it = rw holds at is in cc in omega (arith, same); passes = holds }
  | inr fails ↦ (
      let behind = found_at test (from + 1) rest found (rw fails at is) in
      let further = behind.is in
      record { place = suc behind.place; is = omega (arith, further); passes = behind.passes }
      )
]

pub passes_there : {B : Type 0} (test : Option B → Bool) (there : List (Option B)) (place : ℕ) → position_from test 0 there ≡ Some place
    → test (get_or there place None) ≡ true
passes_there test there place is =
    let found = found_at test 0 there place is in
    let same : found.place ≡ place = let it = found.is in omega (arith, it) in
    subst (λ n. test (get_or there n None) ≡ true) same found.passes

pub passes_nowhere : {B : Type 0} (test : Option B → Bool) (from : ℕ) (there : List (Option B)) → test None ≡ false → position_from test from there ≡ None
    → (place : ℕ) → test (get_or there place None) ≡ false
passes_nowhere test from [] never is place = never
passes_nowhere test from (first ∷ rest) never is zero = elim (cases_Bool (test first)) [
  | inl holds ↦ absurd (let it = rw holds at is in cc)
  | inr fails ↦ fails
]
passes_nowhere test from (first ∷ rest) never is (suc place) = elim (cases_Bool (test first)) [
  | inl holds ↦ absurd (let it = rw holds at is in cc)
  | inr fails ↦ passes_nowhere test (from + 1) rest never (rw fails at is) place
]

-- what passes is there, where nothing passes that isn't
pub passing_there : {B : Type 0} (test : Option B → Bool) → test None ≡ false → (o : Option B) → test o ≡ true → is_some o ≡ true
passing_there test never None is = absurd (false≢true (sym never ∙ is))
passing_there test never (Some b) is = refl
