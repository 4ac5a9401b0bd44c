-- What is in a list that begins with one more.
use Rattle.std.proofs.Common.{◌≡◌, ◌⊎◌, ℕ, zero, suc, ◌<◌, List, ◌∷◌, get_or, length, inl, inr, arith, Contains}

pub Contains-cons : {X : Type 0} (first what : X) (rest : List X) → Contains rest what → Contains (first ∷ rest) what
Contains-cons first what rest there = (suc there.0, omega (arith, there.1), there.2)

pub Contains-cons_cases : {X : Type 0} (first what : X) (rest : List X) → Contains (first ∷ rest) what → (first ≡ what) ⊎ Contains rest what
Contains-cons_cases {X} first what rest there = where_it_is there.0 there.1 there.2
  where
    where_it_is : (at : ℕ) → at < suc (length rest) → get_or (first ∷ rest) at what ≡ what → (first ≡ what) ⊎ Contains rest what
    where_it_is zero within is = inl is
    where_it_is (suc at) within is = inr (at, omega arith, is)
