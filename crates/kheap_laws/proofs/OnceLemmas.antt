-- Lists of keys in which none stands twice.
use Rattle.std.proofs.Common.{◌≡◌, ◌⊎◌, refl, ℕ, zero, suc, ◌<◌, List, [], ◌∷◌, ◌++◌, length, get_or, sym, ◌∙◌, inl, inr, arith, Contains}
use Rattle.std.proofs.lemmas.Grind.{get_or_default_zero}
use Rattle.std.proofs.lemmas.List.Elements.{Contains-append_left, Contains-append_right, Contains-append_cases}
use Rattle.slab.proofs.SlabLemmas.{Contains-cons, Contains-cons_cases}
use Rattle.kheap_slabs.specs.Keys.{IsOnce, Apart}

-- an element stands at some place
pub Contains-at : (keys : List ℕ) (i key : ℕ) → i < length keys → get_or keys i 0 ≡ key → Contains keys key
Contains-at keys i key within is = (i, within, get_or_default_zero keys i key within ∙ is)

-- a list of one key has no other
pub Contains-single : (key other : ℕ) → Contains (key ∷ []) other → key ≡ other
Contains-single key other there = elim (Contains-cons_cases key other [] there) [
  | inl same ↦ same
  | inr none ↦ absurd (omega (arith, none.1))
]

pub Apart-sym : (one other : List ℕ) → Apart one other → Apart other one
Apart-sym one other apart key here there = apart key there here

pub IsOnce-tail : (key : ℕ) (rest : List ℕ) → IsOnce (key ∷ rest) → IsOnce rest
IsOnce-tail key rest once i j before within = once (suc i) (suc j) (omega arith) (omega arith)

pub IsOnce-head : (key : ℕ) (rest : List ℕ) → IsOnce (key ∷ rest) → Contains rest key → ⊥
IsOnce-head key rest once there =
    once 0 (suc there.0) (omega arith) (omega (arith, there.1)) (sym (sym (get_or_default_zero rest there.0 key there.1) ∙ there.2))

pub IsOnce-cons : (key : ℕ) (rest : List ℕ) → (Contains rest key → ⊥) → IsOnce rest → IsOnce (key ∷ rest)
IsOnce-cons key rest absent once zero zero before within same = omega arith
IsOnce-cons key rest absent once zero (suc j) before within same = absent (Contains-at rest j key (omega arith) (sym same))
IsOnce-cons key rest absent once (suc i) zero before within same = omega arith
IsOnce-cons key rest absent once (suc i) (suc j) before within same = once i j (omega arith) (omega arith) same

pub IsOnce-append : (front back : List ℕ) → IsOnce front → IsOnce back → Apart front back → IsOnce (front ++ back)
IsOnce-append [] back once other apart = other
IsOnce-append (key ∷ rest) back once other apart =
    IsOnce-cons key (rest ++ back) (λ there. absent (Contains-append_cases rest back key there)) (IsOnce-append rest back (IsOnce-tail key rest once) other (λ k here there. apart k (Contains-cons key k rest here) there))
  where
    absent : Contains rest key ⊎ Contains back key → ⊥
    absent (inl here) = IsOnce-head key rest once here
    absent (inr there) = apart key (0, omega arith, refl) there

pub IsOnce-left : (front back : List ℕ) → IsOnce (front ++ back) → IsOnce front
IsOnce-left [] back once = λ i j before within same. omega arith
IsOnce-left (key ∷ rest) back once =
    IsOnce-cons key rest (λ there. IsOnce-head key (rest ++ back) once (Contains-append_left rest back key there)) (IsOnce-left rest back (IsOnce-tail key (rest ++ back) once))

pub IsOnce-right : (front back : List ℕ) → IsOnce (front ++ back) → IsOnce back
IsOnce-right [] back once = once
IsOnce-right (key ∷ rest) back once = IsOnce-right rest back (IsOnce-tail key (rest ++ back) once)

-- two parts of such a list share none
pub IsOnce-apart : (front back : List ℕ) → IsOnce (front ++ back) → Apart front back
IsOnce-apart [] back once key here there = omega (arith, here.1)
IsOnce-apart (first ∷ rest) back once key here there = elim (Contains-cons_cases first key rest here) [
  | inl same ↦ IsOnce-head first (rest ++ back) once (rw same (Contains-append_right rest back key there))
  | inr behind ↦ IsOnce-apart rest back (IsOnce-tail first (rest ++ back) once) key behind there
]

pub IsOnce-push : (keys : List ℕ) (key : ℕ) → IsOnce keys → (Contains keys key → ⊥) → IsOnce (keys ++ key ∷ [])
IsOnce-push keys key once absent =
    IsOnce-append keys (key ∷ []) once (IsOnce-cons key [] (λ none. omega (arith, none.1)) (λ i j before within same. omega arith)) (λ k here there. absent (rw (Contains-single key k there) here))
