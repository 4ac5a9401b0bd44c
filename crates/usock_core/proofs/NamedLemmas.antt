-- Lists of keys that are named, where one comes or goes.
use Rattle.std.proofs.Common.{◌≡◌, ◌⊎◌, inl, inr, ℕ, zero, suc, ◌<◌, Bool, true, false, Some, List, [], ◌∷◌, ◌++◌, length, get_or, refl, sym, subst, arith, Contains, eq-eqb}
use Rattle.std.specs.List.{remove, list_any}
use Rattle.std.specs.Prelude.{nat_eq}
use Rattle.std.proofs.lemmas.List.Elements.{Contains-get_or, Contains-append_left, Contains-push, Contains-push_cases}
use Rattle.kheap_slabs.specs.Heap.{Heap}
use Rattle.chunk_queue.proofs.JoinedLemmas.{Contains-cons, Contains-cons_cases}
use Rattle.usock_core.specs.declared.accepted.Accepted.{Accepted}
use Rattle.usock_core.specs.declared.accepted.Accepted.TheVariants as accepted
use Rattle.usock_core.specs.Answers.{named_after}
use Rattle.usock_core.specs.Standing.{IsHeldIn, IsListeningIn}
use Rattle.usock_core.proofs.HeldLemmas.{held_moved}

at_head : (first key : ℕ) (rest : List ℕ) → first ≡ key → Contains (first ∷ rest) key
at_head first key rest same = (0, omega arith, same)

to_end : (added : ℕ) (named : List ℕ) (key : ℕ) → Contains (added ∷ named) key → Contains (named ++ added ∷ []) key
to_end added named key there = elim (Contains-cons_cases added key named there) [
  | inl same ↦ subst (Contains (named ++ added ∷ [])) same (Contains-push named added)
  | inr behind ↦ Contains-append_left named (added ∷ []) key behind
]

from_end : (added : ℕ) (named : List ℕ) (key : ℕ) → Contains (named ++ added ∷ []) key → Contains (added ∷ named) key
from_end added named key there = elim (Contains-push_cases named added key there) [
  | inl here ↦ Contains-cons added key named here
  | inr same ↦ at_head added key named same
]

-- one more is named, at the end of the list
pub held_pushed : (h : Heap) (added : ℕ) (named : List ℕ) → IsHeldIn h (added ∷ named) → IsHeldIn h (named ++ added ∷ [])
held_pushed h added named is = held_moved h (added ∷ named) (named ++ added ∷ []) (to_end added named) (from_end added named) is

under : (first : ℕ) (named other : List ℕ) → ((key : ℕ) → Contains named key → Contains other key) → (key : ℕ) → Contains (first ∷ named) key → Contains (first ∷ other) key
under first named other there key here = elim (Contains-cons_cases first key named here) [
  | inl same ↦ at_head first key other same
  | inr behind ↦ Contains-cons first key other (there key behind)
]

-- two more are
pub held_pushed_twice : (h : Heap) (one other : ℕ) (named : List ℕ) → IsHeldIn h (other ∷ one ∷ named) → IsHeldIn h ((named ++ one ∷ []) ++ other ∷ [])
held_pushed_twice h one other named is =
    held_pushed h other (named ++ one ∷ []) (held_moved h (other ∷ one ∷ named) (other ∷ (named ++ one ∷ [])) (under other (one ∷ named) (named ++ one ∷ []) (to_end one named)) (under other (named ++ one ∷ []) (one ∷ named) (from_end one named)) is)

taken_apart : (named : List ℕ) (at d : ℕ) → at < length named → (key : ℕ) → Contains named key → Contains (get_or named at d ∷ remove named at) key
taken_apart [] at d within key there = absurd (omega arith)
taken_apart (first ∷ rest) zero d within key there = there
taken_apart (first ∷ rest) (suc at) d within key there = elim (Contains-cons_cases first key rest there) [
  | inl same ↦ Contains-cons (get_or rest at d) key (first ∷ remove rest at) (at_head first key (remove rest at) same)
  | inr behind ↦ elim (Contains-cons_cases (get_or rest at d) key (remove rest at) (taken_apart rest at d (omega arith) key behind)) [
    | inl same ↦ at_head (get_or rest at d) key (first ∷ remove rest at) same
    | inr left ↦ Contains-cons (get_or rest at d) key (first ∷ remove rest at) (Contains-cons first key (remove rest at) left)
  ]
]

put_together : (named : List ℕ) (at d : ℕ) → at < length named → (key : ℕ) → Contains (get_or named at d ∷ remove named at) key → Contains named key
put_together [] at d within key there = absurd (omega arith)
put_together (first ∷ rest) zero d within key there = there
put_together (first ∷ rest) (suc at) d within key there = elim (Contains-cons_cases (get_or rest at d) key (first ∷ remove rest at) there) [
  | inl same ↦ Contains-cons first key rest (subst (Contains rest) same (Contains-get_or rest at d (omega arith)))
  | inr behind ↦ elim (Contains-cons_cases first key (remove rest at) behind) [
    | inl same ↦ at_head first key rest same
    | inr left ↦ Contains-cons first key rest (put_together rest at d (omega arith) key (Contains-cons (get_or rest at d) key (remove rest at) left))
  ]
]

-- one is taken out of the list
pub held_removed : (h : Heap) (named : List ℕ) (at taken : ℕ) → at < length named → taken ≡ get_or named at taken → IsHeldIn h named → IsHeldIn h (taken ∷ remove named at)
held_removed h named at taken within is held =
    subst (λ (n : ℕ). IsHeldIn h (n ∷ remove named at)) (sym is) (held_moved h named (get_or named at taken ∷ remove named at) (taken_apart named at taken within) (put_together named at taken within) held)

-- what no test finds is nowhere
pub absent : (named : List ℕ) (key : ℕ) → list_any (λ y. nat_eq y key) named ≡ false → Contains named key → ⊥
absent [] key none there = omega (arith, there.1)
absent (first ∷ rest) key none there = go (nat_eq first key) refl (absent rest key) (Contains-cons_cases first key rest there)
  where
    go : (same : Bool) → nat_eq first key ≡ same → (list_any (λ y. nat_eq y key) rest ≡ false → Contains rest key → ⊥) → (first ≡ key) ⊎ Contains rest key → ⊥
    go true e behind found = let it = none in grind arith
    go false e behind (inl same) = let is : nat_eq first key ≡ true = eq-eqb first key same in cc
    go false e behind (inr left) = behind (let it = none in grind arith) left

-- where nothing was taken the same are named
pub not_taken : (answer : Accepted) (named : List ℕ) → ((key : ℕ) → answer ≡ accepted.Took key → ⊥) → named_after answer named ≡ named
not_taken (accepted.Took key) named isnt = absurd (isnt key refl)
not_taken accepted.Blocked named isnt = refl
not_taken (accepted.Fault errno) named isnt = refl

pub only_listens : (h : Heap) (key : ℕ) → IsListeningIn h key → (other : ℕ) → Some key ≡ Some other → IsListeningIn h other
only_listens h key is other same = let named : key ≡ other = cc in subst (IsListeningIn h) named is
