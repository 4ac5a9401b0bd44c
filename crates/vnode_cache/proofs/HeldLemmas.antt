-- Nodes that are held stay so after each change of one Vnode.
use Rattle.std.proofs.Common.{◌≡◌, ◌≢◌, ℕ, ◌+◌, ◌-◌, ◌<◌, ◌≤◌, List, ◌∷◌, [], length, Option, Some, None, IsSome, true, refl, sym, ap, ◌∙◌, subst, inl, inr, arith, le_refl, le_trans, eqb-true}
use Rattle.std.specs.Prelude.{nat_eq}
use Rattle.std.proofs.lemmas.Bool.{cases_eq}
use Rattle.kheap_slabs.specs.Objects.{object, put, without}
use Rattle.kheap_slabs.specs.declared.objects.Vnode.{Vnode}
use Rattle.kheap_slabs.proofs.ObjectLemmas.{InUse-within, object-put, object-put_other, object-without_other}
use Rattle.vnode_cache.specs.Calls.{AreSteps, taken_off, last_of}
use Rattle.vnode_cache.specs.Nodes.{is_loose, IsLoose, StaysHeld, StaysBut}

pub held_same : (number : ℕ) (objects : List (Option Vnode)) → StaysHeld number objects objects
held_same number objects slot v at is some = (v, at, is, le_refl _)

pub held_then : (number : ℕ) (a b c : List (Option Vnode)) → StaysHeld number a b → StaysHeld number b c → StaysHeld number a c
held_then number a b c first second slot v at is some =
    let w = first slot v at is some in
    let x = second slot w.0 w.1 w.2 (still v.pins w.0.pins some w.3) in
    (x.0, x.1, x.2, le_trans w.3 x.3)
  where
    still : (m n : ℕ) → 0 < m → m ≤ n → 0 < n
    still m n some more = omega arith

pub none_off : (number : ℕ) (old new : List (Option Vnode)) → StaysHeld number old new → StaysBut 0 number old new
none_off number old new held slot v at is some =
    let w = held slot v at is some in
    (w.0, w.1, w.2, more v.pins w.0.pins w.3)
  where
    more : (m n : ℕ) → m ≤ n → m ≤ n + 0
    more m n le = omega arith

-- another Vnode is put at a slot, of the same node and with as many pins or more
pub held_set : (number : ℕ) (objects : List (Option Vnode)) (slot : ℕ) (was now : Vnode) → object objects slot ≡ Some was → now.number ≡ was.number → was.pins ≤ now.pins → StaysHeld number objects (put objects slot now)
held_set number objects slot was now there same more s v at is some = elim (cases_eq s slot) [
  | inl e ↦
      let both : Some was ≡ Some v = sym there ∙ ap (object objects) (sym e) ∙ at in
      let one : was ≡ v = cc in
      (now, ap (object (put objects slot now)) e ∙ object-put objects slot now (within objects slot was there), same ∙ ap (λ x. x.number) one ∙ is, subst (λ x. x.pins ≤ now.pins) one more)
  | inr n ↦ (v, object-put_other objects slot s now n ∙ at, is, le_refl _)
]
  where
    within : (objects : List (Option Vnode)) (slot : ℕ) (was : Vnode) → object objects slot ≡ Some was → slot < length objects
    within objects slot was there = InUse-within objects slot (subst IsSome (sym there) refl)

-- a Vnode of another node is put at its slot
pub held_others : (number : ℕ) (objects : List (Option Vnode)) (slot : ℕ) (was now : Vnode) → object objects slot ≡ Some was → number ≢ was.number → StaysHeld number objects (put objects slot now)
held_others number objects slot was now there differs s v at is some = elim (cases_eq s slot) [
  | inl e ↦
      let both : Some was ≡ Some v = sym there ∙ ap (object objects) (sym e) ∙ at in
      let one : was ≡ v = cc in
      absurd (differs (sym is ∙ ap (λ x. x.number) (sym one)))
  | inr n ↦ (v, object-put_other objects slot s now n ∙ at, is, le_refl _)
]

-- a Vnode is made at a free slot
pub held_made : (number : ℕ) (objects : List (Option Vnode)) (slot : ℕ) (made : Vnode) → object objects slot ≡ None → StaysHeld number objects (put objects slot made)
held_made number objects slot made vacant s v at is some = elim (cases_eq s slot) [
  | inl e ↦ let none : object objects s ≡ None = ap (object objects) e ∙ vacant in absurd (cc)
  | inr n ↦ (v, object-put_other objects slot s made n ∙ at, is, le_refl _)
]

-- a Vnode goes that no one holds
pub held_freed : (number : ℕ) (objects : List (Option Vnode)) (slot : ℕ) → IsLoose objects slot → StaysHeld number objects (without objects slot)
held_freed number objects slot loose s v at is some = elim (cases_eq s slot) [
  | inl e ↦
      let test : nat_eq v.pins 0 ≡ true = sym (ap is_loose at) ∙ ap (λ x. is_loose (object objects x)) e ∙ loose in
      absurd (no_pins v.pins some test)
  | inr n ↦ (v, object-without_other objects slot s n ∙ at, is, le_refl _)
]
  where
    no_pins : (n : ℕ) → 0 < n → nat_eq n 0 ≡ true → ⊥
    no_pins n some test = absurd (omega (arith, some, eqb-true n 0 test))

-- one pin is taken off a Vnode
pub but_one : (number : ℕ) (objects : List (Option Vnode)) (slot : ℕ) (was now : Vnode) → object objects slot ≡ Some was → now.number ≡ was.number → now.pins ≡ was.pins - 1 → StaysBut 1 number objects (put objects slot now)
but_one number objects slot was now there same less s v at is some = elim (cases_eq s slot) [
  | inl e ↦
      let both : Some was ≡ Some v = sym there ∙ ap (object objects) (sym e) ∙ at in
      let one : was ≡ v = cc in
      (now, ap (object (put objects slot now)) e ∙ object-put objects slot now (InUse-within objects slot (subst IsSome (sym there) refl)), same ∙ ap (λ x. x.number) one ∙ is, rest v.pins now.pins (less ∙ ap (λ x. x.pins - 1) one))
  | inr n ↦ (v, object-put_other objects slot s now n ∙ at, is, more v.pins)
]
  where
    rest : (m n : ℕ) → n ≡ m - 1 → m ≤ n + 1
    rest m n e = omega arith

    more : (m : ℕ) → m ≤ m + 1
    more m = omega arith

-- a node stays through all steps, which take fewer pins off than it has
pub held_through : (number : ℕ) (first : List (Option Vnode)) (steps : List (ℕ × List (Option Vnode))) → AreSteps number first steps → StaysBut (taken_off steps) number first (last_of first steps)
held_through number first [] steps slot v at is some = (v, at, is, more v.pins)
  where
    more : (m : ℕ) → m ≤ m + 0
    more m = omega arith
held_through number first (step ∷ rest) steps slot v at is some =
    let w = steps.0 slot v at is (fewer step.0 (taken_off rest) v.pins some) in
    let x = held_through number step.1 rest steps.1 slot w.0 w.1 w.2 (left step.0 (taken_off rest) v.pins w.0.pins some w.3) in
    (x.0, x.1, x.2, both step.0 (taken_off rest) v.pins w.0.pins x.0.pins w.3 x.3)
  where
    fewer : (a b m : ℕ) → a + b < m → a < m
    fewer a b m lt = omega arith

    left : (a b m n : ℕ) → a + b < m → m ≤ n + a → b < n
    left a b m n lt le = omega arith

    both : (a b m n k : ℕ) → m ≤ n + a → n ≤ k + b → m ≤ k + (a + b)
    both a b m n k first second = omega arith
