-- Objects with numbers of their own below a limit are no more than that, and fewer where one of the numbers has none.
use Rattle.std.proofs.Common.{◌≡◌, ◌≢◌, ℕ, zero, suc, ◌+◌, ◌<◌, ◌≤◌, Bool, true, false, cond, List, [], ◌∷◌, Option, Some, None, is_some, IsSome, nat_eq, eqb-true, refl, sym, ap, ◌∙◌, inl, inr, arith}
use Rattle.std.specs.Cmp.{nat_eq_equiv}
use Rattle.std.specs.Option.{option_map}
use Rattle.std.proofs.lemmas.Bool.{cases_eq, false≢true}
use Rattle.std.proofs.lemmas.List.Sums.{sum_by-cons}
use Rattle.kheap_slabs.specs.Objects.{object, InUse, count, without}
use Rattle.kheap_slabs.proofs.ObjectLemmas.{object-without, object-without_other, count-without, InUse-within, object_of}
use Rattle.cache_laws.specs.Caches.{key_at}

some_inside : {A B : Type 0} (f : A → B) (o : Option A) (b : B) → option_map f o ≡ Some b → IsSome o
some_inside f None b = λ h. cc
some_inside f (Some x) b = λ h. refl

-- where no place has an object there is none
count-nothing : {X : Type 0} (objects : List (Option X)) → ((slot : ℕ) → object objects slot ≡ None) → count objects ≡ 0
count-nothing [] none = refl
count-nothing (o ∷ objects) none =
    let first : o ≡ None = none 0 in
    let rest = count-nothing objects (λ slot. none (suc slot)) in
    sum_by-cons (λ o. cond (is_some o) 1 0) o objects ∙ ap (λ o. cond (is_some o) 1 0 + count objects) first ∙ ap (λ n. 0 + n) rest

module _ {X : Type 0} (number : X → ℕ) where
  -- each object is found under its number, and nothing else is
  pub record AreFound (objects : List (Option X)) (find : ℕ → Option ℕ) : Type 0 where
    pub there : (k slot : ℕ) → find k ≡ Some slot → key_at number objects slot ≡ Some k
    pub only : (k slot : ℕ) → key_at number objects slot ≡ Some k → find k ≡ Some slot

  abbrev AreBelow : List (Option X) → ℕ → Type 0
  AreBelow objects limit = (k slot : ℕ) → key_at number objects slot ≡ Some k → k < limit

  abbrev but : (ℕ → Option ℕ) → ℕ → ℕ → Option ℕ
  but find n k = cond (nat_eq n k) None (find k)

  used : (objects : List (Option X)) (find : ℕ → Option ℕ) (k slot : ℕ) → AreFound objects find → find k ≡ Some slot → InUse objects slot
  used objects find k slot found at = some_inside number (object objects slot) k (found.there k slot at)

  -- one object goes
  found_without : (objects : List (Option X)) (find : ℕ → Option ℕ) (n slot : ℕ) → AreFound objects find → find n ≡ Some slot → AreFound (without objects slot) (but find n)
  found_without objects find n slot found at =
      let within = InUse-within objects slot (used objects find n slot found at) in
      let gone : key_at number (without objects slot) slot ≡ None = ap (option_map number) (object-without objects slot within) in
      let other = λ (s : ℕ) (differs : s ≢ slot). ap (option_map number) (object-without_other objects slot s differs) in
      record {
        there = λ k s is. (elim (nat_eq n k) as (λ y. nat_eq n k ≡ y → cond y None (find k) ≡ Some s → key_at number (without objects slot) s ≡ Some k) [
          | true ↦ λ t e. cc
          | false ↦ λ t e. elim (cases_eq s slot) [
            | inl f ↦
                let here : key_at number objects slot ≡ Some k = ap (key_at number objects) (sym f) ∙ found.there k s e in
                let both : Some n ≡ Some k = sym (found.there n slot at) ∙ here in
                let one : n ≡ k = cc in
                absurd (false≢true (sym t ∙ ap (nat_eq n) (sym one) ∙ nat_eq_equiv.refl n))
            | inr differs ↦ other s differs ∙ found.there k s e
          ]
        ]) refl is;
        only = λ k s is. elim (cases_eq s slot) [
          | inl f ↦ let none : key_at number (without objects slot) s ≡ None = ap (key_at number (without objects slot)) f ∙ gone in absurd (cc)
          | inr differs ↦ still k s differs (found.only k s (sym (other s differs) ∙ is))
        ];
      }
    where
      still : (k s : ℕ) → s ≢ slot → find k ≡ Some s → but find n k ≡ Some s
      still k s differs is = (elim (nat_eq n k) as (λ y. nat_eq n k ≡ y → cond y None (find k) ≡ Some s) [
        | true ↦ λ t. let here : find k ≡ Some slot = ap find (sym (eqb-true n k t)) ∙ at in let one : s ≡ slot = cc in absurd (differs one)
        | false ↦ λ t. is
      ]) refl

  -- the numbers of those that stay are below the one that went
  below_without : (objects : List (Option X)) (find : ℕ → Option ℕ) (n slot : ℕ) → AreFound objects find → find n ≡ Some slot → AreBelow objects (suc n) → AreBelow (without objects slot) n
  below_without objects find n slot found at below k s is =
      let within = InUse-within objects slot (used objects find n slot found at) in
      elim (cases_eq s slot) [
        | inl f ↦ let none : key_at number (without objects slot) s ≡ None = ap (key_at number (without objects slot)) f ∙ ap (option_map number) (object-without objects slot within) in absurd (cc)
        | inr differs ↦
            let here : key_at number objects s ≡ Some k = sym (ap (option_map number) (object-without_other objects slot s differs)) ∙ is in
            let less : k < suc n = below k s here in
            elim (cases_eq k n) [
              | inl e ↦ let there : find n ≡ Some s = ap find (sym e) ∙ found.only k s here in let one : s ≡ slot = cc in absurd (differs one)
              | inr unlike ↦ omega arith
            ]
      ]

  below_absent : (objects : List (Option X)) (find : ℕ → Option ℕ) (n : ℕ) → AreFound objects find → find n ≡ None → AreBelow objects (suc n) → AreBelow objects n
  below_absent objects find n found none below k s is =
      let less : k < suc n = below k s is in
      elim (cases_eq k n) [
        | inl e ↦ let there : find n ≡ Some s = ap find (sym e) ∙ found.only k s is in absurd (cc)
        | inr unlike ↦ omega arith
      ]

  none_below : (objects : List (Option X)) → AreBelow objects 0 → (slot : ℕ) → object objects slot ≡ None
  none_below objects below slot = by_case (object objects slot) refl
    where
      by_case : (o : Option X) → object objects slot ≡ o → object objects slot ≡ None
      by_case None none = none
      by_case (Some x) some = let less : number x < 0 = below (number x) slot (ap (option_map number) some) in absurd (omega arith)

  -- no more than the limit
  pub few : (limit : ℕ) (objects : List (Option X)) (find : ℕ → Option ℕ) → AreFound objects find → AreBelow objects limit → count objects ≤ limit
  few zero objects find found below = let none = count-nothing objects (none_below objects below) in omega arith
  few (suc n) objects find found below = (elim (find n) as (λ o. find n ≡ o → count objects ≤ suc n) [
    | None ↦ λ none. let less = few n objects find found (below_absent objects find n found none below) in omega arith
    | Some slot ↦ λ at.
        let less = few n (without objects slot) (but find n) (found_without objects find n slot found at) (below_without objects find n slot found at below) in
        let one = count-without objects slot (used objects find n slot found at) in
        omega arith
  ]) refl

  -- fewer than the limit, where a number below it has none
  pub fewer : (limit : ℕ) (objects : List (Option X)) (find : ℕ → Option ℕ) (k : ℕ) → AreFound objects find → AreBelow objects limit → k < limit → find k ≡ None → count objects < limit
  fewer zero objects find k found below less absent = absurd (omega arith)
  fewer (suc n) objects find k found below less absent = (elim (find n) as (λ o. find n ≡ o → count objects < suc n) [
    | None ↦ λ none. let most = few n objects find found (below_absent objects find n found none below) in omega arith
    | Some slot ↦ λ at.
        let unlike : k ≢ n = λ e. let here : find k ≡ Some slot = ap find e ∙ at in cc in
        let still : but find n k ≡ None = (elim (nat_eq n k) as (λ y. cond y None (find k) ≡ None) [ true ↦ refl | false ↦ absent ]) in
        let most = fewer n (without objects slot) (but find n) k (found_without objects find n slot found at) (below_without objects find n slot found at below) (omega arith) still in
        let one = count-without objects slot (used objects find n slot found at) in
        omega arith
  ]) refl
