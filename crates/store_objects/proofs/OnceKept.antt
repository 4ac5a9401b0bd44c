-- A cache that keeps each object of its class under its key, and has as many pairs as there are objects, has no key twice.
use Rattle.std.proofs.Common.{◌≡◌, ◌≢◌, ℕ, zero, suc, ◌+◌, ◌≤◌, Bool, true, false, cond, List, [], ◌∷◌, length, Option, Some, None, is_some, refl, ap, sym, ◌∙◌, subst, inl, inr, arith}
use Rattle.std.specs.Cmp.{IsEquivalence}
use Rattle.std.specs.List.{AllByRecursion}
use Rattle.std.specs.Map.{keys_of, lookup, remove_entry}
use Rattle.std.specs.Option.{option_map}
use Rattle.std.proofs.lemmas.Bool.{cases_eq}
use Rattle.std.proofs.lemmas.List.Sums.{sum_by-cons}
use Rattle.kheap_slabs.specs.Objects.{InUse, count, object, without}
use Rattle.kheap_slabs.proofs.ObjectLemmas.{count-without, object-without_other}
use Rattle.lru_index.specs.Order.{Order}
use Rattle.lru_index.proofs.Pairs.{length_removed}
use Rattle.cache_laws.specs.Caches.{Keeps, key_at}
use Rattle.posix_defs.specs.World.{AreOnce}

module _ {X : Type 0} where
  -- a key names nothing once its object has gone, and where it named nothing all stays
  gone_at : (objects : List (Option X)) (slot : ℕ) → object (without objects slot) slot ≡ None
  gone_at [] slot = refl
  gone_at (first ∷ rest) zero = refl
  gone_at (first ∷ rest) (suc slot) = gone_at rest slot

  none_gone : (objects : List (Option X)) (slot : ℕ) → object objects slot ≡ None → without objects slot ≡ objects
  none_gone [] slot none = refl
  none_gone (first ∷ rest) zero none = ap (λ (o : Option X). o ∷ rest) (sym none)
  none_gone (first ∷ rest) (suc slot) none = ap (λ (objects : List (Option X)). first ∷ objects) (none_gone rest slot none)

  -- one object goes at most
  one_goes : (objects : List (Option X)) (slot : ℕ) → count objects ≤ count (without objects slot) + 1
  one_goes objects slot = go (object objects slot) refl
    where
      go : (o : Option X) → object objects slot ≡ o → count objects ≤ count (without objects slot) + 1
      go None none = let same : count (without objects slot) ≡ count objects = ap count (none_gone objects slot none) in omega arith
      go (Some x) is = let used : InUse objects slot = ap is_some is in let fewer = count-without objects slot used in omega (arith, fewer)

  -- 1 for an object
  abbrev one_if : Option X → ℕ
  one_if o = cond (is_some o) 1 0

  -- where no key names an object there are none
  none_there : (objects : List (Option X)) → ((slot : ℕ) → object objects slot ≡ None) → count objects ≡ 0
  none_there [] none = refl
  none_there (first ∷ rest) none =
      let here : one_if first ≡ 0 = ap one_if (none 0) in
      let behind : count rest ≡ 0 = none_there rest (λ slot. none (suc slot)) in
      let all : count (first ∷ rest) ≡ one_if first + count rest = sum_by-cons one_if first rest in
      omega (arith, here, behind, all)

module _ {K X : Type 0} {eq : K → K → Bool} (laws : IsEquivalence eq) (same : (a b : K) → eq a b ≡ true → a ≡ b) (key : X → K) where
  -- each object is found under its key
  abbrev Finds : List (Option X) → List (K × ℕ) → Type 0
  Finds objects pairs = (k : K) (slot : ℕ) → key_at key objects slot ≡ Some k → lookup (eq k) pairs ≡ Some slot

  -- without the object of the first pair each is found behind it, and carries another key
  record FindsBehind (objects : List (Option X)) (p : K × ℕ) (pairs : List (K × ℕ)) (k : K) (slot : ℕ) : Type 0 where
    found : lookup (eq k) pairs ≡ Some slot
    apart : eq k p.0 ≡ false

  behind : (objects : List (Option X)) (p : K × ℕ) (pairs : List (K × ℕ)) → Finds objects (p ∷ pairs)
      → (k : K) (slot : ℕ) → key_at key (without objects p.1) slot ≡ Some k → FindsBehind objects p pairs k slot
  behind objects p pairs finds k slot at = elim (cases_eq slot p.1) [
    | inl e ↦ absurd (never (sym (ap (option_map key) (ap (object (without objects p.1)) e ∙ gone_at objects p.1)) ∙ at))
    | inr n ↦ by_test n (eq k p.0) refl (finds k slot (ap (option_map key) (sym (object-without_other objects p.1 slot n)) ∙ at))
  ]
    where
      never : None ≡ Some k → ⊥
      never e = cc

      here : Some p.1 ≡ Some slot → slot ≡ p.1
      here e = cc

      by_test : slot ≢ p.1 → (b : Bool) → eq k p.0 ≡ b → cond b (Some p.1) (lookup (eq k) pairs) ≡ Some slot → FindsBehind objects p pairs k slot
      by_test n true e at = absurd (n (here at))
      by_test n false e at = record { found = at; apart = e }

  finds_behind : (objects : List (Option X)) (p : K × ℕ) (pairs : List (K × ℕ)) → Finds objects (p ∷ pairs) → Finds (without objects p.1) pairs
  finds_behind objects p pairs finds k slot at = (behind objects p pairs finds k slot at).found

  -- so there are no more objects than pairs
  fits : (objects : List (Option X)) (pairs : List (K × ℕ)) → Finds objects pairs → count objects ≤ length pairs
  fits objects [] finds = let none : count objects ≡ 0 = none_there objects (λ slot. no_object slot (object objects slot) refl) in omega arith
    where
      never : (slot : ℕ) → None ≡ Some slot → ⊥
      never slot e = cc

      no_object : (slot : ℕ) (o : Option X) → object objects slot ≡ o → object objects slot ≡ None
      no_object slot None is = is
      no_object slot (Some x) is = absurd (never slot (finds (key x) slot (ap (option_map key) is)))
  fits objects (p ∷ pairs) finds =
      let rest = fits (without objects p.1) pairs (finds_behind objects p pairs finds) in
      let one = one_goes objects p.1 in
      omega (arith, rest, one)

  -- the first key isn't behind
  not_behind : (objects : List (Option X)) (p : K × ℕ) (pairs : List (K × ℕ)) → Finds objects (p ∷ pairs) → length (p ∷ pairs) ≡ count objects
      → lookup (eq p.0) pairs ≡ None
  not_behind objects p pairs finds many = by_found (lookup (eq p.0) pairs) refl
    where
      fewer : List (K × ℕ)
      fewer = remove_entry (eq p.0) pairs

      -- each that is left is found without that key
      found_still : (ps : List (K × ℕ)) (k : K) → eq k p.0 ≡ false → lookup (eq k) (remove_entry (eq p.0) ps) ≡ lookup (eq k) ps
      found_still [] k other = refl
      found_still (q ∷ ps) k other = go (eq p.0 q.0) refl (found_still ps k other)
        where
          go : (b : Bool) → eq p.0 q.0 ≡ b → lookup (eq k) (remove_entry (eq p.0) ps) ≡ lookup (eq k) ps
              → lookup (eq k) (cond b ps (q ∷ remove_entry (eq p.0) ps)) ≡ lookup (eq k) (q ∷ ps)
          go true e rest = sym (ap (λ b. cond b (Some q.1) (lookup (eq k) ps)) (ap (eq k) (sym (same p.0 q.0 e)) ∙ other))
          go false e rest = ap (λ o. cond (eq k q.0) (Some q.1) o) rest

      few : count (without objects p.1) ≤ length fewer
      few = fits (without objects p.1) fewer (λ k slot at.
          let it = behind objects p pairs finds k slot at in found_still pairs k it.apart ∙ it.found)

      by_found : (o : Option ℕ) → lookup (eq p.0) pairs ≡ o → lookup (eq p.0) pairs ≡ None
      by_found None none = none
      by_found (Some slot) is =
          let one = one_goes objects p.1 in
          let less : suc (length fewer) ≡ length pairs = length_removed (eq p.0) pairs (ap is_some is) in
          let all : suc (length pairs) ≡ count objects = many in
          let most = few in
          absurd (omega (arith, one, less, all, most))

  apart_from : (k : K) (pairs : List (K × ℕ)) → lookup (eq k) pairs ≡ None → AllByRecursion (λ other. k ≢ other) (keys_of pairs)
  apart_from k [] none = tt
  apart_from k (q ∷ pairs) none = go (eq k q.0) refl none (λ rest. apart_from k pairs rest)
    where
      never : {Y : Type 0} → Some q.1 ≡ None → Y
      never e = cc

      go : (b : Bool) → eq k q.0 ≡ b → cond b (Some q.1) (lookup (eq k) pairs) ≡ None → (lookup (eq k) pairs ≡ None → AllByRecursion (λ other. k ≢ other) (keys_of pairs))
          → AllByRecursion (λ other. k ≢ other) (keys_of (q ∷ pairs))
      go true e none rest = never none
      go false e none rest = ((λ is. let both : true ≡ false = sym (laws.refl k) ∙ ap (eq k) is ∙ e in cc), rest none)

  once : (objects : List (Option X)) (pairs : List (K × ℕ)) → Finds objects pairs → length pairs ≡ count objects → AreOnce (keys_of pairs)
  once objects [] finds many = tt
  once objects (p ∷ pairs) finds many =
      (apart_from p.0 pairs (not_behind objects p pairs finds many), once (without objects p.1) pairs (finds_behind objects p pairs finds) as_many)
    where
      as_many : length pairs ≡ count (without objects p.1)
      as_many =
          let one = one_goes objects p.1 in
          let most = fits (without objects p.1) pairs (finds_behind objects p pairs finds) in
          let all : suc (length pairs) ≡ count objects = many in
          omega (arith, one, most, all)

  pub kept_once : (objects : List (Option X)) (cache : Order K) → Keeps eq key objects cache → AreOnce (keys_of cache.pairs)
  kept_once objects cache keeps = once objects cache.pairs keeps.only keeps.many

  -- what is true of each key that is found is true of all
  each_key : (P : K → Type 0) (pairs : List (K × ℕ)) → ((k : K) (slot : ℕ) → lookup (eq k) pairs ≡ Some slot → P k) → AllByRecursion P (keys_of pairs)
  each_key P [] found = tt
  each_key P (q ∷ pairs) found =
      (found q.0 q.1 (ap (λ b. cond b (Some q.1) (lookup (eq q.0) pairs)) (laws.refl q.0)), each_key P pairs (λ k slot is. by_test k slot is (eq k q.0) refl))
    where
      by_test : (k : K) (slot : ℕ) → lookup (eq k) pairs ≡ Some slot → (b : Bool) → eq k q.0 ≡ b → P k
      by_test k slot is true e = found k q.1 (ap (λ b. cond b (Some q.1) (lookup (eq k) pairs)) e)
      by_test k slot is false e = found k slot (ap (λ b. cond b (Some q.1) (lookup (eq k) pairs)) e ∙ is)

  -- what is true of each object's key is true of each that is kept
  pub each_kept : (P : K → Type 0) (objects : List (Option X)) (cache : Order K) → Keeps eq key objects cache
      → ((slot : ℕ) (x : X) → object objects slot ≡ Some x → P (key x)) → AllByRecursion P (keys_of cache.pairs)
  each_kept P objects cache keeps is_true = each_key P cache.pairs (λ k slot is. by_object k slot (object objects slot) refl (keeps.there k slot is))
    where
      by_object : (k : K) (slot : ℕ) (o : Option X) → object objects slot ≡ o → option_map key o ≡ Some k → P k
      by_object k slot None is e = cc
      by_object k slot (Some x) is e = subst P (let one : key x ≡ k = cc in one) (is_true slot x is)
