-- A key of which nothing is cached has no slot, and one of which something is has one.
use Rattle.std.proofs.Common.{◌≡◌, ℕ, Bool, true, List, Option, Some, None, IsSome, refl, ap, ◌∙◌}
use Rattle.std.specs.Prelude.{slice_index_or}
use Rattle.std.specs.Cmp.{IsEquivalence}
use Rattle.std.specs.Option.{option_map, option_and_then}
use Rattle.kheap_slabs.specs.Objects.{object}
use Rattle.kheap_slabs.proofs.ObjectLemmas.{object_of}
use Rattle.lru_index.specs.Order.{Order}
use Rattle.cache_laws.specs.Caches.{slot_of, Keeps, cached}
use Rattle.cache_laws.proofs.KeepsLemmas.{keeps_used, cached_is}

module _ {K X V : Type 0} {eq : K → K → Bool} (laws : IsEquivalence eq) (same : (a b : K) → eq a b ≡ true → a ≡ b) (key : X → K) (value : X → V) where
  pub no_slot_of : (objects : List (Option X)) (cache : Order K) (k : K) → Keeps eq key objects cache → cached eq value objects cache k ≡ None → slot_of eq cache k ≡ None
  no_slot_of objects cache k keeps none = (elim (slot_of eq cache k) as (λ o. slot_of eq cache k ≡ o → slot_of eq cache k ≡ None) [
    | None ↦ λ is. is
    | Some slot ↦ λ is.
        let there = object_of objects slot (keeps_used laws same key objects cache k slot keeps is) in
        let some = cached_is laws same key value objects cache k slot there.0 is there.1 in
        absurd (cc)
  ]) refl

-- what is cached has a slot
pub some_slot_of : {K X V : Type 0} (eq : K → K → Bool) (value : X → V) (objects : List (Option X)) (cache : Order K) (k : K) (v : V) → cached eq value objects cache k ≡ Some v → IsSome (slot_of eq cache k)
some_slot_of {K} {X} {V} eq value objects cache k v is = (elim (slot_of eq cache k) as (λ (o : Option ℕ). option_and_then (λ (s : ℕ). option_map value (object objects s)) o ≡ Some v → IsSome o) [
  | None ↦ λ none. cc
  | Some slot ↦ λ some. refl
]) is
