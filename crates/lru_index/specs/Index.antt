-- What an index keeps: the place of each key, a chain of the pairs at their places, and the places that are free.
use Rattle.std.specs.Prelude.{◌≡◌, ℕ, zero, suc, ◌+◌, ◌-◌, ◌<◌, ◌≤◌, Bool, false, List, [], ◌∷◌, ◌++◌, None, length, nat_eq, vec_len, vec_capacity}
use Rattle.std.specs.List.{AllByRecursion, IsDistinct}
use Rattle.std.specs.Map.{keys_of, lookup}
use Rattle.lru_index.specs.Buckets.{AreFiled, all_keys, place_of, node_at}
use Rattle.lru_index.specs.Chain.{IsChain, items_of}
use Rattle.lru_index.specs.declared.buckets.Buckets.{Buckets}
use Rattle.lru_index.specs.declared.chain.Chain.{Chain}

-- so many places from one on, the lowest last
abbrev pub falling : ℕ → ℕ → List ℕ
falling zero from = []
falling (suc n) from = (from + n) ∷ falling n from

-- all free places below a limit: those that are not made yet, and before these those that were used
abbrev pub all_free : ℕ → ℕ → List ℕ → List ℕ
all_free limit made free = falling (limit - made) made ++ free

-- this place is none of theirs
abbrev pub IsPlaceApart : ℕ → List ℕ → Type 0
IsPlaceApart place places = AllByRecursion (λ other. nat_eq place other ≡ false) places

-- no two are one place
abbrev pub AreApart : List ℕ → Type 0
AreApart [] = Unit {0}
AreApart (place ∷ places) = IsPlaceApart place places × AreApart places

module _ {K : Type 0} where
  -- the pairs of items at places
  abbrev pub pairs_in : List (ℕ × (K × ℕ)) → List (K × ℕ)
  pairs_in [] = []
  pairs_in (x ∷ items) = x.1 ∷ pairs_in items

  -- the keys of the pairs, with the places of these
  abbrev pub places_in : List (ℕ × (K × ℕ)) → List (K × ℕ)
  places_in [] = []
  places_in (x ∷ items) = (x.1.0, x.0) ∷ places_in items

  -- no item stands at a place, and no key
  pub record IsFree (table : Buckets K) (items : List (ℕ × (K × ℕ))) (place : ℕ) : Type 0 where
    pub no_item : lookup (nat_eq place) items ≡ None
    pub no_key : node_at table.nodes.items place ≡ None

  -- These items, at most so many, are kept: each key is found at the place of its pair, no two pairs have equal keys,
  -- and all other places are free.
  pub record IsKept (eq : K → K → Bool) (scatter : K → ℕ) (table : Buckets K) (chain : Chain (K × ℕ)) (free : List ℕ) (most : ℕ) (items : List (ℕ × (K × ℕ))) : Type 0 where
    pub chains : List (List (K × ℕ))
    pub filed : AreFiled eq scatter table chains
    pub counted : all_keys chains ≡ length items
    pub chained : IsChain chain items
    pub found : (key : K) → place_of eq scatter chains key ≡ lookup (eq key) (places_in items)
    pub distinct : IsDistinct eq (keys_of (pairs_in items))
    pub room : length free + length items ≡ most
    pub are_free : AllByRecursion (IsFree table items) free
    pub apart : AreApart free

  -- The items that the chain has are kept; the chain and the table of keys have as many places as were made.
  pub record IsIndex (eq : K → K → Bool) (scatter : K → ℕ) (table : Buckets K) (chain : Chain (K × ℕ)) (free : List ℕ) (free_room : ℕ) (most : ℕ) : Type 0 where
    pub kept : IsKept eq scatter table chain (all_free most (vec_len chain.links) free) most (items_of chain most)
    pub made : AllByRecursion (λ place. place < vec_len chain.links) free
    pub places : vec_len table.nodes ≡ vec_len chain.links
    pub within : vec_len chain.links ≤ most
    pub free_fits : most ≤ free_room
    pub links_fit : most ≤ vec_capacity chain.links
    pub nodes_fit : most ≤ vec_capacity table.nodes

  -- The same while a place is at hand, at which nothing stands yet.
  pub record HasPlace (eq : K → K → Bool) (scatter : K → ℕ) (table : Buckets K) (chain : Chain (K × ℕ)) (free : List ℕ) (free_room : ℕ) (most place : ℕ) (items : List (ℕ × (K × ℕ))) : Type 0 where
    pub kept : IsKept eq scatter table chain (all_free most (vec_len chain.links) free ++ place ∷ []) most items
    pub there : place < vec_len chain.links
    pub made : AllByRecursion (λ other. other < vec_len chain.links) free
    pub places : vec_len table.nodes ≡ vec_len chain.links
    pub within : vec_len chain.links ≤ most
    pub free_fits : most ≤ free_room
    pub links_fit : most ≤ vec_capacity chain.links
    pub nodes_fit : most ≤ vec_capacity table.nodes
