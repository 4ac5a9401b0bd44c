-- What contracts see of an index: its pairs of a key and a slot, the coldest first, and how many it has room for.
use Rattle.std.specs.Prelude.{ℕ, ◌≡◌, ◌≤◌, Bool, cond, List, [], ◌∷◌, ◌++◌, length, Option, Some, None}
use Rattle.std.specs.Option.{option_map_or, option_to_list}
use Rattle.std.specs.List.{IsDistinct}
use Rattle.std.specs.Map.{keys_of, lookup_entry, remove_entry}

pub record Order (K : Type 0) : Type 0 where
  pub pairs : List (K × ℕ)
  pub capacity : ℕ

module _ {K : Type 0} where
  abbrev pub order : List (K × ℕ) → ℕ → Order K
  order pairs capacity = record { pairs = pairs; capacity = capacity }

  -- No two pairs have equal keys, and there are at most as many as there is room for.
  pub record IsOrder (eq : K → K → Bool) (o : Order K) : Type 0 where
    pub distinct : IsDistinct eq (keys_of o.pairs)
    pub within : length o.pairs ≤ o.capacity

  -- a key with its slot stands last
  pub record IsWarmest (pairs : List (K × ℕ)) (key : K) (slot : ℕ) : Type 0 where
    pub front : List (K × ℕ)
    pub is : pairs ≡ front ++ (key, slot) ∷ []

module _ {K V : Type 0} where
  -- the pair whose key passes stands last, and the others as before
  abbrev pub touched : (K → Bool) → List (K × V) → List (K × V)
  touched test pairs = remove_entry test pairs ++ option_to_list (lookup_entry test pairs)

  -- the pairs that are warmer than the one whose key passes
  abbrev pub warmer : (K → Bool) → List (K × V) → List (K × V)
  warmer test [] = []
  warmer test (p ∷ pairs) = cond (test p.0) pairs (warmer test pairs)

  -- the key of the coldest pair
  abbrev pub first_key : List (K × V) → Option K
  first_key [] = None
  first_key (p ∷ pairs) = Some p.0

  -- the coldest key of all, or of those warmer than a given one
  abbrev pub coldest_of : (K → K → Bool) → Option K → List (K × V) → Option K
  coldest_of eq after pairs = first_key (option_map_or (λ key. warmer (eq key) pairs) after pairs)
