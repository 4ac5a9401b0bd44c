-- What ties a cache to the heap. A cache is an order of use, from keys to slots; a slot is the heap's key of an object
-- of the cache's class, and each object carries a key of its own.
use Rattle.std.specs.Prelude.{◌≡◌, ℕ, zero, suc, ◌<◌, Bool, List, [], ◌∷◌, Option, None, Some, length, remove, slice_index_or}
use Rattle.std.specs.Option.{option_map, option_and_then, option_map_or}
use Rattle.std.specs.Map.{lookup, remove_entry}
use Rattle.kheap_slabs.specs.Objects.{object, count, without}
use Rattle.lru_index.specs.Order.{Order}

-- the slot of a key, or None where it isn't cached
abbrev pub slot_of : {K : Type 0} → (K → K → Bool) → Order K → K → Option ℕ
slot_of eq cache key = lookup (eq key) cache.pairs

-- the key that the object of a slot carries, or None where the slot is free
abbrev pub key_at : {K X : Type 0} → (X → K) → List (Option X) → ℕ → Option K
key_at key objects slot = option_map key (object objects slot)

-- Each pair names the object that carries its key, each object of the class is kept under the key that it carries, and
-- there are as many pairs as objects.
pub record Keeps {K X : Type 0} (eq : K → K → Bool) (key : X → K) (objects : List (Option X)) (cache : Order K) : Type 0 where
  pub there : (k : K) (slot : ℕ) → slot_of eq cache k ≡ Some slot → key_at key objects slot ≡ Some k
  pub only : (k : K) (slot : ℕ) → key_at key objects slot ≡ Some k → slot_of eq cache k ≡ Some slot
  pub many : length cache.pairs ≡ count objects

-- what is cached under a key
abbrev pub cached : {K X V : Type 0} → (K → K → Bool) → (X → V) → List (Option X) → Order K → K → Option V
cached eq value objects cache key = option_and_then (λ slot. option_map value (object objects slot)) (slot_of eq cache key)

-- each object of the class is as a disk, or a tree, says that it is
abbrev pub AreTrue : {X : Type 0} → (X → Type 0) → List (Option X) → Type 0
AreTrue {X} IsTrueOf objects = (slot : ℕ) (x : X) → object objects slot ≡ Some x → IsTrueOf x

-- the slot that goes before a fill: that which the call filled first, where its purse has none left
abbrev pub first_fill : ℕ → List ℕ → Option ℕ
first_fill zero fills = Some (slice_index_or fills 0 0)
first_fill (suc left) fills = None

-- the fills that stay then
abbrev pub fills_kept : ℕ → List ℕ → List ℕ
fills_kept zero fills = remove fills 0
fills_kept (suc left) fills = fills

-- how many are left then
abbrev pub left_kept : ℕ → ℕ
left_kept zero = 1
left_kept (suc left) = suc left

module _ {X : Type 0} where
  -- the objects without that of a slot, if one is given
  abbrev pub objects_kept : Option ℕ → List (Option X) → List (Option X)
  objects_kept None objects = objects
  objects_kept (Some slot) objects = without objects slot

-- the pairs without that of a slot's object, if one is given
abbrev pub pairs_kept : {K X : Type 0} → (K → K → Bool) → (X → K) → List (Option X) → Option ℕ → List (K × ℕ) → List (K × ℕ)
pairs_kept eq key objects slot pairs = option_map_or (λ k. remove_entry (eq k) pairs) (option_and_then (key_at key objects) slot) pairs

module _ {X : Type 0} where
  -- the objects without those of some slots
  abbrev pub objects_without : List ℕ → List (Option X) → List (Option X)
  objects_without [] objects = objects
  objects_without (slot ∷ slots) objects = objects_without slots (without objects slot)

-- the pairs without those of the objects of some slots
abbrev pub pairs_without : {K X : Type 0} → (K → K → Bool) → (X → K) → List ℕ → List (Option X) → List (K × ℕ) → List (K × ℕ)
pairs_without eq key [] objects pairs = pairs
pairs_without eq key (slot ∷ slots) objects pairs = pairs_without eq key slots (without objects slot) (pairs_kept eq key objects (Some slot) pairs)

-- a slot stands at a place of a list
abbrev pub IsAt : List ℕ → ℕ → ℕ → Type 0
IsAt slots slot at = (at < length slots) × (slice_index_or slots at 0 ≡ slot)
