-- How a shelf keeps its objects: a slab, where in it each key's object stands, and the keys that are free.
use Rattle.std.specs.Prelude.{◌≡◌, ◌≢◌, ◌⊎◌, ℕ, zero, suc, ◌+◌, ◌-◌, ◌<◌, ◌≤◌, List, [], ◌∷◌, ◌++◌, length, Option, None, Some, count_by, is_some, map, replicate}
use Rattle.slab.specs.Slab.{Slab, get, slab_len, ContainsKey, Updates}
use Rattle.kheap_slabs.specs.Objects.{object}
use Rattle.std.specs.Prelude.{slice_index_or, slice_set}

-- so many keys from one on, the lowest last
abbrev pub falling : ℕ → ℕ → List ℕ
falling zero from = []
falling (suc n) from = (from + n) ∷ falling n from

-- the place of each key below a limit: those that were never given out have none
abbrev pub all_places : ℕ → List (Option ℕ) → List (Option ℕ)
all_places limit places = places ++ replicate (limit - length places) None

-- all keys below a limit without an object: those that were never given out, and before these those that were
abbrev pub all_free : ℕ → ℕ → List ℕ → List ℕ
all_free limit given free = falling (limit - given) given ++ free

-- A key got a place: the last of those that were given out and are free, or where there is none the next that never was.
pub record TakesKey (old new : List (Option ℕ)) (free rest : List ℕ) (key place : ℕ) : Type 0 where
  pub from : ((free ≡ rest ++ key ∷ []) × (new ≡ slice_set old key (Some place)))
      ⊎ ((free ≡ []) × (rest ≡ []) × (key ≡ length old) × (new ≡ old ++ Some place ∷ []))

module _ {T : Type 0} where
  -- the object at a place, if there is a place
  abbrev pub found_at : Slab T → Option ℕ → Option T
  found_at slab None = None
  found_at slab (Some place) = get slab place

  -- the object of each key
  abbrev pub shelved : Slab T → List (Option ℕ) → List (Option T)
  shelved slab places = map (found_at slab) places

  -- Each place has an object and belongs to one key, or is spare; the free keys are those without a place, and there is room for
  -- as many objects as there are keys.
  pub record IsSound (slab : Slab T) (places : List (Option ℕ)) (free : List ℕ) (room : ℕ) (spare : List ℕ) (spare_room : ℕ) : Type 0 where
    pub filled : (key place : ℕ) → object places key ≡ Some place → ContainsKey slab place
    pub apart : (one other place : ℕ) → object places one ≡ Some place → object places other ≡ Some place → one ≡ other
    pub vacant : (i : ℕ) → i < length free → object places (slice_index_or free i 0) ≡ None
    pub in_range : (i : ℕ) → i < length free → slice_index_or free i 0 < length places
    pub once : (i j : ℕ) → i < j → j < length free → slice_index_or free i 0 ≢ slice_index_or free j 0
    pub left_there : (i : ℕ) → i < length spare → ContainsKey slab (slice_index_or spare i 0)
    pub unused : (i key place : ℕ) → i < length spare → object places key ≡ Some place → slice_index_or spare i 0 ≢ place
    pub singly : (i j : ℕ) → i < j → j < length spare → slice_index_or spare i 0 ≢ slice_index_or spare j 0
    pub counted : count_by is_some places + length free ≡ length places
    pub placed : count_by is_some places + length spare ≡ slab_len slab
    pub bounded : slab_len slab ≤ length places
    pub slab_room : length places ≤ slab.capacity
    pub free_room : length places ≤ room
    pub spare_fits : length places ≤ spare_room

  -- An object got a place: the last of the spare ones, or where none was spare one that was vacant.
  pub record TakesPlace (old new : Slab T) (spare rest : List ℕ) (place : ℕ) (value : T) : Type 0 where
    pub updates : Updates old new place (Some value)
    pub from : ((spare ≡ rest ++ place ∷ []) × (slab_len new ≡ slab_len old))
        ⊎ ((spare ≡ []) × (rest ≡ []) × (get old place ≡ None) × (slab_len new ≡ slab_len old + 1))

  -- The same of a shelf, which has a table of the keys that were given out alone, and what it reserved for it.
  pub record IsShelf (slab : Slab T) (limit : ℕ) (places : List (Option ℕ)) (places_room : ℕ) (free : List ℕ) (room : ℕ) (spare : List ℕ) (spare_room : ℕ) : Type 0 where
    pub sound : IsSound slab (all_places limit places) (all_free limit (length places) free) room spare spare_room
    pub given : (i : ℕ) → i < length free → slice_index_or free i 0 < length places
    pub within : length places ≤ limit
    pub fits : limit ≤ places_room
