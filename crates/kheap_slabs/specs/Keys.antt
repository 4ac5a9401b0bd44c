-- Lists of keys: all that are in use, and those of one owner.
use Rattle.std.specs.Prelude.{◌≡◌, ◌≢◌, ℕ, ◌<◌, List, ◌∷◌, ◌++◌, ◌⊎◌, Option, None, length, slice_index_or}
use Rattle.std.specs.List.{Contains}
use Rattle.kheap_slabs.specs.Objects.{object, InUse}
use Rattle.kheap_slabs.specs.Outside.{KeepsOutside}

-- no key stands twice
abbrev pub IsOnce : List ℕ → Type 0
IsOnce keys = (i j : ℕ) → i < j → j < length keys → slice_index_or keys i 0 ≢ slice_index_or keys j 0

-- no key stands in both
abbrev pub Apart : List ℕ → List ℕ → Type 0
Apart one other = (key : ℕ) → Contains one key → Contains other key → ⊥

module _ {X : Type 0} where
  -- these are all keys in use, each once
  pub record AreKeysOf (objects : List (Option X)) (keys : List ℕ) : Type 0 where
    pub used : (key : ℕ) → Contains keys key → InUse objects key
    pub listed : (key : ℕ) → InUse objects key → Contains keys key
    pub once : IsOnce keys

  -- an owner that had some keys has others now: objects change at these alone, each that it has is one that it had
  -- or was free, and what it had and has no longer is gone
  pub record ChangesKeys (old new : List (Option X)) (had has : List ℕ) : Type 0 where
    pub outside : KeepsOutside (had ++ has) old new
    pub fresh : (key : ℕ) → Contains has key → Contains had key ⊎ (object old key ≡ None)
    pub left : (key : ℕ) → Contains had key → InUse new key → Contains has key

  -- one item stands somewhere in a whole, and the rest are the others in their order
  pub record Splits (whole : List X) (one : X) (rest : List X) : Type 0 where
    pub before : List X
    pub after : List X
    pub whole_is : whole ≡ before ++ one ∷ after
    pub rest_is : rest ≡ before ++ after
