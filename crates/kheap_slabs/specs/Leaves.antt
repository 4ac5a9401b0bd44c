-- What a process has open, by number: the descriptors of its first 32 numbers stand in its Proc, those of the others in Leaves.
use Rattle.std.specs.Prelude.{◌≡◌, ℕ, ◌-◌, ◌/◌, ◌%◌, ◌<◌, Bool, nat_lt, ◌||◌, List, [], ◌∷◌, ◌++◌, Option, None, Some, is_some, count_by, map, replicate, slice_index_or}
use Rattle.std.specs.List.{Contains, concat}
use Rattle.kheap_slabs.specs.Objects.{object, InUse}
use Rattle.kheap_slabs.specs.declared.objects.Descriptor.{Descriptor}
use Rattle.kheap_slabs.specs.declared.objects.Leaf.{Leaf}
use Rattle.kheap_slabs.specs.declared.objects.Proc.{Proc}
use Rattle.kheap_slabs.specs.Keys.{AreKeysOf, ChangesKeys, IsOnce}
use Rattle.kheap_slabs.specs.Spaces.{keys_in}

-- 32 numbers of which none is open
abbrev pub no_row : List (Option Descriptor)
no_row = replicate 32 None

-- the descriptors of a Leaf; without one none of its numbers is open
abbrev pub row_of : Option Leaf → List (Option Descriptor)
row_of None = no_row
row_of (Some leaf) = leaf.descriptors

-- the same by its key
abbrev pub row_at : List (Option Leaf) → Option ℕ → List (Option Descriptor)
row_at leaves None = no_row
row_at leaves (Some key) = row_of (object leaves key)

-- rows, one behind the other
abbrev pub joined : {X : Type 0} → List (List X) → List X
joined [] = []
joined (row ∷ rows) = row ++ joined rows

-- The descriptors of all numbers: first those that a Proc has, then those of the Leaves that it names. What is said of them goes by
-- the laws of `kheap_laws` alone, the first of which is that they are the same where these Leaves are.
unfoldable pub numbers_by : List (Option Leaf) → List (Option Descriptor) → List (Option ℕ) → List (Option Descriptor)
numbers_by leaves descriptors keys = descriptors ++ joined (map (row_at leaves) keys)

-- which of a process's Leaves a number from 32 on is in, and where
abbrev pub group_of : ℕ → ℕ
group_of fd = fd / 32 - 1

abbrev pub place_of : ℕ → ℕ
place_of fd = fd % 32

-- a number has a place already: in the Proc, or in a Leaf that is there
abbrev pub has_place : List (Option ℕ) → ℕ → Bool
has_place keys fd = nat_lt fd 32 || is_some (slice_index_or keys (group_of fd) None)

-- a Leaf has a number open
abbrev pub IsFilled : Leaf → Type 0
IsFilled leaf = 0 < count_by is_some leaf.descriptors

-- the Leaves that an owner names are in use, each has a number open, and it names none twice
pub record OwnsLeaves (leaves : List (Option Leaf)) (keys : List (Option ℕ)) : Type 0 where
  pub used : (key : ℕ) → Contains (keys_in keys) key → InUse leaves key
  pub filled : (key : ℕ) (leaf : Leaf) → Contains (keys_in keys) key → object leaves key ≡ Some leaf → IsFilled leaf
  pub once : IsOnce (keys_in keys)

-- the keys of the Leaves of all these processes
abbrev pub leaf_keys : List Proc → List ℕ
leaf_keys procs = concat (map (λ proc. keys_in proc.leaves) procs)

-- the Leaves of these processes are all that there are, each has one owner, and in each a number is open
pub record HoldLeaves (leaves : List (Option Leaf)) (procs : List Proc) : Type 0 where
  pub keys : AreKeysOf leaves (leaf_keys procs)
  pub filled : (key : ℕ) (leaf : Leaf) → object leaves key ≡ Some leaf → IsFilled leaf

-- one owner has other Leaves now, or has changed them; all others are what they were
pub record LeavesChange (old new : List (Option Leaf)) (had has : List (Option ℕ)) : Type 0 where
  pub keys : ChangesKeys old new (keys_in had) (keys_in has)
  pub owns : OwnsLeaves new has
