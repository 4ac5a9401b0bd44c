-- What a table of keys in buckets stands for.
use Rattle.std.specs.Prelude.{◌≡◌, ℕ, ◌%◌, ◌<◌, ◌≤◌, Bool, true, false, List, [], ◌∷◌, ◌++◌, Option, Some, None, length, replicate, slice_index_or, slice_set, vec_len}
use Rattle.std.specs.List.{AllByRecursion, IsDistinct, sum_by}
use Rattle.std.specs.Map.{keys_of, lookup, remove_entry}
use Rattle.lru_index.specs.declared.buckets.Node.{Node}
use Rattle.lru_index.specs.declared.buckets.Buckets.{Buckets}
use Rattle.lru_index.specs.declared.buckets.Found.{Found}

module _ {K : Type 0} where
  -- what a table has at a place
  abbrev pub node_at : List (Option (Node K)) → ℕ → Option (Node K)
  node_at nodes place = slice_index_or nodes place None

  abbrev pub with_next : Option ℕ → Node K → Node K
  with_next next node = record { key = node.key; next = next }

  -- the place of the first of keys with their places
  abbrev pub first_place : List (K × ℕ) → Option ℕ
  first_place [] = None
  first_place (p ∷ ps) = Some p.1

  -- the place of the last one, or what comes before all
  abbrev pub last_place : Option ℕ → List (K × ℕ) → Option ℕ
  last_place before [] = before
  last_place before (p ∷ ps) = last_place (Some p.1) ps

  -- each place has its key, and the place of the next one
  abbrev pub AreStrung : (ℕ → Option (Node K)) → List (K × ℕ) → Type 0
  AreStrung at [] = Unit {0}
  AreStrung at (p ∷ ps) = (at p.1 ≡ Some (record { key = p.0; next = first_place ps })) × AreStrung at ps

  -- what a bucket has: the keys with their places, in their order
  abbrev pub in_bucket : List (List (K × ℕ)) → ℕ → List (K × ℕ)
  in_bucket chains bucket = slice_index_or chains bucket []

  -- so many buckets with nothing in them
  abbrev pub no_chains : ℕ → List (List (K × ℕ))
  no_chains count = replicate count []

  -- how many keys all buckets have
  abbrev pub all_keys : List (List (K × ℕ)) → ℕ
  all_keys chains = sum_by length chains

  -- The table has these chains in its buckets: each key is in its own bucket, once.
  pub record AreFiled (eq : K → K → Bool) (scatter : K → ℕ) (table : Buckets K) (chains : List (List (K × ℕ))) : Type 0 where
    pub buckets : length chains ≡ vec_len table.firsts
    pub some : 0 < length chains
    pub firsts : (b : ℕ) → slice_index_or table.firsts.items b None ≡ first_place (in_bucket chains b)
    pub strung : (b : ℕ) → AreStrung (node_at table.nodes.items) (in_bucket chains b)
    pub own : (b : ℕ) → AllByRecursion (λ key. scatter key % length chains ≡ b) (keys_of (in_bucket chains b))
    pub distinct : (b : ℕ) → IsDistinct eq (keys_of (in_bucket chains b))
    pub few : all_keys chains ≤ vec_len table.nodes

  -- nothing, or a key that is met first
  abbrev pub IsHit : (K → K → Bool) → K → List (K × ℕ) → Type 0
  IsHit eq key [] = Unit {0}
  IsHit eq key (p ∷ ps) = eq key p.0 ≡ true

  -- A key was sought in what a bucket has: it isn't in the front, and if it is there it comes first behind that.
  pub record IsSought (eq : K → K → Bool) (chain : List (K × ℕ)) (key : K) (found : Found) : Type 0 where
    pub front : List (K × ℕ)
    pub back : List (K × ℕ)
    pub is : chain ≡ front ++ back
    pub passed : AllByRecursion (λ other. eq key other ≡ false) (keys_of front)
    pub before : found.before ≡ last_place None front
    pub place : found.place ≡ first_place back
    pub hit : IsHit eq key back

  module _ (eq : K → K → Bool) (scatter : K → ℕ) where
    -- the bucket of a key
    abbrev pub bucket_of : List (List (K × ℕ)) → K → ℕ
    bucket_of chains key = scatter key % length chains

    -- the place of a key
    abbrev pub place_of : List (List (K × ℕ)) → K → Option ℕ
    place_of chains key = lookup (eq key) (in_bucket chains (bucket_of chains key))

    -- a key more, first in its bucket
    abbrev pub put_first : List (List (K × ℕ)) → K → ℕ → List (List (K × ℕ))
    put_first chains key place = slice_set chains (bucket_of chains key) ((key, place) ∷ in_bucket chains (bucket_of chains key))

    -- without a key
    abbrev pub taken_out : List (List (K × ℕ)) → K → List (List (K × ℕ))
    taken_out chains key = slice_set chains (bucket_of chains key) (remove_entry (eq key) (in_bucket chains (bucket_of chains key)))
