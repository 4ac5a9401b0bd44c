-- The keys that an owner names at its places, and how they change where a place gets a key or loses one.
use Rattle.std.proofs.Common.{◌≡◌, ◌≢◌, ◌⊎◌, ℕ, suc, zero, ◌<◌, List, [], ◌∷◌, ◌++◌, Option, None, Some, length, get_or, set, take, drop, refl, sym, ap, ◌∙◌, subst, inl, inr, arith}
use Rattle.std.specs.List.{Contains}
use Rattle.std.proofs.lemmas.List.{set_split, set-get_or}
use Rattle.std.proofs.lemmas.List.Elements.{Contains-append_right, Contains-append_cases}
use Rattle.kheap_slabs.specs.Keys.{IsOnce}
use Rattle.kheap_slabs.specs.Spaces.{keys_in}
use Rattle.kheap_laws.proofs.KeyLemmas.{Contains-swap, IsOnce-swap}
use Rattle.kheap_laws.proofs.OnceLemmas.{Contains-single, IsOnce-head, IsOnce-tail, IsOnce-cons}

some_same : (a b : ℕ) → Some a ≡ Some b → a ≡ b
some_same a b same = cc

none_is_some : (key : ℕ) → None ≡ Some key → ⊥
none_is_some key same = cc

pub keys_in-append : (front back : List (Option ℕ)) → keys_in (front ++ back) ≡ keys_in front ++ keys_in back
keys_in-append [] back = refl
keys_in-append (None ∷ front) back = keys_in-append front back
keys_in-append (Some key ∷ front) back = ap (λ keys. key ∷ keys) (keys_in-append front back)

-- the key of a place is one of the owner's
pub key_there : (space : List (Option ℕ)) (group key : ℕ) → get_or space group None ≡ Some key → Contains (keys_in space) key
key_there [] zero key is = absurd (none_is_some key is)
key_there [] (suc group) key is = absurd (none_is_some key is)
key_there (None ∷ space) zero key is = absurd (none_is_some key is)
key_there (Some other ∷ space) zero key is = (0, omega arith, some_same other key is)
key_there (None ∷ space) (suc group) key is = key_there space group key is
key_there (Some other ∷ space) (suc group) key is = Contains-append_right (other ∷ []) (keys_in space) key (key_there space group key is)

-- a key of the owner stands at some place
pub key_placed : (space : List (Option ℕ)) (key : ℕ) → Contains (keys_in space) key → (group : ℕ) × (group < length space) × (get_or space group None ≡ Some key)
key_placed [] key there = absurd (omega (arith, there.1))
key_placed (None ∷ space) key there =
    let placed = key_placed space key there in (suc placed.0, omega (arith, placed.1), placed.2)
key_placed (Some first ∷ space) key there = elim (Contains-append_cases (first ∷ []) (keys_in space) key there) [
  | inl here ↦ (0, omega arith, ap Some (Contains-single first key here))
  | inr behind ↦ let placed = key_placed space key behind in (suc placed.0, omega (arith, placed.1), placed.2)
]

-- two places have two keys
pub keys_differ : (space : List (Option ℕ)) (one other key : ℕ) → IsOnce (keys_in space) → one ≢ other
    → get_or space one None ≡ Some key → get_or space other None ≡ Some key → ⊥
keys_differ [] zero other key once apart is same = none_is_some key is
keys_differ [] (suc one) other key once apart is same = none_is_some key is
keys_differ (first ∷ space) zero zero key once apart is same = apart refl
keys_differ (None ∷ space) zero (suc other) key once apart is same = none_is_some key is
keys_differ (Some first ∷ space) zero (suc other) key once apart is same =
    IsOnce-head first (keys_in space) once (subst (λ k. Contains (keys_in space) k) (sym (some_same first key is)) (key_there space other key same))
keys_differ (None ∷ space) (suc one) zero key once apart is same = none_is_some key same
keys_differ (Some first ∷ space) (suc one) zero key once apart is same =
    IsOnce-head first (keys_in space) once (subst (λ k. Contains (keys_in space) k) (sym (some_same first key same)) (key_there space one key is))
keys_differ (None ∷ space) (suc one) (suc other) key once apart is same =
    keys_differ space one other key once (λ e. apart (ap suc e)) is same
keys_differ (Some first ∷ space) (suc one) (suc other) key once apart is same =
    keys_differ space one other key (IsOnce-tail first (keys_in space) once) (λ e. apart (ap suc e)) is same

module _ (space : List (Option ℕ)) (group : ℕ) (within : group < length space) where
  abbrev front : List ℕ
  front = keys_in (take group space)

  abbrev back : List ℕ
  back = keys_in (drop (suc group) space)

  -- with another key at a place the others stay in their order
  keys_in-set : (now : Option ℕ) → keys_in (set space group now) ≡ front ++ keys_in (now ∷ drop (suc group) space)
  keys_in-set now = ap keys_in (set_split space group now within) ∙ keys_in-append (take group space) (now ∷ drop (suc group) space)

  keys_in-same : (now : Option ℕ) → get_or space group None ≡ now → keys_in space ≡ front ++ keys_in (now ∷ drop (suc group) space)
  keys_in-same now is = ap keys_in (sym (subst (λ x. set space group x ≡ space) is (set-get_or space group None))) ∙ keys_in-set now

  -- a place without a key gets one
  module _ (key : ℕ) (free : get_or space group None ≡ None) where
    pub Contains-added : (k : ℕ) → Contains (keys_in (set space group (Some key))) k → Contains (keys_in space) k ⊎ (k ≡ key)
    Contains-added k there =
        elim (Contains-append_cases (key ∷ []) (front ++ back) k (Contains-swap front (key ∷ []) back k (subst (λ ks. Contains ks k) (keys_in-set (Some key)) there))) [
          | inl here ↦ inr (sym (Contains-single key k here))
          | inr other ↦ inl (subst (λ ks. Contains ks k) (sym (keys_in-same None free)) other)
        ]

    pub Contains-stays : (k : ℕ) → Contains (keys_in space) k → Contains (keys_in (set space group (Some key))) k
    Contains-stays k there =
        subst (λ ks. Contains ks k) (sym (keys_in-set (Some key)))
        (Contains-swap (key ∷ []) front back k (Contains-append_right (key ∷ []) (front ++ back) k (subst (λ ks. Contains ks k) (keys_in-same None free) there)))

    pub IsOnce-added : (Contains (keys_in space) key → ⊥) → IsOnce (keys_in space) → IsOnce (keys_in (set space group (Some key)))
    IsOnce-added unused once =
        subst IsOnce (sym (keys_in-set (Some key)))
        (IsOnce-swap (key ∷ []) front back
        (IsOnce-cons key (front ++ back) (λ there. unused (subst (λ ks. Contains ks key) (sym (keys_in-same None free)) there))
        (subst IsOnce (keys_in-same None free) once)))

  -- a place with a key loses it
  module _ (key : ℕ) (is : get_or space group None ≡ Some key) where
    pub Contains-removed : (k : ℕ) → Contains (keys_in (set space group None)) k → Contains (keys_in space) k
    Contains-removed k there =
        subst (λ ks. Contains ks k) (sym (keys_in-same (Some key) is))
        (Contains-swap (key ∷ []) front back k (Contains-append_right (key ∷ []) (front ++ back) k (subst (λ ks. Contains ks k) (keys_in-set None) there)))

    pub Contains-left : (k : ℕ) → Contains (keys_in space) k → Contains (keys_in (set space group None)) k ⊎ (k ≡ key)
    Contains-left k there =
        elim (Contains-append_cases (key ∷ []) (front ++ back) k (Contains-swap front (key ∷ []) back k (subst (λ ks. Contains ks k) (keys_in-same (Some key) is) there))) [
          | inl here ↦ inr (sym (Contains-single key k here))
          | inr other ↦ inl (subst (λ ks. Contains ks k) (sym (keys_in-set None)) other)
        ]

    pub removed-other : IsOnce (keys_in space) → (k : ℕ) → Contains (keys_in (set space group None)) k → k ≢ key
    removed-other once k there same =
        IsOnce-head key (front ++ back)
        (IsOnce-swap front (key ∷ []) back (subst IsOnce (keys_in-same (Some key) is) once))
        (subst (λ j. Contains (front ++ back) j) same (subst (λ ks. Contains ks k) (keys_in-set None) there))

    pub IsOnce-removed : IsOnce (keys_in space) → IsOnce (keys_in (set space group None))
    IsOnce-removed once =
        subst IsOnce (sym (keys_in-set None))
        (IsOnce-tail key (front ++ back) (IsOnce-swap front (key ∷ []) back (subst IsOnce (keys_in-same (Some key) is) once)))
