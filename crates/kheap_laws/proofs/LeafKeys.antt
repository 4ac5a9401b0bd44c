-- A process's Leaves change: one of them comes, goes, or has another row. All that this leaves it is said of its keys alone.
use Rattle.std.proofs.Common.{◌≡◌, ◌≢◌, ◌⊎◌, ℕ, ◌<◌, List, [], ◌∷◌, ◌++◌, Option, None, Some, IsSome, is_some, length, get_or, set, replicate, count_by, cond, refl, sym, ap, ◌∙◌, subst, inl, inr, arith, Contains}
use Rattle.std.proofs.lemmas.Bool.{cases_eq}
use Rattle.std.proofs.lemmas.List.{get_or-set_same, length-set}
use Rattle.std.proofs.lemmas.List.Elements.{Contains-append_left, Contains-append_right}
use Rattle.std.proofs.lemmas.List.Sums.{get_or-le-sum_by, sum_by-cons}
use Rattle.kheap_slabs.specs.Objects.{object, InUse}
use Rattle.kheap_slabs.specs.declared.objects.Descriptor.{Descriptor}
use Rattle.kheap_slabs.specs.declared.objects.Leaf.{Leaf}
use Rattle.kheap_slabs.specs.Leaves.{IsFilled, LeavesChange, OwnsLeaves}
use Rattle.kheap_slabs.specs.Spaces.{keys_in}
use Rattle.kheap_laws.proofs.KeyPlaces.{Contains-added, Contains-left, Contains-removed, Contains-stays, IsOnce-added, IsOnce-removed, key_there, removed-other}

-- ---- rows

-- a row with an open number is filled
pub row_filled : (row : List (Option Descriptor)) (at : ℕ) (descriptor : Descriptor) → at < length row → 0 < count_by is_some (set row at (Some descriptor))
row_filled row at descriptor within =
    let here = ap {B = ℕ} (λ (o : Option Descriptor). cond (is_some o) 1 0) (get_or-set_same row at (Some descriptor) None within) in
    let least = get_or-le-sum_by (λ (o : Option Descriptor). cond (is_some o) 1 0) (set row at (Some descriptor)) at None (let size = length-set row at (Some descriptor) in omega (arith, size, within)) in
    omega (arith, here, least)

-- a row in which none is open has nothing
pub row_empty : (row : List (Option Descriptor)) → count_by is_some row ≡ 0 → row ≡ replicate (length row) None
row_empty [] none = refl
row_empty (None ∷ row) none =
    let whole = sum_by-cons (λ (o : Option Descriptor). cond (is_some o) 1 0) None row in
    ap (λ (rest : List (Option Descriptor)). None ∷ rest) (row_empty row (omega (arith, none, whole)))
row_empty (Some descriptor ∷ row) none =
    absurd (let whole = sum_by-cons (λ (o : Option Descriptor). cond (is_some o) 1 0) (Some descriptor) row in omega (arith, none, whole))

-- ---- whose they are

not_none : {X : Type 0} (o : Option X) → o ≡ None → IsSome o → ⊥
not_none None is some = cc
not_none (Some x) is some = cc

-- nothing has changed
pub LeavesChange-refl : (leaves : List (Option Leaf)) (keys : List (Option ℕ)) → OwnsLeaves leaves keys → LeavesChange leaves leaves keys keys
LeavesChange-refl leaves keys owns = record {
  keys = record { outside = λ key other. refl; fresh = λ key there. inl there; left = λ key there used. there };
  owns = owns;
}

module _ (old new : List (Option Leaf)) (keys : List (Option ℕ)) (owns : OwnsLeaves old keys) (at : ℕ) (others : (key : ℕ) → key ≢ at → object new key ≡ object old key) where
  outside_of : (has : List (Option ℕ)) → Contains (keys_in keys) at ⊎ Contains (keys_in has) at → (key : ℕ) → (Contains (keys_in keys ++ keys_in has) key → ⊥) → object new key ≡ object old key
  outside_of has named key other = others key (λ same. other (subst (Contains (keys_in keys ++ keys_in has)) (sym same) (elim named [
    | inl before ↦ Contains-append_left (keys_in keys) (keys_in has) at before
    | inr now ↦ Contains-append_right (keys_in keys) (keys_in has) at now
  ])))

  -- one of them has another row
  pub LeavesChange-put : (leaf : Leaf) → Contains (keys_in keys) at → object new at ≡ Some leaf → IsFilled leaf → LeavesChange old new keys keys
  LeavesChange-put leaf named here filled = record {
    keys = record {
      outside = outside_of keys (inl named);
      fresh = λ key there. inl there;
      left = λ key there used. there;
    };
    owns = record {
      used = λ key there. elim (cases_eq key at) [
        | inl same ↦ subst (InUse new) (sym same) (ap is_some here)
        | inr apart ↦ subst IsSome (sym (others key apart)) (owns.used key there)
      ];
      filled = λ key found there is. elim (cases_eq key at) [
        | inl same ↦ subst (λ (l : Leaf). IsFilled l) (one_leaf (sym here ∙ (ap (object new) (sym same) ∙ is))) filled
        | inr apart ↦ owns.filled key found there (sym (others key apart) ∙ is)
      ];
      once = owns.once;
    };
  }
    where
      one_leaf : {one other : Leaf} → Some one ≡ Some other → one ≡ other
      one_leaf same = cc

  -- a new one has come
  pub LeavesChange-made : (group : ℕ) (leaf : Leaf) → group < length keys → get_or keys group None ≡ None → object old at ≡ None → object new at ≡ Some leaf → IsFilled leaf
      → LeavesChange old new keys (set keys group (Some at))
  LeavesChange-made group leaf within free vacant here filled = record {
    keys = record {
      outside = outside_of (set keys group (Some at)) (inr (key_there (set keys group (Some at)) group at (get_or-set_same keys group (Some at) None within)));
      fresh = λ key there. elim (Contains-added keys group within at free key there) [
        | inl before ↦ inl before
        | inr same ↦ inr (ap (object old) same ∙ vacant)
      ];
      left = λ key there used. Contains-stays keys group within at free key there;
    };
    owns = record {
      used = λ key there. elim (Contains-added keys group within at free key there) [
        | inl before ↦ subst IsSome (sym (others key (λ same. mine_not (subst (Contains (keys_in keys)) same before)))) (owns.used key before)
        | inr same ↦ subst (InUse new) (sym same) (ap is_some here)
      ];
      filled = λ key found there is. elim (Contains-added keys group within at free key there) [
        | inl before ↦ owns.filled key found before (sym (others key (λ same. mine_not (subst (Contains (keys_in keys)) same before))) ∙ is)
        | inr same ↦ subst (λ (l : Leaf). IsFilled l) (one_leaf (sym here ∙ (ap (object new) (sym same) ∙ is))) filled
      ];
      once = IsOnce-added keys group within at free mine_not owns.once;
    };
  }
    where
      mine_not : Contains (keys_in keys) at → ⊥
      mine_not there = not_none (object old at) vacant (owns.used at there)

      one_leaf : {one other : Leaf} → Some one ≡ Some other → one ≡ other
      one_leaf same = cc

  -- one of them has gone
  pub LeavesChange-gone : (group : ℕ) → group < length keys → get_or keys group None ≡ Some at → object new at ≡ None → LeavesChange old new keys (set keys group None)
  LeavesChange-gone group within named gone = record {
    keys = record {
      outside = outside_of (set keys group None) (inl (key_there keys group at named));
      fresh = λ key there. inl (Contains-removed keys group within at named key there);
      left = λ key there used. elim (Contains-left keys group within at named key there) [
        | inl stays ↦ stays
        | inr same ↦ absurd (not_none (object new key) (ap (object new) same ∙ gone) used)
      ];
    };
    owns = record {
      used = λ key there. subst IsSome (sym (others key (removed-other keys group within at named owns.once key there))) (owns.used key (Contains-removed keys group within at named key there));
      filled = λ key found there is.
          owns.filled key found (Contains-removed keys group within at named key there) (sym (others key (removed-other keys group within at named owns.once key there)) ∙ is);
      once = IsOnce-removed keys group within at named owns.once;
    };
  }
