-- Pairs that stand at places, and how a test of keys and a test of places pick the same one.
use Rattle.std.proofs.Common.{◌≡◌, ℕ, suc, Bool, true, false, cond, List, [], ◌∷◌, ◌++◌, length, Option, Some, None, IsSome, IfSome, is_some, nat_eq, refl, sym, ap, ◌∙◌, subst}
use Rattle.std.specs.Option.{option_map, option_to_list}
use Rattle.std.specs.List.{IsDistinct, AllByRecursion}
use Rattle.std.specs.Map.{keys_of, lookup, lookup_entry, remove_entry}
use Rattle.std.specs.Cmp.{IsEquivalence, nat_eq_equiv}
use Rattle.std.proofs.lemmas.Map.Keys.{IsDistinct-head, IsDistinct-tail}
use Rattle.lru_index.specs.Index.{pairs_in, places_in}
use Rattle.lru_index.specs.Chain.{first_item, last_item}
use Rattle.lru_index.specs.Order.{IsWarmest, touched, warmer, first_key}

none_of : {A : Type 0} (o : Option A) → is_some o ≡ false → o ≡ None
none_of None e = refl
none_of (Some x) e = cc

module _ {K : Type 0} where
  last_of : (p : ℕ × (K × ℕ)) (items : List (ℕ × (K × ℕ))) (pair : K × ℕ) → last_item (Some p.1) items ≡ Some pair → (front : List (K × ℕ)) × (p.1 ∷ pairs_in items ≡ front ++ pair ∷ [])
  last_of p [] pair e = let same : p.1 ≡ pair = cc in ([], ap (λ (x : K × ℕ). x ∷ []) same)
  last_of p (q ∷ items) pair e = let rest = last_of q items pair e in (p.1 ∷ rest.0, ap (λ (l : List (K × ℕ)). p.1 ∷ l) rest.1)

  last_pair : (items : List (ℕ × (K × ℕ))) (pair : K × ℕ) → last_item None items ≡ Some pair → (front : List (K × ℕ)) × (pairs_in items ≡ front ++ pair ∷ [])
  last_pair [] pair e = absurd (let both : None ≡ Some pair = e in cc)
  last_pair (p ∷ items) pair e = last_of p items pair e

  -- the key of the last item is the warmest
  pub warmest_in : (items : List (ℕ × (K × ℕ))) (key : K) (answer : Option ℕ) (pair : Option (K × ℕ)) → pair ≡ last_item None items → IfSome answer (λ slot. pair ≡ Some (key, slot)) → IfSome answer (λ slot. IsWarmest (pairs_in items) key slot)
  warmest_in items key None pair is has = tt
  warmest_in items key (Some slot) pair is has = let at = last_pair items (key, slot) (sym is ∙ has) in record { front = at.0; is = at.1 }

  pub length_pairs : (items : List (ℕ × (K × ℕ))) → length (pairs_in items) ≡ length items
  length_pairs [] = refl
  length_pairs (x ∷ xs) = ap suc (length_pairs xs)

  pub keys_same : (items : List (ℕ × (K × ℕ))) → keys_of (pairs_in items) ≡ keys_of (places_in items)
  keys_same [] = refl
  keys_same (x ∷ xs) = ap (λ l. x.1.0 ∷ l) (keys_same xs)

  pub pairs_append : (xs ys : List (ℕ × (K × ℕ))) → pairs_in (xs ++ ys) ≡ pairs_in xs ++ pairs_in ys
  pairs_append [] ys = refl
  pairs_append (x ∷ xs) ys = ap (λ l. x.1 ∷ l) (pairs_append xs ys)

  pub places_append : (xs ys : List (ℕ × (K × ℕ))) → places_in (xs ++ ys) ≡ places_in xs ++ places_in ys
  places_append [] ys = refl
  places_append (x ∷ xs) ys = ap (λ l. (x.1.0, x.0) ∷ l) (places_append xs ys)

  -- a key has a place where it has a slot
  same_known : (test : K → Bool) (items : List (ℕ × (K × ℕ))) → is_some (lookup test (places_in items)) ≡ is_some (lookup test (pairs_in items))
  same_known test [] = refl
  same_known test (x ∷ xs) = (elim (test x.1.0) as (λ y. is_some (cond y (Some x.0) (lookup test (places_in xs))) ≡ is_some (cond y (Some x.1.1) (lookup test (pairs_in xs)))) [
    | true ↦ refl
    | false ↦ same_known test xs
  ])

  pub none_placed : (test : K → Bool) (items : List (ℕ × (K × ℕ))) → lookup test (pairs_in items) ≡ None → lookup test (places_in items) ≡ None
  none_placed test items e = none_of (lookup test (places_in items)) (same_known test items ∙ ap is_some e)

  pub none_seen : (test : K → Bool) (items : List (ℕ × (K × ℕ))) → lookup test (places_in items) ≡ None → lookup test (pairs_in items) ≡ None
  none_seen test items e = none_of (lookup test (pairs_in items)) (sym (same_known test items) ∙ ap is_some e)

  pub some_placed : (test : K → Bool) (items : List (ℕ × (K × ℕ))) → IsSome (lookup test (pairs_in items)) → IsSome (lookup test (places_in items))
  some_placed test items h = same_known test items ∙ h

  pub first_pair : (items : List (ℕ × (K × ℕ))) → option_map (λ p. p.0) (first_item items) ≡ first_key (pairs_in items)
  first_pair [] = refl
  first_pair (x ∷ xs) = refl

  -- Both tests pick the same items.
  abbrev pub Agree : (K → Bool) → ℕ → List (ℕ × (K × ℕ)) → Type 0
  Agree test place [] = Unit {0}
  Agree test place (x ∷ xs) = (test x.1.0 ≡ nat_eq place x.0) × Agree test place xs

  pub pairs_removed : (test : K → Bool) (p : ℕ) (items : List (ℕ × (K × ℕ))) → Agree test p items → pairs_in (remove_entry (nat_eq p) items) ≡ remove_entry test (pairs_in items)
  pairs_removed test p [] a = refl
  pairs_removed test p (x ∷ xs) a = rw a.0 ((elim (nat_eq p x.0) as (λ y. pairs_in (cond y xs (x ∷ remove_entry (nat_eq p) xs)) ≡ cond y (pairs_in xs) (x.1 ∷ remove_entry test (pairs_in xs))) [
    | true ↦ refl
    | false ↦ ap (λ l. x.1 ∷ l) (pairs_removed test p xs a.1)
  ]))

  pub places_removed : (test : K → Bool) (p : ℕ) (items : List (ℕ × (K × ℕ))) → Agree test p items → places_in (remove_entry (nat_eq p) items) ≡ remove_entry test (places_in items)
  places_removed test p [] a = refl
  places_removed test p (x ∷ xs) a = rw a.0 ((elim (nat_eq p x.0) as (λ y. places_in (cond y xs (x ∷ remove_entry (nat_eq p) xs)) ≡ cond y (places_in xs) ((x.1.0, x.0) ∷ remove_entry test (places_in xs))) [
    | true ↦ refl
    | false ↦ ap (λ l. (x.1.0, x.0) ∷ l) (places_removed test p xs a.1)
  ]))

  -- the slot of a key is that of the item at its place
  pub slot_found : (test : K → Bool) (p : ℕ) (items : List (ℕ × (K × ℕ))) → Agree test p items → option_map (λ q. q.1) (lookup (nat_eq p) items) ≡ lookup test (pairs_in items)
  slot_found test p [] a = refl
  slot_found test p (x ∷ xs) a = rw a.0 ((elim (nat_eq p x.0) as (λ y. option_map (λ q. q.1) (cond y (Some x.1) (lookup (nat_eq p) xs)) ≡ cond y (Some x.1.1) (lookup test (pairs_in xs))) [
    | true ↦ refl
    | false ↦ slot_found test p xs a.1
  ]))

  pub pairs_warmer : (test : K → Bool) (p : ℕ) (items : List (ℕ × (K × ℕ))) → Agree test p items → pairs_in (warmer (nat_eq p) items) ≡ warmer test (pairs_in items)
  pairs_warmer test p [] a = refl
  pairs_warmer test p (x ∷ xs) a = rw a.0 ((elim (nat_eq p x.0) as (λ y. pairs_in (cond y xs (warmer (nat_eq p) xs)) ≡ cond y (pairs_in xs) (warmer test (pairs_in xs))) [
    | true ↦ refl
    | false ↦ pairs_warmer test p xs a.1
  ]))

  pairs_entry : (test : K → Bool) (p : ℕ) (items : List (ℕ × (K × ℕ))) → Agree test p items → pairs_in (option_to_list (lookup_entry (nat_eq p) items)) ≡ option_to_list (lookup_entry test (pairs_in items))
  pairs_entry test p [] a = refl
  pairs_entry test p (x ∷ xs) a = rw a.0 ((elim (nat_eq p x.0) as (λ y. pairs_in (option_to_list (cond y (Some x) (lookup_entry (nat_eq p) xs))) ≡ option_to_list (cond y (Some x.1) (lookup_entry test (pairs_in xs)))) [
    | true ↦ refl
    | false ↦ pairs_entry test p xs a.1
  ]))

  places_entry : (test : K → Bool) (p : ℕ) (items : List (ℕ × (K × ℕ))) → Agree test p items → places_in (option_to_list (lookup_entry (nat_eq p) items)) ≡ option_to_list (lookup_entry test (places_in items))
  places_entry test p [] a = refl
  places_entry test p (x ∷ xs) a = rw a.0 ((elim (nat_eq p x.0) as (λ y. places_in (option_to_list (cond y (Some x) (lookup_entry (nat_eq p) xs))) ≡ option_to_list (cond y (Some (x.1.0, x.0)) (lookup_entry test (places_in xs)))) [
    | true ↦ refl
    | false ↦ places_entry test p xs a.1
  ]))

  pub pairs_touched : (test : K → Bool) (p : ℕ) (items : List (ℕ × (K × ℕ))) → Agree test p items → pairs_in (touched (nat_eq p) items) ≡ touched test (pairs_in items)
  pairs_touched test p items a =
      pairs_append (remove_entry (nat_eq p) items) (option_to_list (lookup_entry (nat_eq p) items))
      ∙ ap (λ l. l ++ pairs_in (option_to_list (lookup_entry (nat_eq p) items))) (pairs_removed test p items a)
      ∙ ap (λ l. remove_entry test (pairs_in items) ++ l) (pairs_entry test p items a)

  pub places_touched : (test : K → Bool) (p : ℕ) (items : List (ℕ × (K × ℕ))) → Agree test p items → places_in (touched (nat_eq p) items) ≡ touched test (places_in items)
  places_touched test p items a =
      places_append (remove_entry (nat_eq p) items) (option_to_list (lookup_entry (nat_eq p) items))
      ∙ ap (λ l. l ++ places_in (option_to_list (lookup_entry (nat_eq p) items))) (places_removed test p items a)
      ∙ ap (λ l. remove_entry test (places_in items) ++ l) (places_entry test p items a)

module _ {K : Type 0} {eq : K → K → Bool} (laws : IsEquivalence eq) where
  agree_apart : (k : K) (p : ℕ) (items : List (ℕ × (K × ℕ))) → AllByRecursion (λ y. eq k y ≡ false) (keys_of (pairs_in items)) → AllByRecursion (λ q. nat_eq p q ≡ false) (keys_of items) → Agree (eq k) p items
  agree_apart k p [] a b = tt
  agree_apart k p (x ∷ xs) a b = (a.0 ∙ sym b.0, agree_apart k p xs a.1 b.1)

  -- a place that is found is apart from one that is apart from all
  place_apart : (k : K) (p q : ℕ) (items : List (ℕ × (K × ℕ))) → lookup (eq k) (places_in items) ≡ Some p → AllByRecursion (λ r. nat_eq q r ≡ false) (keys_of items) → nat_eq q p ≡ false
  place_apart k p q [] f a = cc
  place_apart k p q (x ∷ xs) f a = (elim (eq k x.1.0) as (λ y. cond y (Some x.0) (lookup (eq k) (places_in xs)) ≡ Some p → nat_eq q p ≡ false) [
    | true ↦ λ g. let here : x.0 ≡ p = cc in subst (λ r. nat_eq q r ≡ false) here a.0
    | false ↦ λ g. place_apart k p q xs g a.1
  ]) f

  all_under : (k l : K) (items : List (ℕ × (K × ℕ))) → eq k l ≡ true → AllByRecursion (λ y. eq l y ≡ false) (keys_of (pairs_in items)) → AllByRecursion (λ y. eq k y ≡ false) (keys_of (pairs_in items))
  all_under k l [] t a = tt
  all_under k l (x ∷ xs) t a = (laws.congr k l x.1.0 t ∙ a.0, all_under k l xs t a.1)

  -- The test of a key and that of the place at which it is found agree.
  pub agree : (k : K) (p : ℕ) (items : List (ℕ × (K × ℕ))) → IsDistinct eq (keys_of (pairs_in items)) → IsDistinct nat_eq (keys_of items) → lookup (eq k) (places_in items) ≡ Some p → Agree (eq k) p items
  agree k p [] d n = λ f. tt
  agree k p (x ∷ xs) d n = (elim (eq k x.1.0) as (λ y. eq k x.1.0 ≡ y → cond y (Some x.0) (lookup (eq k) (places_in xs)) ≡ Some p → Agree (eq k) p (x ∷ xs)) [
    | true ↦ λ t f.
        let here : x.0 ≡ p = cc in
        let same : nat_eq p x.0 ≡ true = subst (λ q. nat_eq q x.0 ≡ true) here (nat_eq_equiv.refl x.0) in
        let apart = subst (λ q. AllByRecursion (λ r. nat_eq q r ≡ false) (keys_of xs)) here (IsDistinct-head nat_eq x.0 (keys_of xs) n) in
        (t ∙ sym same, agree_apart k p xs (all_under k x.1.0 xs t (IsDistinct-head eq x.1.0 (keys_of (pairs_in xs)) d)) apart)
    | false ↦ λ t f.
        let other : nat_eq p x.0 ≡ false = nat_eq_equiv.symm p x.0 ∙ place_apart k p x.0 xs f (IsDistinct-head nat_eq x.0 (keys_of xs) n) in
        (t ∙ sym other, agree k p xs (IsDistinct-tail eq x.1.0 (keys_of (pairs_in xs)) d) (IsDistinct-tail nat_eq x.0 (keys_of xs) n) f)
  ]) refl

  -- a place that is found has an item
  pub place_there : (k : K) (p : ℕ) (items : List (ℕ × (K × ℕ))) → lookup (eq k) (places_in items) ≡ Some p → IsSome (lookup (nat_eq p) items)
  place_there k p [] f = cc
  place_there k p (x ∷ xs) f = (elim (eq k x.1.0) as (λ y. cond y (Some x.0) (lookup (eq k) (places_in xs)) ≡ Some p → IsSome (lookup (nat_eq p) (x ∷ xs))) [
    | true ↦ λ g. let here : x.0 ≡ p = cc in subst (λ q. IsSome (lookup (nat_eq q) (x ∷ xs))) here (rw (nat_eq_equiv.refl x.0) refl)
    | false ↦ λ g. (elim (nat_eq p x.0) as (λ y. IsSome (cond y (Some x.1) (lookup (nat_eq p) xs))) [
      | true ↦ refl
      | false ↦ place_there k p xs g
    ])
  ]) f

  -- nothing is warmer than an absent key
  pub warmer_absent : (k : K) (ps : List (K × ℕ)) → lookup (eq k) ps ≡ None → warmer (eq k) ps ≡ []
  warmer_absent k [] none = refl
  warmer_absent k (p ∷ ps) none = (elim (eq k p.0) as (λ y. cond y (Some p.1) (lookup (eq k) ps) ≡ None → cond y ps (warmer (eq k) ps) ≡ []) [
    | true ↦ λ n. cc
    | false ↦ λ n. warmer_absent k ps n
  ]) none
