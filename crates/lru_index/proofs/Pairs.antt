-- What a list of pairs with distinct keys is with a pair more, and with one less.
use Rattle.std.proofs.Common.{◌≡◌, suc, ◌+◌, Bool, true, false, cond, List, [], ◌∷◌, ◌++◌, length, Some, None, IsSome, is_some, refl, sym, ap, ◌∙◌, subst, arith, length-append}
use Rattle.std.specs.List.{IsDistinct, AllByRecursion}
use Rattle.std.specs.Map.{keys_of, lookup, lookup_entry, remove_entry}
use Rattle.std.specs.Option.{option_to_list}
use Rattle.std.specs.Cmp.{IsEquivalence}
use Rattle.std.proofs.lemmas.Map.Keys.{IsDistinct-head, IsDistinct-tail, IsDistinct-cons, IsDistinct-push}
use Rattle.std.proofs.lemmas.Map.Made.{is_some-lookup}
use Rattle.std.proofs.lemmas.Map.{lookup-remove_entry}
use Rattle.lru_index.specs.Order.{touched}
use Rattle.lru_index.proofs.Sides.{other_than}

module _ {K V : Type 0} (test : K → Bool) where
  -- taking out a pair makes the list shorter by one
  pub length_removed : (ps : List (K × V)) → IsSome (lookup test ps) → suc (length (remove_entry test ps)) ≡ length ps
  length_removed [] = λ h. cc
  length_removed (p ∷ ps) = (elim (test p.0) as (λ y. test p.0 ≡ y → IsSome (lookup test (p ∷ ps)) → suc (length (remove_entry test (p ∷ ps))) ≡ length (p ∷ ps)) [
    | true ↦ λ t. rw t (λ h. refl)
    | false ↦ λ t. rw t (λ h. ap suc (length_removed ps h))
  ]) refl

  pub all_removed : (P : K → Type 0) (ps : List (K × V)) → AllByRecursion P (keys_of ps) → AllByRecursion P (keys_of (remove_entry test ps))
  all_removed P [] = λ h. h
  all_removed P (p ∷ ps) = (elim (test p.0) as (λ y. test p.0 ≡ y → AllByRecursion P (keys_of (p ∷ ps)) → AllByRecursion P (keys_of (remove_entry test (p ∷ ps)))) [
    | true ↦ λ t. rw t (λ h. h.1)
    | false ↦ λ t. rw t (λ h. (h.0, all_removed P ps h.1))
  ]) refl

  pub distinct_removed : (eq : K → K → Bool) (ps : List (K × V)) → IsDistinct eq (keys_of ps) → IsDistinct eq (keys_of (remove_entry test ps))
  distinct_removed eq [] = λ h. h
  distinct_removed eq (p ∷ ps) = (elim (test p.0) as (λ y. test p.0 ≡ y → IsDistinct eq (keys_of (p ∷ ps)) → IsDistinct eq (keys_of (remove_entry test (p ∷ ps)))) [
    | true ↦ λ t. rw t (λ h. IsDistinct-tail eq p.0 (keys_of ps) h)
    | false ↦ λ t. rw t (λ h. IsDistinct-cons eq p.0 (keys_of (remove_entry test ps)) (all_removed _ ps (IsDistinct-head eq p.0 (keys_of ps) h)) (distinct_removed eq ps (IsDistinct-tail eq p.0 (keys_of ps) h)))
  ]) refl

module _ {K V : Type 0} {eq : K → K → Bool} (laws : IsEquivalence eq) where
  keys_push : (ps : List (K × V)) (k : K) (s : V) → keys_of ps ++ k ∷ [] ≡ keys_of (ps ++ (k, s) ∷ [])
  keys_push [] k s = refl
  keys_push (p ∷ ps) k s = ap (λ l. p.0 ∷ l) (keys_push ps k s)

  -- keys with one more, that was absent
  pub distinct_put : (ps : List (K × V)) (k : K) (s : V) → lookup (eq k) ps ≡ None → IsDistinct eq (keys_of ps) → IsDistinct eq (keys_of (ps ++ (k, s) ∷ []))
  distinct_put ps k s none d = subst (IsDistinct eq) (keys_push ps k s) (IsDistinct-push laws (keys_of ps) k d (sym (is_some-lookup (eq k) ps) ∙ ap is_some none))

  -- what is found after a pair was taken out
  pub found_removed : (ps : List (K × V)) (k : K) → IsDistinct eq (keys_of ps) → (q : K) → lookup (eq q) (remove_entry (eq k) ps) ≡ cond (eq k q) None (lookup (eq q) ps)
  found_removed ps k distinct q = lookup-remove_entry laws (eq k) (λ x y t. laws.congr k x y t) q ps distinct

  -- what is found after a pair of an absent key was put
  pub found_put : (ps : List (K × V)) (k : K) (s : V) → lookup (eq k) ps ≡ None → (q : K) → lookup (eq q) (ps ++ (k, s) ∷ []) ≡ cond (eq k q) (Some s) (lookup (eq q) ps)
  found_put [] k s none q = rw (laws.symm q k) refl
  found_put (p ∷ ps) k s none q = (elim (eq k p.0) as (λ y. eq k p.0 ≡ y → cond y (Some p.1) (lookup (eq k) ps) ≡ None → lookup (eq q) (p ∷ (ps ++ (k, s) ∷ [])) ≡ cond (eq k q) (Some s) (lookup (eq q) (p ∷ ps))) [
    | true ↦ λ t n. cc
    | false ↦ λ t n. (elim (eq q p.0) as (λ y. eq q p.0 ≡ y → cond y (Some p.1) (lookup (eq q) (ps ++ (k, s) ∷ [])) ≡ cond (eq k q) (Some s) (cond y (Some p.1) (lookup (eq q) ps))) [
      | true ↦ λ u. let apart : eq k q ≡ false = other_than laws k q p.0 t u in rw apart refl
      | false ↦ λ u. found_put ps k s n q
    ]) refl
  ]) refl none

  -- a pair that is taken out and put back stands last
  pub put_back : (same : (a b : K) → eq a b ≡ true → a ≡ b) (ps : List (K × V)) (k : K) (s : V) → lookup (eq k) ps ≡ Some s → lookup_entry (eq k) ps ≡ Some (k, s)
  put_back same [] k s = λ h. cc
  put_back same (p ∷ ps) k s = (elim (eq k p.0) as (λ y. eq k p.0 ≡ y → lookup (eq k) (p ∷ ps) ≡ Some s → lookup_entry (eq k) (p ∷ ps) ≡ Some (k, s)) [
    | true ↦ λ t. rw t (λ h. let slot : p.1 ≡ s = cc in let key : k ≡ p.0 = same k p.0 t in ap Some (λ i. (sym key i, slot i)))
    | false ↦ λ t. rw t (λ h. put_back same ps k s h)
  ]) refl

  last_key : (P : K → Type 0) (front : List (K × V)) (k : K) (s : V) → AllByRecursion P (keys_of (front ++ (k, s) ∷ [])) → P k
  last_key P [] k s a = a.0
  last_key P (p ∷ front) k s a = last_key P front k s a.1

  -- the key of the last pair is apart from that of the first
  last_apart : (p : K × V) (front : List (K × V)) (k : K) (s : V) → IsDistinct eq (keys_of (p ∷ (front ++ (k, s) ∷ []))) → eq k p.0 ≡ false
  last_apart p front k s d = laws.symm k p.0 ∙ last_key (λ y. eq p.0 y ≡ false) front k s (IsDistinct-head eq p.0 (keys_of (front ++ (k, s) ∷ [])) d)

  -- the last pair is found by its key
  pub last_found : (front : List (K × V)) (k : K) (s : V) → IsDistinct eq (keys_of (front ++ (k, s) ∷ [])) → lookup (eq k) (front ++ (k, s) ∷ []) ≡ Some s
  last_found [] k s d = rw (laws.refl k) refl
  last_found (p ∷ front) k s d = rw (last_apart p front k s d) (last_found front k s (IsDistinct-tail eq p.0 (keys_of (front ++ (k, s) ∷ [])) d))

  last_removed : (front : List (K × V)) (k : K) (s : V) → IsDistinct eq (keys_of (front ++ (k, s) ∷ [])) → remove_entry (eq k) (front ++ (k, s) ∷ []) ≡ front
  last_removed [] k s d = rw (laws.refl k) refl
  last_removed (p ∷ front) k s d = rw (last_apart p front k s d) (ap (λ l. p ∷ l) (last_removed front k s (IsDistinct-tail eq p.0 (keys_of (front ++ (k, s) ∷ [])) d)))

  -- the warmest pair stays where it is
  pub last_touched : (same : (a b : K) → eq a b ≡ true → a ≡ b) (front : List (K × V)) (k : K) (s : V) → IsDistinct eq (keys_of (front ++ (k, s) ∷ [])) → touched (eq k) (front ++ (k, s) ∷ []) ≡ front ++ (k, s) ∷ []
  last_touched same front k s d =
      ap (λ o. remove_entry (eq k) (front ++ (k, s) ∷ []) ++ option_to_list o) (put_back same (front ++ (k, s) ∷ []) k s (last_found front k s d))
      ∙ ap (λ l. l ++ (k, s) ∷ []) (last_removed front k s d)

  -- what is found, and that keys are distinct, is as before after a pair became the warmest
  pub touched_found : (same : (a b : K) → eq a b ≡ true → a ≡ b) (ps : List (K × V)) (k : K) (s : V) → IsDistinct eq (keys_of ps) → lookup (eq k) ps ≡ Some s → (q : K) → lookup (eq q) (touched (eq k) ps) ≡ lookup (eq q) ps
  touched_found same ps k s d found q =
      let rest = remove_entry (eq k) ps in
      let gone = found_removed ps k d in
      let none : lookup (eq k) rest ≡ None = gone k ∙ ap (λ b. cond b None (lookup (eq k) ps)) (laws.refl k) in
      ap (λ o. lookup (eq q) (rest ++ option_to_list o)) (put_back same ps k s found) ∙ found_put rest k s none q ∙ ap (cond (eq k q) (Some s)) (gone q)
      ∙ ((elim (eq k q) as (λ y. eq k q ≡ y → cond y (Some s) (cond y None (lookup (eq q) ps)) ≡ lookup (eq q) ps) [
        | true ↦ λ t. sym found ∙ ap (λ r. lookup (eq r) ps) (same k q t)
        | false ↦ λ t. refl
      ]) refl)

  pub distinct_touched : (same : (a b : K) → eq a b ≡ true → a ≡ b) (ps : List (K × V)) (k : K) (s : V) → IsDistinct eq (keys_of ps) → lookup (eq k) ps ≡ Some s → IsDistinct eq (keys_of (touched (eq k) ps))
  distinct_touched same ps k s d found =
      let rest = remove_entry (eq k) ps in
      let none : lookup (eq k) rest ≡ None = found_removed ps k d k ∙ ap (λ b. cond b None (lookup (eq k) ps)) (laws.refl k) in
      subst (λ o. IsDistinct eq (keys_of (rest ++ option_to_list o))) (sym (put_back same ps k s found)) (distinct_put rest k s none (distinct_removed (eq k) eq ps d))

  -- as many pairs as before
  pub length_touched : (same : (a b : K) → eq a b ≡ true → a ≡ b) (ps : List (K × V)) (k : K) (s : V) → lookup (eq k) ps ≡ Some s → length (touched (eq k) ps) ≡ length ps
  length_touched same ps k s found =
      let rest = remove_entry (eq k) ps in
      let shorter : suc (length rest) ≡ length ps = length_removed (eq k) ps (rw found refl) in
      let longer : length (rest ++ (k, s) ∷ []) ≡ length rest + 1 = length-append rest ((k, s) ∷ []) in
      ap (λ o. length (rest ++ option_to_list o)) (put_back same ps k s found) ∙ omega arith

  -- an absent key that becomes the warmest changes nothing
  pub touched_absent : (ps : List (K × V)) (k : K) → lookup (eq k) ps ≡ None → touched (eq k) ps ≡ ps
  touched_absent [] k none = refl
  touched_absent (p ∷ ps) k none = (elim (eq k p.0) as (λ y. cond y (Some p.1) (lookup (eq k) ps) ≡ None → cond y ps (p ∷ remove_entry (eq k) ps) ++ option_to_list (cond y (Some p) (lookup_entry (eq k) ps)) ≡ p ∷ ps) [
    | true ↦ λ n. cc
    | false ↦ λ n. ap (λ l. p ∷ l) (touched_absent ps k n)
  ]) none
