-- Lists of pairs in two parts, and what is looked up in them.
use Rattle.std.proofs.Common.{◌≡◌, Bool, true, false, cond, List, [], ◌∷◌, ◌++◌, Some, None, refl, sym, ap, ◌∙◌, append_assoc}
use Rattle.std.specs.List.{AllByRecursion}
use Rattle.std.specs.Map.{keys_of, lookup, remove_entry}
use Rattle.std.specs.Cmp.{IsEquivalence}

module _ {A : Type 0} (P : A → Type 0) where
  pub all_front : (xs ys : List A) → AllByRecursion P (xs ++ ys) → AllByRecursion P xs
  all_front [] ys a = tt
  all_front (x ∷ xs) ys a = (a.0, all_front xs ys a.1)

  pub at_middle : (xs : List A) (y : A) (ys : List A) → AllByRecursion P (xs ++ y ∷ ys) → P y
  at_middle [] y ys a = a.0
  at_middle (x ∷ xs) y ys a = at_middle xs y ys a.1

module _ {K V : Type 0} where
  -- One list has a pair more than the other, and all else in the same order.
  pub record IsWith (pair : K × V) (less more : List (K × V)) : Type 0 where
    pub front : List (K × V)
    pub back : List (K × V)
    pub without : less ≡ front ++ back
    pub is : more ≡ front ++ pair ∷ back

  pub with_right : {pair : K × V} {less more : List (K × V)} (rest : List (K × V)) → IsWith pair less more → IsWith pair (rest ++ less) (rest ++ more)
  with_right {pair} {less} {more} rest w = record {
    front = rest ++ w.front;
    back = w.back;
    without = ap (λ l. rest ++ l) w.without ∙ sym (append_assoc rest w.front w.back);
    is = ap (λ l. rest ++ l) w.is ∙ sym (append_assoc rest w.front (pair ∷ w.back));
  }

  -- what is looked up is not in the first part
  pub found_second : (t : K → Bool) (l m : List (K × V)) → AllByRecursion (λ k. t k ≡ false) (keys_of l) → lookup t (l ++ m) ≡ lookup t m
  found_second t [] m a = refl
  found_second t (x ∷ l) m a = rw a.0 (found_second t l m a.1)

  -- nor is it in the first part that it is taken out of
  pub removed_second : (t : K → Bool) (l : List (K × V)) (p : K × V) (m : List (K × V)) → AllByRecursion (λ k. t k ≡ false) (keys_of l) → t p.0 ≡ true → remove_entry t (l ++ p ∷ m) ≡ l ++ m
  removed_second t [] p m a h = rw h refl
  removed_second t (x ∷ l) p m a h = rw a.0 (ap (λ r. x ∷ r) (removed_second t l p m a.1 h))

  -- a key that isn't found is apart from each that is there
  pub none_apart : (t : K → Bool) (ps : List (K × V)) → lookup t ps ≡ None → AllByRecursion (λ k. t k ≡ false) (keys_of ps)
  none_apart t [] = λ n. tt
  none_apart t (p ∷ ps) = (elim (t p.0) as (λ y. t p.0 ≡ y → cond y (Some p.1) (lookup t ps) ≡ None → AllByRecursion (λ k. t k ≡ false) (keys_of (p ∷ ps))) [
    | true ↦ λ e n. cc
    | false ↦ λ e n. (e, none_apart t ps n)
  ]) refl

-- a key equal to a third is apart from one that is not
pub other_than : {K : Type 0} {eq : K → K → Bool} → IsEquivalence eq → (k q x : K) → eq k x ≡ false → eq q x ≡ true → eq k q ≡ false
other_than {K} {eq} laws k q x t u = (elim (eq k q) as (λ y. eq k q ≡ y → y ≡ false) [
  | true ↦ λ e. sym u ∙ sym (laws.congr k q x e) ∙ t
  | false ↦ λ e. refl
]) refl
