-- What a change of links does to a chain.
use Rattle.std.proofs.Common.{◌≡◌, ℕ, true, false, cond, List, [], ◌∷◌, ◌++◌, Option, Some, None, nat_eq, eqb-true, refl, sym, ap, ◌∙◌}
use Rattle.std.specs.Option.{option_map, option_and_then}
use Rattle.std.specs.List.{IsDistinct, AllByRecursion}
use Rattle.std.specs.Map.{keys_of, lookup, remove_entry}
use Rattle.std.specs.Cmp.{nat_eq_equiv}
use Rattle.std.proofs.lemmas.Map.Keys.{IsDistinct-head, IsDistinct-tail}
use Rattle.lru_index.specs.Order.{warmer, first_key}
use Rattle.lru_index.specs.Chain.{link_at, item_at, first_item, last_item, link_of, with_warmer, with_colder, hits, end_after, first_or, last_or, AreLinked}
use Rattle.lru_index.specs.declared.chain.Link.{Link}
use Rattle.lru_index.proofs.Sides.{IsWith, with_right}

module _ {T : Type 0} where
  pub first_or-append : (e : Option ℕ) (xs ys : List (ℕ × T)) → first_or e (xs ++ ys) ≡ first_or (first_or e ys) xs
  first_or-append e [] ys = refl
  first_or-append e (x ∷ xs) ys = refl

  pub last_or-append : (c : Option ℕ) (xs ys : List (ℕ × T)) → last_or c (xs ++ ys) ≡ last_or (last_or c xs) ys
  last_or-append c [] ys = refl
  last_or-append c (x ∷ xs) ys = last_or-append (Some x.0) xs ys

  pub first_is : (ps : List (ℕ × T)) → first_or None ps ≡ first_key ps
  first_is [] = refl
  first_is (p ∷ ps) = refl

  -- an end beyond a key that is there stays
  stays_beyond : (k : ℕ) (xs : List (ℕ × T)) (a b : Option ℕ) → end_after (last_or (Some k) xs) a b ≡ b
  stays_beyond k [] a b = refl
  stays_beyond k (x ∷ xs) a b = stays_beyond x.0 xs a b

  -- the cold end, where what comes after the first part is other than it was
  pub cold_end : (xs : List (ℕ × T)) (a b : Option ℕ) → end_after (last_or None xs) a (first_or b xs) ≡ first_or a xs
  cold_end [] a b = refl
  cold_end (x ∷ xs) a b = stays_beyond x.0 xs a (Some x.0)

  -- the warm end, where what comes before the second part is other than it was
  pub warm_end : (ys : List (ℕ × T)) (a b : Option ℕ) → end_after (first_or None ys) a (last_or b ys) ≡ last_or a ys
  warm_end [] a b = refl
  warm_end (y ∷ ys) a b = refl

  pub link_front : (at : ℕ → Option (Link T)) (c e : Option ℕ) (xs ys : List (ℕ × T)) → AreLinked at c (xs ++ ys) e → AreLinked at c xs (first_or e ys)
  link_front at c e [] ys l = tt
  link_front at c e (x ∷ xs) ys l = (rw (sym (first_or-append e xs ys)) l.0, link_front at (Some x.0) e xs ys l.1)

  pub link_back : (at : ℕ → Option (Link T)) (c e : Option ℕ) (xs ys : List (ℕ × T)) → AreLinked at c (xs ++ ys) e → AreLinked at (last_or c xs) ys e
  link_back at c e [] ys l = l
  link_back at c e (x ∷ xs) ys l = link_back at (Some x.0) e xs ys l.1

  pub link_join : (at : ℕ → Option (Link T)) (c e : Option ℕ) (xs ys : List (ℕ × T)) → AreLinked at c xs (first_or e ys) → AreLinked at (last_or c xs) ys e → AreLinked at c (xs ++ ys) e
  link_join at c e [] ys a b = b
  link_join at c e (x ∷ xs) ys a b = (rw (first_or-append e xs ys) a.0, link_join at (Some x.0) e xs ys a.1 b)

  -- links that are as before
  pub frame : (at now : ℕ → Option (Link T)) (c e : Option ℕ) (ps : List (ℕ × T)) → AllByRecursion (λ k. now k ≡ at k) (keys_of ps) → AreLinked at c ps e → AreLinked now c ps e
  frame at now c e [] a l = tt
  frame at now c e (p ∷ ps) a l = (a.0 ∙ l.0, frame at now (Some p.0) e ps a.1 l.1)

  pub all_keys : (P Q : ℕ → Type 0) → ((k : ℕ) → P k → Q k) → (ps : List (ℕ × T)) → AllByRecursion P (keys_of ps) → AllByRecursion Q (keys_of ps)
  all_keys P Q f [] a = tt
  all_keys P Q f (p ∷ ps) a = (f p.0 a.0, all_keys P Q f ps a.1)

  pub front_keys : (P : ℕ → Type 0) (xs ys : List (ℕ × T)) → AllByRecursion P (keys_of (xs ++ ys)) → AllByRecursion P (keys_of xs)
  front_keys P [] ys a = tt
  front_keys P (x ∷ xs) ys a = (a.0, front_keys P xs ys a.1)

  pub back_keys : (P : ℕ → Type 0) (xs ys : List (ℕ × T)) → AllByRecursion P (keys_of (xs ++ ys)) → AllByRecursion P (keys_of ys)
  back_keys P [] ys a = a
  back_keys P (x ∷ xs) ys a = back_keys P xs ys a.1

  all_of : (P : ℕ → Type 0) → ((k : ℕ) → P k) → (ps : List (ℕ × T)) → AllByRecursion P (keys_of ps)
  all_of P f [] = tt
  all_of P f (p ∷ ps) = (f p.0, all_of P f ps)

  -- what holds of no key, and of each key that is there, holds of the last
  last_all : (P : ℕ → Type 0) (Q : Option ℕ → Type 0) → ((k : ℕ) → P k → Q (Some k)) → (c : Option ℕ) → Q c → (ps : List (ℕ × T)) → AllByRecursion P (keys_of ps) → Q (last_or c ps)
  last_all P Q f c q [] a = q
  last_all P Q f c q (p ∷ ps) a = last_all P Q f (Some p.0) (f p.0 a.0) ps a.1

  -- a change of what is kept at one key, or at none
  abbrev pub IsChanged : (Link T → Link T) → Option ℕ → (ℕ → Option (Link T)) → (ℕ → Option (Link T)) → Type 0
  IsChanged f of at now = (q : ℕ) → now q ≡ cond (hits of q) (option_map f (at q)) (at q)

module _ {T : Type 0} where
  -- what a change leaves where it doesn't hit
  pub unchanged : (f : Link T → Link T) (of : Option ℕ) (at now : ℕ → Option (Link T)) → IsChanged f of at now → (ps : List (ℕ × T)) → AllByRecursion (λ k. hits of k ≡ false) (keys_of ps) → AllByRecursion (λ k. now k ≡ at k) (keys_of ps)
  unchanged f of at now h ps a = all_keys _ (λ k. now k ≡ at k) (λ k e. h k ∙ ap (λ b. cond b (option_map f (at k)) (at k)) e) ps a

  -- what is kept nowhere before is kept nowhere after
  pub still_none : (f : Link T → Link T) (of : Option ℕ) (at now : ℕ → Option (Link T)) → IsChanged f of at now → (q : ℕ) → at q ≡ None → now q ≡ None
  still_none f of at now h q n = h q ∙ ap (λ o. cond (hits of q) (option_map f o) o) n ∙ (elim (hits of q) as (λ b. cond b (option_map f None) None ≡ None) [ true ↦ refl | false ↦ refl ])

  -- a key that is apart from all of some keys is apart from the last of them
  last_apart : (k q : ℕ) (ps : List (ℕ × T)) → AllByRecursion (λ y. nat_eq q y ≡ false) (k ∷ keys_of ps) → hits (last_or (Some k) ps) q ≡ false
  last_apart k q [] a = nat_eq_equiv.symm k q ∙ a.0
  last_apart k q (p ∷ ps) a = last_apart p.0 q ps a.1

  -- the link of the last key leads elsewhere
  pub changed_last : (at now : ℕ → Option (Link T)) (c e to : Option ℕ) (ps : List (ℕ × T)) → IsDistinct nat_eq (keys_of ps) → IsChanged (with_warmer to) (last_or c ps) at now → AreLinked at c ps e → AreLinked now c ps to
  changed_last at now c e to [] d h l = tt
  changed_last at now c e to (p ∷ []) d h l = (h p.0 ∙ ap (λ b. cond b (option_map (with_warmer to) (at p.0)) (at p.0)) (nat_eq_equiv.refl p.0) ∙ ap (option_map (with_warmer to)) l.0, tt)
  changed_last at now c e to (p ∷ r ∷ ps) d h l =
      let apart = last_apart r.0 p.0 ps (IsDistinct-head nat_eq p.0 (r.0 ∷ keys_of ps) d) in
      (h p.0 ∙ ap (λ b. cond b (option_map (with_warmer to) (at p.0)) (at p.0)) apart ∙ l.0, changed_last at now (Some p.0) e to (r ∷ ps) (IsDistinct-tail nat_eq p.0 (r.0 ∷ keys_of ps) d) h l.1)

  -- the link of the first key leads elsewhere
  pub changed_first : (at now : ℕ → Option (Link T)) (c to e : Option ℕ) (ps : List (ℕ × T)) → IsDistinct nat_eq (keys_of ps) → IsChanged (with_colder to) (first_or e ps) at now → AreLinked at c ps e → AreLinked now to ps e
  changed_first at now c to e [] d h l = tt
  changed_first at now c to e (p ∷ ps) d h l =
      let apart = unchanged (with_colder to) (Some p.0) at now h ps (IsDistinct-head nat_eq p.0 (keys_of ps) d) in
      (h p.0 ∙ ap (λ b. cond b (option_map (with_colder to) (at p.0)) (at p.0)) (nat_eq_equiv.refl p.0) ∙ ap (option_map (with_colder to)) l.0, frame at now (Some p.0) e ps apart l.1)

  -- an absent key is apart from each that is there
  pub absent_apart : (k : ℕ) (ps : List (ℕ × T)) → lookup (nat_eq k) ps ≡ None → AllByRecursion (λ y. nat_eq k y ≡ false) (keys_of ps)
  absent_apart k [] = λ n. tt
  absent_apart k (p ∷ ps) = (elim (nat_eq k p.0) as (λ y. nat_eq k p.0 ≡ y → cond y (Some p.1) (lookup (nat_eq k) ps) ≡ None → AllByRecursion (λ y. nat_eq k y ≡ false) (keys_of (p ∷ ps))) [
    | true ↦ λ t m. cc
    | false ↦ λ t m. (t, absent_apart k ps m)
  ]) refl

  distinct_front : (xs ys : List (ℕ × T)) → IsDistinct nat_eq (keys_of (xs ++ ys)) → IsDistinct nat_eq (keys_of xs)
  unfolding IsDistinct
  distinct_front [] ys d = tt
  distinct_front (x ∷ xs) ys d = (front_keys _ xs ys d.0, distinct_front xs ys d.1)

  distinct_back : (xs ys : List (ℕ × T)) → IsDistinct nat_eq (keys_of (xs ++ ys)) → IsDistinct nat_eq (keys_of ys)
  unfolding IsDistinct
  distinct_back [] ys d = d
  distinct_back (x ∷ xs) ys d = distinct_back xs ys d.1

  -- each key of the first part is apart from each of the second
  parts_apart : (xs ys : List (ℕ × T)) → IsDistinct nat_eq (keys_of (xs ++ ys)) → AllByRecursion (λ x. AllByRecursion (λ y. nat_eq x y ≡ false) (keys_of ys)) (keys_of xs)
  unfolding IsDistinct
  parts_apart [] ys d = tt
  parts_apart (x ∷ xs) ys d = (back_keys _ xs ys d.0, parts_apart xs ys d.1)

  first_apart : (xs ys : List (ℕ × T)) → AllByRecursion (λ x. AllByRecursion (λ y. nat_eq x y ≡ false) (keys_of ys)) (keys_of xs) → AllByRecursion (λ x. hits (first_or None ys) x ≡ false) (keys_of xs)
  first_apart xs [] a = all_of _ (λ k. refl) xs
  first_apart xs (y ∷ ys) a = all_keys _ (λ x. nat_eq y.0 x ≡ false) (λ x b. nat_eq_equiv.symm y.0 x ∙ b.0) xs a

  -- The chain with one more key at its warm end.
  pub linked_put : (at at1 at2 : ℕ → Option (Link T)) (k : ℕ) (s : T) (ps : List (ℕ × T)) → IsDistinct nat_eq (keys_of ps) → lookup (nat_eq k) ps ≡ None → AreLinked at None ps None → IsChanged (with_warmer (Some k)) (last_or None ps) at at1 → ((q : ℕ) → at2 q ≡ cond (nat_eq k q) (Some (link_of s (last_or None ps) None)) (at1 q)) → AreLinked at2 None (ps ++ (k, s) ∷ []) None
  linked_put at at1 at2 k s ps d n l h1 h2 =
      let last : at2 k ≡ Some (link_of s (last_or None ps) None) = h2 k ∙ ap (λ b. cond b (Some (link_of s (last_or None ps) None)) (at1 k)) (nat_eq_equiv.refl k) in
      let kept = all_keys _ (λ q. at2 q ≡ at1 q) (λ q e. h2 q ∙ ap (λ b. cond b (Some (link_of s (last_or None ps) None)) (at1 q)) e) ps (absent_apart k ps n) in
      link_join at2 None None ps ((k, s) ∷ []) (frame at1 at2 None (Some k) ps kept (changed_last at at1 None None (Some k) ps d h1 l)) (last, tt)

  -- The chain without a key, whose neighbours are linked to each other.
  pub linked_removed : (at at1 at2 at3 : ℕ → Option (Link T)) (xs : List (ℕ × T)) (p : ℕ × T) (ys : List (ℕ × T)) → IsDistinct nat_eq (keys_of (xs ++ p ∷ ys)) → AreLinked at None (xs ++ p ∷ ys) None → ((q : ℕ) → at1 q ≡ cond (nat_eq p.0 q) None (at q)) → IsChanged (with_warmer (first_or None ys)) (last_or None xs) at1 at2 → IsChanged (with_colder (last_or None xs)) (first_or None ys) at2 at3 → AreLinked at3 None (xs ++ ys) None
  linked_removed at at1 at2 at3 xs p ys d l h1 h2 h3 =
      let parts = parts_apart xs (p ∷ ys) d in
      let back = distinct_back xs (p ∷ ys) d in
      let rest = all_keys _ (λ x. AllByRecursion (λ y. nat_eq x y ≡ false) (keys_of ys)) (λ x a. a.1) xs parts in
      let gone = λ (q : ℕ) (e : nat_eq p.0 q ≡ false). h1 q ∙ ap (λ b. cond b None (at q)) e in
      let xs1 = all_keys _ (λ q. at1 q ≡ at q) (λ q a. gone q (nat_eq_equiv.symm p.0 q ∙ a.0)) xs parts in
      let ys1 = all_keys _ (λ q. at1 q ≡ at q) (λ q a. gone q a) ys (IsDistinct-head nat_eq p.0 (keys_of ys) back) in
      let xs3 = unchanged (with_colder (last_or None xs)) (first_or None ys) at2 at3 h3 xs (first_apart xs ys rest) in
      let apart = last_all _ (λ o. AllByRecursion (λ y. hits o y ≡ false) (keys_of ys)) (λ k a. a) None (all_of _ (λ k. refl) ys) xs rest in
      let ys2 = unchanged (with_warmer (first_or None ys)) (last_or None xs) at1 at2 h2 ys apart in
      let front = changed_last at1 at2 None (Some p.0) (first_or None ys) xs (distinct_front xs (p ∷ ys) d) h2 (frame at at1 None (Some p.0) xs xs1 (link_front at None None xs (p ∷ ys) l)) in
      let rear = changed_first at2 at3 (Some p.0) (last_or None xs) None ys (IsDistinct-tail nat_eq p.0 (keys_of ys) back) h3 (frame at1 at2 (Some p.0) None ys ys2 (frame at at1 (Some p.0) None ys ys1 (link_back at None None xs (p ∷ ys) l).1)) in
      link_join at3 None None xs ys (frame at2 at3 None (first_or None ys) xs xs3 front) rear

  -- what is kept at a key has the slot of its pair
  pub slots : (at : ℕ → Option (Link T)) (c e : Option ℕ) (ps : List (ℕ × T)) (q : ℕ) → AreLinked at c ps e → (lookup (nat_eq q) ps ≡ None → at q ≡ None) → lookup (nat_eq q) ps ≡ option_map (λ u. u.item) (at q)
  slots at c e [] q l = λ n. rw (n refl) refl
  slots at c e (p ∷ ps) q l = (elim (nat_eq q p.0) as (λ y. nat_eq q p.0 ≡ y → (cond y (Some p.1) (lookup (nat_eq q) ps) ≡ None → at q ≡ None) → cond y (Some p.1) (lookup (nat_eq q) ps) ≡ option_map (λ u. u.item) (at q)) [
    | true ↦ λ t n. sym (ap (λ k. option_map (λ u. u.item) (at k)) (eqb-true q p.0 t) ∙ ap (option_map (λ u. u.item)) l.0)
    | false ↦ λ t n. slots at (Some p.0) e ps q l.1 n
  ]) refl

  -- what is kept at a key names the first key that is warmer
  pub nexts : (at : ℕ → Option (Link T)) (c : Option ℕ) (ps : List (ℕ × T)) (q : ℕ) → AreLinked at c ps None → (lookup (nat_eq q) ps ≡ None → at q ≡ None) → option_and_then (λ u. u.warmer) (at q) ≡ first_key (warmer (nat_eq q) ps)
  nexts at c [] q l = λ n. rw (n refl) refl
  nexts at c (p ∷ ps) q l = (elim (nat_eq q p.0) as (λ y. nat_eq q p.0 ≡ y → (cond y (Some p.1) (lookup (nat_eq q) ps) ≡ None → at q ≡ None) → option_and_then (λ u. u.warmer) (at q) ≡ first_key (cond y ps (warmer (nat_eq q) ps))) [
    | true ↦ λ t n. ap (λ k. option_and_then (λ u. u.warmer) (at k)) (eqb-true q p.0 t) ∙ ap (option_and_then (λ u. u.warmer)) l.0 ∙ first_is ps
    | false ↦ λ t n. nexts at (Some p.0) ps q l.1 n
  ]) refl

  -- the item at the first place of items that are linked
  item_first : (links : List (Option (Link T))) (c : Option ℕ) (ps : List (ℕ × T)) → AreLinked (link_at links) c ps None → option_and_then (item_at links) (first_or None ps) ≡ first_item ps
  item_first links c [] l = refl
  item_first links c (p ∷ ps) l = ap (option_map (λ u. u.item)) l.0

  pub items_first : (links : List (Option (Link T))) (c : Option ℕ) (ps : List (ℕ × T)) → AreLinked (link_at links) c ps None → option_and_then (item_at links) (first_key ps) ≡ first_item ps
  items_first links c ps l = ap (option_and_then (item_at links)) (sym (first_is ps)) ∙ item_first links c ps l

  -- the item at the last place
  item_last : (links : List (Option (Link T))) (c e : Option ℕ) (p : ℕ × T) (ps : List (ℕ × T)) → AreLinked (link_at links) c (p ∷ ps) e → option_and_then (item_at links) (last_or (Some p.0) ps) ≡ last_item (Some p.1) ps
  item_last links c e p [] l = ap (option_map (λ u. u.item)) l.0
  item_last links c e p (q ∷ ps) l = item_last links (Some p.0) e q ps l.1

  pub items_last : (links : List (Option (Link T))) (c e : Option ℕ) (ps : List (ℕ × T)) → AreLinked (link_at links) c ps e → option_and_then (item_at links) (last_or None ps) ≡ last_item None ps
  items_last links c e [] l = refl
  items_last links c e (p ∷ ps) l = item_last links c e p ps l

  -- the item at the first place that is warmer
  pub items_next : (links : List (Option (Link T))) (c : Option ℕ) (ps : List (ℕ × T)) (q : ℕ) → AreLinked (link_at links) c ps None → option_and_then (item_at links) (first_key (warmer (nat_eq q) ps)) ≡ first_item (warmer (nat_eq q) ps)
  items_next links c [] q l = refl
  items_next links c (p ∷ ps) q l = (elim (nat_eq q p.0) as (λ y. option_and_then (item_at links) (first_key (cond y ps (warmer (nat_eq q) ps))) ≡ first_item (cond y ps (warmer (nat_eq q) ps))) [
    | true ↦ items_first links (Some p.0) ps l.1
    | false ↦ items_next links (Some p.0) ps q l.1
  ])

  -- a pair that is found is one more than the others
  pub found_with : (k : ℕ) (s : T) (ps : List (ℕ × T)) → lookup (nat_eq k) ps ≡ Some s → IsWith (k, s) (remove_entry (nat_eq k) ps) ps
  found_with k s [] = λ e. cc
  found_with k s (p ∷ ps) = (elim (nat_eq k p.0) as (λ y. nat_eq k p.0 ≡ y → cond y (Some p.1) (lookup (nat_eq k) ps) ≡ Some s → IsWith (k, s) (cond y ps (p ∷ remove_entry (nat_eq k) ps)) (p ∷ ps)) [
    | true ↦ λ t f. let slot : p.1 ≡ s = cc in record { front = []; back = ps; without = refl; is = λ i. (sym (eqb-true k p.0 t) i, slot i) ∷ ps }
    | false ↦ λ t f. with_right (p ∷ []) (found_with k s ps f)
  ]) refl
