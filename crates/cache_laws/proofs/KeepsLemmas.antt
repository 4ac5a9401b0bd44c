-- What a cache keeps after each change of the heap and of the order of use.
use Rattle.std.proofs.Common.{◌≡◌, ◌≢◌, ℕ, zero, suc, ◌+◌, ◌<◌, Bool, true, false, cond, List, [], ◌∷◌, ◌++◌, length, Option, Some, None, IsSome, replicate, refl, sym, ap, ◌∙◌, subst, inl, inr, arith, length-append}
use Rattle.std.specs.List.{Contains}
use Rattle.std.specs.Option.{option_map, option_map_or, option_and_then}
use Rattle.std.specs.Map.{lookup, remove_entry}
use Rattle.std.specs.Cmp.{IsEquivalence}
use Rattle.std.specs.Prelude.{remove, slice_index_or, slice_set}
use Rattle.std.proofs.lemmas.Bool.{cases_eq, cases_lt, false≢true}
use Rattle.std.proofs.lemmas.List.{get_or-set_same, get_or-set_other, get_or_default, set_past}
use Rattle.kheap_slabs.specs.Objects.{object, InUse, count, put, without}
use Rattle.kheap_slabs.proofs.ObjectLemmas.{count-none, object-none, object-put, object-put_other, object-without, object-without_other, count-put_new, count-put_used, count-without, InUse-within, object_of}
use Rattle.lru_index.specs.Order.{Order, order, touched, first_key}
use Rattle.lru_index.proofs.Pairs.{length_touched, touched_absent, length_removed}
use Rattle.cache_laws.specs.Caches.{slot_of, key_at, Keeps, cached, AreTrue, first_fill, fills_kept, left_kept, objects_kept, pairs_kept, objects_without, pairs_without, IsAt}

some_inside : {A B : Type 0} (f : A → B) (o : Option A) (b : B) → option_map f o ≡ Some b → IsSome o
some_inside f None b = λ h. cc
some_inside f (Some x) b = λ h. refl

module _ {K X : Type 0} {eq : K → K → Bool} (laws : IsEquivalence eq) (same : (a b : K) → eq a b ≡ true → a ≡ b) (key : X → K) where
  -- the slot of a cached key is in use
  pub keeps_used : (objects : List (Option X)) (cache : Order K) (k : K) (slot : ℕ) → Keeps eq key objects cache → slot_of eq cache k ≡ Some slot → InUse objects slot
  keeps_used objects cache k slot keeps is = some_inside key (object objects slot) k (keeps.there k slot is)

  -- the same pairs in another order
  pub keeps_moved : (objects : List (Option X)) (old new : Order K) → Keeps eq key objects old → ((q : K) → slot_of eq new q ≡ slot_of eq old q) → length new.pairs ≡ length old.pairs → Keeps eq key objects new
  keeps_moved objects old new keeps finds long = record {
    there = λ q slot is. keeps.there q slot (sym (finds q) ∙ is);
    only = λ q slot is. finds q ∙ keeps.only q slot is;
    many = long ∙ keeps.many;
  }

  long_touched : (ps : List (K × ℕ)) (k : K) → length (touched (eq k) ps) ≡ length ps
  long_touched ps k = by_case (lookup (eq k) ps) refl
    where
      by_case : (o : Option ℕ) → lookup (eq k) ps ≡ o → length (touched (eq k) ps) ≡ length ps
      by_case None none = ap length (touched_absent laws ps k none)
      by_case (Some slot) is = length_touched laws same ps k slot is

  -- a key was made the warmest
  pub keeps_touched : (objects : List (Option X)) (old new : Order K) (k : K) → Keeps eq key objects old → ((q : K) → slot_of eq new q ≡ slot_of eq old q) → new ≡ order (touched (eq k) old.pairs) old.capacity → Keeps eq key objects new
  keeps_touched objects old new k keeps finds is = keeps_moved objects old new keeps finds (ap (λ o. length o.pairs) is ∙ long_touched old.pairs k)

  -- two keys of one slot are one
  pub one_key : (objects : List (Option X)) (cache : Order K) (k q : K) (slot : ℕ) → Keeps eq key objects cache → slot_of eq cache k ≡ Some slot → slot_of eq cache q ≡ Some slot → k ≡ q
  one_key objects cache k q slot keeps here there =
      let a = keeps.there k slot here in
      let b = keeps.there q slot there in
      let both : Some k ≡ Some q = sym a ∙ b in
      cc

  -- the object of a cached key has another value
  pub keeps_set : (objects : List (Option X)) (cache : Order K) (k : K) (slot : ℕ) (x : X) → Keeps eq key objects cache → slot_of eq cache k ≡ Some slot → key x ≡ k → Keeps eq key (put objects slot x) cache
  keeps_set objects cache k slot x keeps is named =
      let used = keeps_used objects cache k slot keeps is in
      let now : key_at key (put objects slot x) slot ≡ Some k = ap (option_map key) (object-put objects slot x (InUse-within objects slot used)) ∙ ap Some named in
      let other = λ (s : ℕ) (differs : s ≢ slot). ap (option_map key) (object-put_other objects slot s x differs) in
      record {
        there = λ q s at. elim (cases_eq s slot) [
          | inl e ↦ ap (key_at key (put objects slot x)) e ∙ now ∙ ap Some (one_key objects cache k q slot keeps is (at ∙ ap Some e))
          | inr n ↦ other s n ∙ keeps.there q s at
        ];
        only = λ q s at. elim (cases_eq s slot) [
          | inl e ↦ let both : Some k ≡ Some q = sym now ∙ ap (key_at key (put objects slot x)) (sym e) ∙ at in let one : k ≡ q = cc in ap (slot_of eq cache) (sym one) ∙ is ∙ ap Some (sym e)
          | inr n ↦ keeps.only q s (sym (other s n) ∙ at)
        ];
        many = keeps.many ∙ sym (count-put_used objects slot x used);
      }

  -- an absent key was put, with an object at a slot that was free
  pub keeps_put : (objects : List (Option X)) (old new : Order K) (k : K) (slot : ℕ) (x : X) → Keeps eq key objects old → slot_of eq old k ≡ None → object objects slot ≡ None → slot < length objects → key x ≡ k → ((q : K) → slot_of eq new q ≡ cond (eq k q) (Some slot) (slot_of eq old q)) → length new.pairs ≡ length old.pairs + 1 → Keeps eq key (put objects slot x) new
  keeps_put objects old new k slot x keeps absent vacant within named finds long =
      let now : key_at key (put objects slot x) slot ≡ Some k = ap (option_map key) (object-put objects slot x within) ∙ ap Some named in
      let other = λ (s : ℕ) (differs : s ≢ slot). ap (option_map key) (object-put_other objects slot s x differs) in
      record {
        there = λ q s at. (elim (eq k q) as (λ y. eq k q ≡ y → cond y (Some slot) (slot_of eq old q) ≡ Some s → key_at key (put objects slot x) s ≡ Some q) [
          | true ↦ λ t e. let one : slot ≡ s = cc in ap (key_at key (put objects slot x)) (sym one) ∙ now ∙ ap Some (same k q t)
          | false ↦ λ t e. elim (cases_eq s slot) [
            | inl f ↦ let none : key_at key objects s ≡ None = ap (key_at key objects) f ∙ ap (option_map key) vacant in let some = keeps.there q s e in absurd (cc)
            | inr n ↦ other s n ∙ keeps.there q s e
          ]
        ]) refl (sym (finds q) ∙ at);
        only = λ q s at. elim (cases_eq s slot) [
          | inl f ↦ let both : Some k ≡ Some q = sym now ∙ ap (key_at key (put objects slot x)) (sym f) ∙ at in let one : k ≡ q = cc in finds q ∙ ap (λ b. cond b (Some slot) (slot_of eq old q)) (ap (eq k) (sym one) ∙ laws.refl k) ∙ ap Some (sym f)
          | inr n ↦ apart q s (keeps.only q s (sym (other s n) ∙ at))
        ];
        many = long ∙ ap (λ n. n + 1) keeps.many ∙ sym (count-put_new objects slot x within vacant);
      }
    where
      apart : (q : K) (s : ℕ) → slot_of eq old q ≡ Some s → slot_of eq new q ≡ Some s
      apart q s at = finds q ∙ (elim (eq k q) as (λ y. eq k q ≡ y → cond y (Some slot) (slot_of eq old q) ≡ Some s) [
        | true ↦ λ t. let none : slot_of eq old q ≡ None = ap (slot_of eq old) (sym (same k q t)) ∙ absent in cc
        | false ↦ λ t. at
      ]) refl

  -- a cached key was taken out, and its object freed
  pub keeps_dropped : (objects : List (Option X)) (old new : Order K) (k : K) (slot : ℕ) → Keeps eq key objects old → slot_of eq old k ≡ Some slot → ((q : K) → slot_of eq new q ≡ cond (eq k q) None (slot_of eq old q)) → length new.pairs + 1 ≡ length old.pairs → Keeps eq key (without objects slot) new
  keeps_dropped objects old new k slot keeps is finds long =
      let used = keeps_used objects old k slot keeps is in
      let gone : key_at key (without objects slot) slot ≡ None = ap (option_map key) (object-without objects slot (InUse-within objects slot used)) in
      let other = λ (s : ℕ) (differs : s ≢ slot). ap (option_map key) (object-without_other objects slot s differs) in
      let fewer : count (without objects slot) + 1 ≡ count objects = count-without objects slot used in
      let many = keeps.many in
      record {
        there = λ q s at. (elim (eq k q) as (λ y. eq k q ≡ y → cond y None (slot_of eq old q) ≡ Some s → key_at key (without objects slot) s ≡ Some q) [
          | true ↦ λ t e. cc
          | false ↦ λ t e. elim (cases_eq s slot) [
            | inl f ↦ let one : k ≡ q = one_key objects old k q slot keeps is (e ∙ ap Some f) in absurd (false≢true (sym t ∙ ap (eq k) (sym one) ∙ laws.refl k))
            | inr n ↦ other s n ∙ keeps.there q s e
          ]
        ]) refl (sym (finds q) ∙ at);
        only = λ q s at. elim (cases_eq s slot) [
          | inl f ↦ let none : key_at key (without objects slot) s ≡ None = ap (key_at key (without objects slot)) f ∙ gone in absurd (cc)
          | inr n ↦ still q s n (keeps.only q s (sym (other s n) ∙ at))
        ];
        many = omega arith;
      }
    where
      still : (q : K) (s : ℕ) → s ≢ slot → slot_of eq old q ≡ Some s → slot_of eq new q ≡ Some s
      still q s n at = finds q ∙ (elim (eq k q) as (λ y. eq k q ≡ y → cond y None (slot_of eq old q) ≡ Some s) [
        | true ↦ λ t. let here : slot_of eq old q ≡ Some slot = ap (slot_of eq old) (sym (same k q t)) ∙ is in let one : s ≡ slot = cc in absurd (n one)
        | false ↦ λ t. at
      ]) refl

  -- to take an absent key out changes nothing
  pub absent_found : (cache : Order K) (k : K) → slot_of eq cache k ≡ None → (q : K) → slot_of eq cache q ≡ cond (eq k q) None (slot_of eq cache q)
  absent_found cache k none q = (elim (eq k q) as (λ y. eq k q ≡ y → slot_of eq cache q ≡ cond y None (slot_of eq cache q)) [
    | true ↦ λ t. ap (slot_of eq cache) (sym (same k q t)) ∙ none
    | false ↦ λ t. refl
  ]) refl

  -- the coldest key and its slot are the first pair, and the others are what is left without it
  pub coldest_pair : (ps : List (K × ℕ)) (k : K) (slot : ℕ) → first_key ps ≡ Some k → lookup (eq k) ps ≡ Some slot → ps ≡ (k, slot) ∷ remove_entry (eq k) ps
  coldest_pair [] k slot first is = cc
  coldest_pair (p ∷ ps) k slot first is =
      let one : p.0 ≡ k = cc in
      let test : eq k p.0 ≡ true = ap (eq k) one ∙ laws.refl k in
      let at : Some p.1 ≡ Some slot = sym (ap (λ b. cond b (Some p.1) (lookup (eq k) ps)) test) ∙ is in
      let here : p.1 ≡ slot = cc in
      (λ i. (one i, here i) ∷ ps) ∙ ap (λ b. (k, slot) ∷ cond b ps (p ∷ remove_entry (eq k) ps)) (sym test)

  -- taking an absent key out changes nothing
  pub removed_absent : (ps : List (K × ℕ)) (k : K) → lookup (eq k) ps ≡ None → remove_entry (eq k) ps ≡ ps
  removed_absent [] k none = refl
  removed_absent (p ∷ ps) k none = (elim (eq k p.0) as (λ y. cond y (Some p.1) (lookup (eq k) ps) ≡ None → cond y ps (p ∷ remove_entry (eq k) ps) ≡ p ∷ ps) [
    | true ↦ λ n. cc
    | false ↦ λ n. ap (λ l. p ∷ l) (removed_absent ps k n)
  ]) none

  -- one pair is gone where a key was taken out
  pub long_removed : (ps : List (K × ℕ)) (k : K) (slot : ℕ) → lookup (eq k) ps ≡ Some slot → length (remove_entry (eq k) ps) + 1 ≡ length ps
  long_removed ps k slot is = let e : suc (length (remove_entry (eq k) ps)) ≡ length ps = length_removed (eq k) ps (rw is refl) in omega arith

  -- what is cached under a key is what its object has
  pub cached_is : {V : Type 0} (value : X → V) (objects : List (Option X)) (cache : Order K) (k : K) (slot : ℕ) (x : X) → slot_of eq cache k ≡ Some slot → object objects slot ≡ Some x → cached eq value objects cache k ≡ Some (value x)
  cached_is value objects cache k slot x is at = ap (option_and_then (λ s. option_map value (object objects s))) is ∙ ap (option_map value) at

  pub cached_none : {V : Type 0} (value : X → V) (objects : List (Option X)) (cache : Order K) (k : K) → slot_of eq cache k ≡ None → cached eq value objects cache k ≡ None
  cached_none value objects cache k none = ap (option_and_then (λ s. option_map value (object objects s))) none

-- where one is left, nothing has to go before a fill
pub first_none : (left : ℕ) (fills : List ℕ) → left ≢ 0 → first_fill left fills ≡ None
first_none zero fills some = absurd (some refl)
first_none (suc left) fills some = refl

pub fills_all : (left : ℕ) (fills : List ℕ) → left ≢ 0 → fills_kept left fills ≡ fills
fills_all zero fills some = absurd (some refl)
fills_all (suc left) fills some = refl

pub left_all : (left : ℕ) → left ≢ 0 → left_kept left ≡ left
left_all zero some = absurd (some refl)
left_all (suc left) some = refl

module _ {X : Type 0} (IsTrueOf : X → Type 0) where
  -- objects stay true where one that is true is put at a slot, or none
  true_set : (objects : List (Option X)) (slot : ℕ) (o : Option X) → ((x : X) → o ≡ Some x → IsTrueOf x) → AreTrue IsTrueOf objects → AreTrue IsTrueOf (slice_set objects slot o)
  true_set objects slot o is are s y at = elim (cases_eq s slot) [
    | inl e ↦ elim (cases_lt slot (length objects)) [
      | inl lt ↦ is y (sym (get_or-set_same objects slot o None lt) ∙ ap (object (slice_set objects slot o)) (sym e) ∙ at)
      | inr le ↦ are s y (ap (λ l. object l s) (sym (set_past objects slot o le)) ∙ at)
    ]
    | inr n ↦ are s y (sym (get_or-set_other objects slot s o None n) ∙ at)
  ]

  pub true_put : (objects : List (Option X)) (slot : ℕ) (x : X) → IsTrueOf x → AreTrue IsTrueOf objects → AreTrue IsTrueOf (put objects slot x)
  true_put objects slot x is are = true_set objects slot (Some x) (λ y e. let one : x ≡ y = cc in subst IsTrueOf one is) are

  pub true_without : (objects : List (Option X)) (slot : ℕ) → AreTrue IsTrueOf objects → AreTrue IsTrueOf (without objects slot)
  true_without objects slot are = true_set objects slot None (λ y e. cc) are

  pub true_kept : (slot : Option ℕ) (objects : List (Option X)) → AreTrue IsTrueOf objects → AreTrue IsTrueOf (objects_kept slot objects)
  true_kept None objects are = are
  true_kept (Some slot) objects are = true_without objects slot are

-- an empty cache keeps the objects of a class that has none
pub keeps_none : {K X : Type 0} (eq : K → K → Bool) (key : X → K) (limit capacity : ℕ) (objects : List (Option X)) → objects ≡ replicate limit None → Keeps eq key objects (order [] capacity)
keeps_none {K} {X} eq key limit capacity objects empty = record {
  there = λ k slot is. cc;
  only = λ k slot at. by_object k slot (object objects slot) refl at;
  many = sym (count-none objects limit empty);
}
  where
    by_object : (k : K) (slot : ℕ) (o : Option X) → object objects slot ≡ o → option_map key (object objects slot) ≡ Some k → slot_of eq (order [] capacity) k ≡ Some slot
    by_object k slot None none at = let gone : option_map key (object objects slot) ≡ None = ap (option_map key) none in cc
    by_object k slot (Some x) some at = absurd (object-none limit slot x (ap (λ l. object l slot) (sym empty) ∙ some))

module _ {X : Type 0} where
  -- the first of some slots goes, and then the others
  pub objects_step : (slots : List ℕ) (objects : List (Option X)) → 0 < length slots → objects_without (remove slots 0) (without objects (slice_index_or slots 0 0)) ≡ objects_without slots objects
  objects_step [] objects some = absurd (omega arith)
  objects_step (slot ∷ slots) objects some = refl

pub pairs_step : {K X : Type 0} (eq : K → K → Bool) (key : X → K) (slots : List ℕ) (objects : List (Option X)) (pairs : List (K × ℕ)) → 0 < length slots → pairs_without eq key (remove slots 0) (without objects (slice_index_or slots 0 0)) (pairs_kept eq key objects (Some (slice_index_or slots 0 0)) pairs) ≡ pairs_without eq key slots objects pairs
pairs_step eq key [] objects pairs some = absurd (omega arith)
pairs_step eq key (slot ∷ slots) objects pairs some = refl

-- the pair of a key that is kept at the slot of an object
pub pairs_kept_is : {K X : Type 0} (eq : K → K → Bool) (key : X → K) (objects : List (Option X)) (slot : ℕ) (k : K) (pairs : List (K × ℕ)) → key_at key objects slot ≡ Some k → pairs_kept eq key objects (Some slot) pairs ≡ remove_entry (eq k) pairs
pairs_kept_is eq key objects slot k pairs is = ap (λ o. option_map_or (λ q. remove_entry (eq q) pairs) o pairs) is

-- a slot that stands at no place is none of them
pub at_none : (slots : List ℕ) (slot : ℕ) → ((at : ℕ) → IsAt slots slot at → ⊥) → Contains slots slot → ⊥
at_none slots slot none there = none there.0 (there.1, get_or_default slots there.0 0 slot there.1 ∙ there.2)

pub none_either : {X : Type 0} (b : Bool) → cond {A = Option X} b None None ≡ None
none_either true = refl
none_either false = refl
