-- A cache of names that is true to the directories.
use Rattle.std.proofs.Common.{◌≡◌, ◌≢◌, ℕ, zero, suc, ◌+◌, ◌-◌, ◌≤◌, List, length, take, Option, Some, None, IsSome, refl, sym, ap, ◌∙◌, subst, inl, inr, arith}
use Rattle.std.specs.Option.{option_map, option_and_then}
use Rattle.std.proofs.lemmas.Bool.{cases_eq}
use Rattle.kabi_types.specs.declared.classes.Class.TheVariants as class
use Rattle.kheap_slabs.specs.Objects.{object, count, put}
use Rattle.kheap_slabs.specs.Purse.{Purse}
use Rattle.kheap_slabs.specs.declared.objects.Name.{Name}
use Rattle.kheap_slabs.proofs.ObjectLemmas.{object-put, object-put_other, InUse-within}
use Rattle.kheap_slabs.specs.Heap.{Heap}
use Rattle.kheap_slabs.specs.Paid.{IsPaid}
use Rattle.lru_index.specs.Order.{Order}
use Rattle.lru_index.specs.declared.keys.NameKey.{NameKey}
use Rattle.cache_laws.specs.Caches.{left_kept}
use Rattle.cache_laws.proofs.KeepsLemmas.{true_put, true_kept}
use Rattle.name_cache.specs.Names.{key_of, name_slot, cached_node, KeepsNames, TrueNames, AgreesElsewhere, NameFilled, name_dropped}
use Rattle.name_cache.proofs.KeyLemmas.{name_read}

pub found_true : (found : ℕ → List ℕ → Option ℕ) (objects : List (Option Name)) (cache : Order NameKey) (key : NameKey) (node : ℕ) → TrueNames found objects → KeepsNames objects cache → cached_node objects cache key ≡ Some node → found key.dir (take key.len key.name) ≡ Some node
found_true found objects cache key node are keeps is = by_slot (name_slot cache key) refl
  where
    by_object : (slot : ℕ) → name_slot cache key ≡ Some slot → (o : Option Name) → object objects slot ≡ o → found key.dir (take key.len key.name) ≡ Some node
    by_object slot at None none =
        let here : cached_node objects cache key ≡ None = ap (option_and_then (λ s. option_map (λ n. n.node) (object objects s))) at ∙ ap (option_map (λ n. n.node)) none in
        cc
    by_object slot at (Some n) some =
        let has : cached_node objects cache key ≡ Some n.node = ap (option_and_then (λ s. option_map (λ n. n.node) (object objects s))) at ∙ ap (option_map (λ n. n.node)) some in
        let same_node : n.node ≡ node = cc in
        let named : Some (key_of n) ≡ Some key = sym (ap (option_map key_of) some) ∙ keeps.there key slot at in
        let same_key : key_of n ≡ key = cc in
        ap (λ k. found k.dir (take k.len k.name)) (sym same_key) ∙ ap (found n.dir) (name_read n.name) ∙ are slot n some ∙ ap Some same_node

    by_slot : (o : Option ℕ) → name_slot cache key ≡ o → found key.dir (take key.len key.name) ≡ Some node
    by_slot None none =
        let here : cached_node objects cache key ≡ None = ap (option_and_then (λ s. option_map (λ n. n.node) (object objects s))) none in
        cc
    by_slot (Some slot) at = by_object slot at (object objects slot) refl

pub told_true : (found next : ℕ → List ℕ → Option ℕ) (objects : List (Option Name)) (cache : Order NameKey) (key : NameKey) (slot : ℕ) (was : Name) (node : ℕ) → TrueNames found objects → KeepsNames objects cache → AgreesElsewhere key found next → name_slot cache key ≡ Some slot → object objects slot ≡ Some was → next was.dir was.name ≡ Some node → TrueNames next (put objects slot (record was { node = node }))
told_true found next objects cache key slot was node are keeps agrees at here is s y there = elim (cases_eq s slot) [
  | inl e ↦
      let both : Some made ≡ Some y = sym (object-put objects slot made (InUse-within objects slot (subst IsSome (sym here) refl))) ∙ ap (object (put objects slot made)) (sym e) ∙ there in
      let one : made ≡ y = cc in
      subst (λ n. next n.dir n.name ≡ Some n.node) one is
  | inr n ↦
      let old : object objects s ≡ Some y = sym (object-put_other objects slot s made n) ∙ there in
      let differs : key_of y ≢ key = λ f. let other : name_slot cache key ≡ Some s = keeps.only key s (ap (option_map key_of) old ∙ ap Some f) in let one : s ≡ slot = cc in n one in
      agrees y.dir y.name differs ∙ are s y old
]
  where
    made : Name
    made = record was { node = node }

pub absent_true : (found next : ℕ → List ℕ → Option ℕ) (objects : List (Option Name)) (cache : Order NameKey) (key : NameKey) → TrueNames found objects → KeepsNames objects cache → AgreesElsewhere key found next → name_slot cache key ≡ None → TrueNames next objects
absent_true found next objects cache key are keeps agrees none s y here =
    let differs : key_of y ≢ key = λ f. let other : name_slot cache key ≡ Some s = keeps.only key s (ap (option_map key_of) here ∙ ap Some f) in cc in
    agrees y.dir y.name differs ∙ are s y here

pub filled_true : (found : ℕ → List ℕ → Option ℕ) (made : Name) (old new : Heap) (before after : Purse) (had has : Order NameKey) → TrueNames found old.names → found made.dir made.name ≡ Some made.node → NameFilled made old new before after had has → TrueNames found new.names
filled_true found made old new before after had has are is filled =
    let P = λ (n : Name). found n.dir n.name ≡ Some n.node in
    let between = subst (λ h. TrueNames found h.names) (sym filled.room.heap) (true_kept P (name_dropped before) old.names are) in
    subst (λ h. TrueNames found h.names) (sym filled.added.heap) (true_put P filled.between.names filled.slot made is between)

left_is : (made : Name) (old new : Heap) (before after : Purse) (had has : Order NameKey) → NameFilled made old new before after had has → after.left.name ≡ left_kept before.left.name - 1
left_is made old new before after had has filled = ap (λ p. p.left.name) filled.added.purse ∙ ap (λ p. p.left.name - 1) filled.room.purse

one_more : (left had has after : ℕ) → after ≡ left_kept left - 1 → has + after ≤ had + left → has ≤ had + 1
one_more zero had has after e paid = omega arith
one_more (suc left) had has after e paid = omega arith

none_more : (left had has after : ℕ) → after ≡ left_kept left - 1 → has + after ≤ had + left → left ≡ 0 → has ≤ had
none_more zero had has after e paid none = omega arith
none_more (suc left) had has after e paid none = omega arith

pub adds_one : (made : Name) (old new : Heap) (before after : Purse) (had has : Order NameKey) → NameFilled made old new before after had has → IsPaid old before new after → count new.names ≤ count old.names + 1
adds_one made old new before after had has filled paid = one_more before.left.name (count old.names) (count new.names) after.left.name (left_is made old new before after had has filled) (paid.counts class.Name)

pub adds_none : (made : Name) (old new : Heap) (before after : Purse) (had has : Order NameKey) → NameFilled made old new before after had has → IsPaid old before new after → before.left.name ≡ 0 → count new.names ≤ count old.names
adds_none made old new before after had has filled paid none = none_more before.left.name (count old.names) (count new.names) after.left.name (left_is made old new before after had has filled) (paid.counts class.Name) none
