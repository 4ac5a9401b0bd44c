-- A cache of inodes that is true to the table of nodes, and what a fill adds.
use Rattle.std.proofs.Common.{◌≡◌, ◌≢◌, ℕ, zero, suc, ◌+◌, ◌-◌, ◌<◌, ◌≤◌, List, [], replicate, Option, Some, None, IsSome, nat_eq, refl, sym, ap, ◌∙◌, subst, inl, inr, arith}
use Rattle.std.specs.Option.{option_map, option_and_then}
use Rattle.std.proofs.lemmas.Bool.{cases_eq}
use Rattle.kabi_types.specs.declared.classes.Class.TheVariants as class
use Rattle.kabi_types.specs.declared.inodes.Inode.{Inode}
use Rattle.kheap_slabs.specs.Objects.{object, count, put}
use Rattle.kheap_slabs.specs.Purse.{Purse}
use Rattle.kheap_slabs.specs.declared.objects.Vnode.{Vnode}
use Rattle.kheap_slabs.proofs.ObjectLemmas.{object-put, object-put_other, InUse-within}
use Rattle.kheap_slabs.specs.Heap.{Heap}
use Rattle.kheap_slabs.specs.Paid.{IsPaid}
use Rattle.cache_laws.specs.Caches.{left_kept}
use Rattle.cache_laws.proofs.KeepsLemmas.{keeps_none, true_put, true_without}
use Rattle.vnode_cache.specs.Nodes.{Nodes, nodes, node_slot, cached_inode, KeepsNodes, TrueNodes}
use Rattle.vnode_cache.specs.Calls.{NodeFilled, AreSteps, taken_off, last_of}
use Rattle.vnode_cache.proofs.HeldLemmas.{held_through}
use Rattle.vnode_cache.proofs.LooseLemmas.{loose_empty}

pub held_cached : (number : ℕ) (first : List (Option Vnode)) (steps : List (ℕ × List (Option Vnode))) (cache : Nodes) (slot : ℕ) (v : Vnode) → AreSteps number first steps → object first slot ≡ Some v → v.number ≡ number → taken_off steps < v.pins → KeepsNodes (last_of first steps) cache → (node_slot cache number ≡ Some slot) × (w : Vnode) × (object (last_of first steps) slot ≡ Some w) × (w.number ≡ number) × (v.pins ≤ w.pins + taken_off steps)
held_cached number first steps cache slot v are at is some keeps =
    let w = held_through number first steps are slot v at is some in
    (keeps.kept.only number slot (ap (option_map (λ x. x.number)) w.1 ∙ ap Some w.2), w.0, w.1, w.2, w.3)

-- nothing is cached at boot
pub boot_keeps : (limit capacity : ℕ) → KeepsNodes (replicate limit None) (nodes [] capacity 0)
boot_keeps limit capacity = record {
  kept = keeps_none nat_eq (λ v. v.number) limit capacity (replicate limit None) refl;
  loose = sym (loose_empty (replicate limit None) limit refl);
}

pub read_true : (HasNode : ℕ → Inode → Type 0) (objects : List (Option Vnode)) (cache : Nodes) (number : ℕ) (inode : Inode) → TrueNodes HasNode objects → KeepsNodes objects cache → cached_inode objects cache number ≡ Some inode → HasNode number inode
read_true HasNode objects cache number inode are keeps is = by_slot (node_slot cache number) refl
  where
    by_object : (slot : ℕ) → node_slot cache number ≡ Some slot → (o : Option Vnode) → object objects slot ≡ o → HasNode number inode
    by_object slot at None none =
        let here : cached_inode objects cache number ≡ None = ap (option_and_then (λ s. option_map (λ v. v.inode) (object objects s))) at ∙ ap (option_map (λ v. v.inode)) none in
        cc
    by_object slot at (Some v) some =
        let has : cached_inode objects cache number ≡ Some v.inode = ap (option_and_then (λ s. option_map (λ v. v.inode) (object objects s))) at ∙ ap (option_map (λ v. v.inode)) some in
        let same_inode : v.inode ≡ inode = cc in
        let named : Some v.number ≡ Some number = sym (ap (option_map (λ v. v.number)) some) ∙ keeps.kept.there number slot at in
        let same_number : v.number ≡ number = cc in
        subst (λ n. HasNode n inode) same_number (subst (HasNode v.number) same_inode (are slot v some))

    by_slot : (o : Option ℕ) → node_slot cache number ≡ o → HasNode number inode
    by_slot None none =
        let here : cached_inode objects cache number ≡ None = ap (option_and_then (λ s. option_map (λ v. v.inode) (object objects s))) none in
        cc
    by_slot (Some slot) at = by_object slot at (object objects slot) refl

pub told_true : (HasNode HasNext : ℕ → Inode → Type 0) (objects : List (Option Vnode)) (cache : Nodes) (number slot : ℕ) (was : Vnode) (inode : Inode) → TrueNodes HasNode objects → KeepsNodes objects cache → ((other : ℕ) (x : Inode) → (other ≡ number → ⊥) → HasNode other x → HasNext other x) → node_slot cache number ≡ Some slot → object objects slot ≡ Some was → HasNext number inode → TrueNodes HasNext (put objects slot (record was { inode = inode }))
told_true HasNode HasNext objects cache number slot was inode are keeps agrees at here is s y there = elim (cases_eq s slot) [
  | inl e ↦
      let both : Some made ≡ Some y = sym (object-put objects slot made (InUse-within objects slot (subst IsSome (sym here) refl))) ∙ ap (object (put objects slot made)) (sym e) ∙ there in
      let one : made ≡ y = cc in
      let named : Some was.number ≡ Some number = sym (ap (option_map (λ v. v.number)) here) ∙ keeps.kept.there number slot at in
      let same_number : was.number ≡ number = cc in
      subst (λ v. HasNext v.number v.inode) one (subst (λ n. HasNext n inode) (sym same_number) is)
  | inr n ↦
      let old : object objects s ≡ Some y = sym (object-put_other objects slot s made n) ∙ there in
      let differs : y.number ≢ number = λ f. let other : node_slot cache number ≡ Some s = keeps.kept.only number s (ap (option_map (λ v. v.number)) old ∙ ap Some f) in let one : s ≡ slot = cc in n one in
      agrees y.number y.inode differs (are s y old)
]
  where
    made : Vnode
    made = record was { inode = inode }

pub absent_true : (HasNode HasNext : ℕ → Inode → Type 0) (objects : List (Option Vnode)) (cache : Nodes) (number : ℕ) → TrueNodes HasNode objects → KeepsNodes objects cache → ((other : ℕ) (x : Inode) → (other ≡ number → ⊥) → HasNode other x → HasNext other x) → node_slot cache number ≡ None → TrueNodes HasNext objects
absent_true HasNode HasNext objects cache number are keeps agrees none s y here =
    let differs : y.number ≢ number = λ f. let other : node_slot cache number ≡ Some s = keeps.kept.only number s (ap (option_map (λ v. v.number)) here ∙ ap Some f) in cc in
    agrees y.number y.inode differs (are s y here)

pub pinned_true : (HasNode : ℕ → Inode → Type 0) (objects : List (Option Vnode)) (slot : ℕ) (was : Vnode) (pins : ℕ) → TrueNodes HasNode objects → object objects slot ≡ Some was → TrueNodes HasNode (put objects slot (record was { pins = pins }))
pinned_true HasNode objects slot was pins are here = true_put (λ v. HasNode v.number v.inode) objects slot (record was { pins = pins }) (are slot was here) are

pub filled_true : (HasNode : ℕ → Inode → Type 0) (made : Vnode) (old new : Heap) (before after : Purse) (had has : Nodes) → TrueNodes HasNode old.vnodes → HasNode made.number made.inode → NodeFilled made old new before after had has → TrueNodes HasNode new.vnodes
filled_true HasNode made old new before after had has are is filled =
    subst (λ h. TrueNodes HasNode h.vnodes) (sym filled.added.heap) (true_put (λ v. HasNode v.number v.inode) filled.between.vnodes filled.slot made is (between before.left.vnode refl))
  where
    between : (left : ℕ) → before.left.vnode ≡ left → TrueNodes HasNode filled.between.vnodes
    between zero none = subst (λ h. TrueNodes HasNode h.vnodes) (sym (filled.room.none none).2.heap) (true_without (λ v. HasNode v.number v.inode) old.vnodes _ are)
    between (suc left) some = subst (λ h. TrueNodes HasNode h.vnodes) (sym (filled.room.enough (λ e. omega arith)).0.heap) are

left_is : (made : Vnode) (old new : Heap) (before after : Purse) (had has : Nodes) → NodeFilled made old new before after had has → after.left.vnode ≡ left_kept before.left.vnode - 1
left_is made old new before after had has filled = ap (λ p. p.left.vnode) filled.added.purse ∙ ap (λ n. n - 1) (room before.left.vnode refl)
  where
    room : (left : ℕ) → before.left.vnode ≡ left → filled.purse.left.vnode ≡ left_kept before.left.vnode
    room zero none = ap (λ p. p.left.vnode) (filled.room.none none).2.purse ∙ ap (λ n. n + 1) none ∙ ap left_kept (sym none)
    room (suc left) some = ap (λ p. p.left.vnode) (filled.room.enough (λ e. omega arith)).1 ∙ some ∙ ap left_kept (sym some)

one_more : (left had has after : ℕ) → after ≡ left_kept left - 1 → has + after ≤ had + left → has ≤ had + 1
one_more zero had has after e paid = omega arith
one_more (suc left) had has after e paid = omega arith

none_more : (left had has after : ℕ) → after ≡ left_kept left - 1 → has + after ≤ had + left → left ≡ 0 → has ≤ had
none_more zero had has after e paid none = omega arith
none_more (suc left) had has after e paid none = omega arith

pub adds_one : (made : Vnode) (old new : Heap) (before after : Purse) (had has : Nodes) → NodeFilled made old new before after had has → IsPaid old before new after → count new.vnodes ≤ count old.vnodes + 1
adds_one made old new before after had has filled paid = one_more before.left.vnode (count old.vnodes) (count new.vnodes) after.left.vnode (left_is made old new before after had has filled) (paid.counts class.Vnode)

pub adds_none : (made : Vnode) (old new : Heap) (before after : Purse) (had has : Nodes) → NodeFilled made old new before after had has → IsPaid old before new after → before.left.vnode ≡ 0 → count new.vnodes ≤ count old.vnodes
adds_none made old new before after had has filled paid none = none_more before.left.vnode (count old.vnodes) (count new.vnodes) after.left.vnode (left_is made old new before after had has filled) (paid.counts class.Vnode) none
