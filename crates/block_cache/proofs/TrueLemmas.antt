-- A cache of blocks that is true to the disk.
use Rattle.std.proofs.Common.{◌≡◌, ◌≢◌, ℕ, zero, suc, ◌+◌, ◌-◌, ◌<◌, ◌≤◌, List, length, Option, Some, None, nat_eq, eqb-true, refl, sym, ap, ◌∙◌, subst, inl, inr, arith}
use Rattle.std.specs.Prelude.{slice_get, slice_set}
use Rattle.std.specs.Option.{option_map, option_and_then}
use Rattle.std.specs.Cmp.{nat_eq_equiv}
use Rattle.std.proofs.lemmas.Bool.{cases_eq, cases_lt}
use Rattle.std.proofs.lemmas.List.{get_or-set_same, get_or-set_other, length-set}
use Rattle.std.proofs.lemmas.Option.{slice_get-get_or, slice_get_past}
use Rattle.kabi_types.specs.declared.classes.Class.TheVariants as class
use Rattle.kheap_slabs.specs.Objects.{object, count, put}
use Rattle.kheap_slabs.specs.Purse.{Purse}
use Rattle.kheap_slabs.specs.declared.objects.Block.{Block}
use Rattle.kheap_slabs.proofs.ObjectLemmas.{object-put, object-put_other, InUse-within}
use Rattle.kheap_slabs.specs.Heap.{Heap}
use Rattle.kheap_slabs.specs.Paid.{IsPaid}
use Rattle.lru_index.specs.Order.{Order}
use Rattle.cache_laws.specs.Caches.{AreTrue, left_kept}
use Rattle.cache_laws.proofs.KeepsLemmas.{keeps_used, true_put, true_kept}
use Rattle.block_cache.specs.Blocks.{block, block_slot, cached_block, KeepsBlocks, TrueToDisk, BlockFilled, block_dropped}

written_there : (disk : List (List ℕ)) (number : ℕ) (bytes : List ℕ) → number < length disk → slice_get (slice_set disk number bytes) number ≡ Some bytes
written_there disk number bytes within =
    slice_get-get_or (slice_set disk number bytes) number bytes (rw length-set within) ∙ ap Some (get_or-set_same disk number bytes bytes within)

written_elsewhere : (disk : List (List ℕ)) (number other : ℕ) (bytes : List ℕ) → other ≢ number → slice_get (slice_set disk number bytes) other ≡ slice_get disk other
written_elsewhere disk number other bytes differs = elim (cases_lt other (length disk)) [
  | inl lt ↦ slice_get-get_or (slice_set disk number bytes) other bytes (rw length-set lt) ∙ ap Some (get_or-set_other disk number other bytes bytes differs) ∙ sym (slice_get-get_or disk other bytes lt)
  | inr le ↦ slice_get_past (slice_set disk number bytes) other (rw length-set le) ∙ sym (slice_get_past disk other le)
]

pub read_true : (disk : List (List ℕ)) (objects : List (Option Block)) (cache : Order ℕ) (number : ℕ) (bytes : List ℕ) → TrueToDisk disk objects → KeepsBlocks objects cache → cached_block objects cache number ≡ Some bytes → slice_get disk number ≡ Some bytes
read_true disk objects cache number bytes are keeps is = by_slot (block_slot cache number) refl
  where
    by_object : (slot : ℕ) → block_slot cache number ≡ Some slot → (o : Option Block) → object objects slot ≡ o → slice_get disk number ≡ Some bytes
    by_object slot at None none =
        let here : cached_block objects cache number ≡ None = ap (option_and_then (λ s. option_map (λ b. b.bytes) (object objects s))) at ∙ ap (option_map (λ b. b.bytes)) none in
        cc
    by_object slot at (Some b) some =
        let has : cached_block objects cache number ≡ Some b.bytes = ap (option_and_then (λ s. option_map (λ b. b.bytes) (object objects s))) at ∙ ap (option_map (λ b. b.bytes)) some in
        let same_bytes : b.bytes ≡ bytes = cc in
        let named : Some b.number ≡ Some number = sym (ap (option_map (λ b. b.number)) some) ∙ keeps.there number slot at in
        let same_number : b.number ≡ number = cc in
        ap (slice_get disk) (sym same_number) ∙ are slot b some ∙ ap Some same_bytes

    by_slot : (o : Option ℕ) → block_slot cache number ≡ o → slice_get disk number ≡ Some bytes
    by_slot None none =
        let here : cached_block objects cache number ≡ None = ap (option_and_then (λ s. option_map (λ b. b.bytes) (object objects s))) none in
        cc
    by_slot (Some slot) at = by_object slot at (object objects slot) refl

pub written_true : (disk : List (List ℕ)) (objects : List (Option Block)) (cache : Order ℕ) (number : ℕ) (bytes : List ℕ) (slot : ℕ) → TrueToDisk disk objects → KeepsBlocks objects cache → number < length disk → block_slot cache number ≡ Some slot → TrueToDisk (slice_set disk number bytes) (put objects slot (block number bytes))
written_true disk objects cache number bytes slot are keeps within at s y there = elim (cases_eq s slot) [
  | inl e ↦
      let used = keeps_used nat_eq_equiv eqb-true (λ (b : Block). b.number) objects cache number slot keeps at in
      let both : Some (block number bytes) ≡ Some y = sym (object-put objects slot (block number bytes) (InUse-within objects slot used)) ∙ ap (object (put objects slot (block number bytes))) (sym e) ∙ there in
      let one : block number bytes ≡ y = cc in
      subst (λ b. slice_get (slice_set disk number bytes) b.number ≡ Some b.bytes) one (written_there disk number bytes within)
  | inr n ↦
      let here : object objects s ≡ Some y = sym (object-put_other objects slot s (block number bytes) n) ∙ there in
      let differs : y.number ≢ number = λ f. let other : block_slot cache number ≡ Some s = keeps.only number s (ap (option_map (λ b. b.number)) here ∙ ap Some f) in let one : s ≡ slot = cc in n one in
      written_elsewhere disk number y.number bytes differs ∙ are s y here
]

pub absent_true : (disk : List (List ℕ)) (objects : List (Option Block)) (cache : Order ℕ) (number : ℕ) (bytes : List ℕ) → TrueToDisk disk objects → KeepsBlocks objects cache → block_slot cache number ≡ None → TrueToDisk (slice_set disk number bytes) objects
absent_true disk objects cache number bytes are keeps none s y here =
    let differs : y.number ≢ number = λ f. let other : block_slot cache number ≡ Some s = keeps.only number s (ap (option_map (λ b. b.number)) here ∙ ap Some f) in cc in
    written_elsewhere disk number y.number bytes differs ∙ are s y here

pub filled_true : (disk : List (List ℕ)) (made : Block) (old new : Heap) (before after : Purse) (had has : Order ℕ) → TrueToDisk disk old.blocks → slice_get disk made.number ≡ Some made.bytes → BlockFilled made old new before after had has → TrueToDisk disk new.blocks
filled_true disk made old new before after had has are is filled =
    let P = λ (b : Block). slice_get disk b.number ≡ Some b.bytes in
    let between = subst (λ h. TrueToDisk disk h.blocks) (sym filled.room.heap) (true_kept P (block_dropped before) old.blocks are) in
    subst (λ h. TrueToDisk disk h.blocks) (sym filled.added.heap) (true_put P filled.between.blocks filled.slot made is between)

left_is : (made : Block) (old new : Heap) (before after : Purse) (had has : Order ℕ) → BlockFilled made old new before after had has → after.left.block ≡ left_kept before.left.block - 1
left_is made old new before after had has filled = ap (λ p. p.left.block) filled.added.purse ∙ ap (λ p. p.left.block - 1) filled.room.purse

one_more : (left had has after : ℕ) → after ≡ left_kept left - 1 → has + after ≤ had + left → has ≤ had + 1
one_more zero had has after e paid = omega arith
one_more (suc left) had has after e paid = omega arith

none_more : (left had has after : ℕ) → after ≡ left_kept left - 1 → has + after ≤ had + left → left ≡ 0 → has ≤ had
none_more zero had has after e paid none = omega arith
none_more (suc left) had has after e paid none = omega arith

pub adds_one : (made : Block) (old new : Heap) (before after : Purse) (had has : Order ℕ) → BlockFilled made old new before after had has → IsPaid old before new after → count new.blocks ≤ count old.blocks + 1
adds_one made old new before after had has filled paid = one_more before.left.block (count old.blocks) (count new.blocks) after.left.block (left_is made old new before after had has filled) (paid.counts class.Block)

pub adds_none : (made : Block) (old new : Heap) (before after : Purse) (had has : Order ℕ) → BlockFilled made old new before after had has → IsPaid old before new after → before.left.block ≡ 0 → count new.blocks ≤ count old.blocks
adds_none made old new before after had has filled paid none = none_more before.left.block (count old.blocks) (count new.blocks) after.left.block (left_is made old new before after had has filled) (paid.counts class.Block) none
