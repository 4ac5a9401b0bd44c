-- What is lent stays so where a block is filled, and where one is written.
use Rattle.std.proofs.Common.{◌≡◌, ℕ, zero, suc, ◌+◌, ◌-◌, ◌*◌, ◌/◌, ◌<◌, ◌≤◌, List, [], ◌∷◌, ◌++◌, length, min, Option, Some, None, IsSome, nat_eq, eqb-true, refl, sym, ap, ◌∙◌, subst, inl, inr, arith, length-append, length-set}
use Rattle.std.specs.Prelude.{slice_get, slice_set, remove, MatchOption}
use Rattle.std.specs.Cmp.{nat_eq_equiv}
use Rattle.std.specs.Option.{option_map}
use Rattle.std.proofs.lemmas.Bool.{cases_lt}
use Rattle.std.proofs.lemmas.List.Edits.{length-remove}
use Rattle.std.proofs.lemmas.Option.{slice_get_past}
use Rattle.kabi_types.specs.Class.{size}
use Rattle.kabi_types.specs.declared.classes.Class.TheVariants as class
use Rattle.kheap_slabs.specs.Objects.{object, InUse, count, put}
use Rattle.kabi_types.specs.Counts.{need_bytes}
use Rattle.kheap_slabs.specs.Purse.{Purse, left_bytes}
use Rattle.kheap_slabs.specs.declared.objects.Block.{Block}
use Rattle.kheap_slabs.specs.Heap.{Heap, live_bytes}
use Rattle.kheap_slabs.specs.Paid.{CanPay, IsPaid, TakesNothing}
use Rattle.kheap_laws.proofs.PaidLemmas.{CanPay-kept, IsPaid-nothing}
use Rattle.kheap_laws.proofs.FillLemmas.{AreFills-kept}
use Rattle.kheap_slabs.proofs.ObjectLemmas.{object_of}
use Rattle.cache_laws.proofs.KeepsLemmas.{keeps_used, cached_is}
use Rattle.cache_laws.specs.Caches.{fills_kept, left_kept}
use Rattle.lru_index.specs.Order.{Order, order, touched}
use Rattle.lru_index.proofs.Pairs.{touched_absent}
use Rattle.block_cache.specs.Blocks.{block, block_slot, cached_block, KeepsBlocks, TrueToDisk, HasBlockFills, MayFill, with_blocks, BlockFilled}
use Rattle.block_cache.proofs.TrueLemmas.{filled_true}
use Rattle.disk_layout.specs.Disk.{Disk, IsRead, one_more}
use Rattle.cached_disk.specs.Lent.{Parts, parts, AreLent, GoesOn, IsFetched, IsFound, Asked}
use Rattle.cached_disk.specs.GoingOn.{only_blocks, only_fills}
use Rattle.cached_disk.proofs.Few.{AreFound, fewer}

-- a block that a disk has stands below its length
block_within : (disk : List (List ℕ)) (number : ℕ) (bytes : List ℕ) → slice_get disk number ≡ Some bytes → number < length disk
block_within disk number bytes is = elim (cases_lt number (length disk)) [
  | inl lt ↦ lt
  | inr le ↦ let none = slice_get_past disk number le in absurd (cc)
]

-- fewer Blocks are there than the disk has blocks, where one of these isn't cached
fewer_than_disk : (heap : Heap) (purse : Purse) (cache : Order ℕ) (disk : Disk) (number : ℕ) → AreLent heap purse cache disk → number < length disk.blocks → block_slot cache number ≡ None → count heap.blocks < length disk.blocks
fewer_than_disk heap purse cache disk number lent within absent =
    fewer (λ (b : Block). b.number) (length disk.blocks) heap.blocks (block_slot cache) number (record { there = lent.keeps.there; only = lent.keeps.only }) (λ k slot is. below k slot (object heap.blocks slot) refl is) within absent
  where
    below : (k slot : ℕ) (o : Option Block) → object heap.blocks slot ≡ o → option_map (λ (b : Block). b.number) (object heap.blocks slot) ≡ Some k → k < length disk.blocks
    below k slot None none is = let gone = ap (option_map (λ (b : Block). b.number)) none in absurd (cc)
    below k slot (Some b) some is =
        let named = ap (option_map (λ (b : Block). b.number)) some in
        let one : b.number ≡ k = cc in
        subst (λ n. n < length disk.blocks) one (block_within disk.blocks b.number b.bytes (lent.true_blocks slot b some))

-- room for one Block more in bytes is room for one more in number
room_in_heap : (heap : Heap) (purse : Purse) → CanPay heap purse → 0 < purse.left.block → count heap.blocks < heap.heap / size class.Block
room_in_heap heap purse pays some = omega (arith, pays, some)

-- where a block isn't cached it may be filled
pub may_fill : (heap : Heap) (purse : Purse) (cache : Order ℕ) (disk : Disk) (number : ℕ) → AreLent heap purse cache disk → number < length disk.blocks → block_slot cache number ≡ None → MayFill cache purse
may_fill heap purse cache disk number lent within absent = elim (cases_lt 0 purse.left.block) [
  | inl some ↦
      let in_heap = room_in_heap heap purse lent.pays some in
      let on_disk = fewer_than_disk heap purse cache disk number lent within absent in
      inl (some, omega (arith, in_heap, on_disk, lent.room, lent.keeps.many))
  | inr none ↦ let nothing : purse.left.block ≡ 0 = omega arith in inr (nothing, omega (arith, lent.some, nothing))
]

module _ (made : Block) (old new : Heap) (before after : Purse) (had has : Order ℕ) (filled : BlockFilled made old new before after had has) where
  filled_capacity : has.capacity ≡ had.capacity
  filled_capacity = ap (λ (o : Order ℕ). o.capacity) filled.added.cache ∙ ap (λ (o : Order ℕ). o.capacity) filled.room.cache

  -- each Block that is no more left is one that was filled
  pub filled_still : 0 < before.left.block + length before.blocks → after.left.block + length after.blocks ≡ before.left.block + length before.blocks
  filled_still some = by_left before.left.block refl
    where
      left_after : after.left.block ≡ filled.purse.left.block - 1
      left_after = ap (λ (p : Purse). p.left.block) filled.added.purse

      long_after : length after.blocks ≡ length filled.purse.blocks + 1
      long_after = ap (λ (p : Purse). length p.blocks) filled.added.purse ∙ length-append filled.purse.blocks (filled.slot ∷ [])

      by_left : (left : ℕ) → before.left.block ≡ left → after.left.block + length after.blocks ≡ before.left.block + length before.blocks
      by_left zero none =
          let left_room : filled.purse.left.block ≡ 1 = ap (λ (p : Purse). p.left.block) filled.room.purse ∙ ap left_kept none in
          let long_room : length filled.purse.blocks ≡ length (remove before.blocks 0) = ap (λ (p : Purse). length p.blocks) filled.room.purse ∙ ap (λ n. length (fills_kept n before.blocks)) none in
          let shorter : length (remove before.blocks 0) + 1 ≡ length before.blocks = length-remove before.blocks 0 (omega (arith, some, none)) in
          omega (arith, left_after, long_after, left_room, long_room, shorter, none)
      by_left (suc left) more =
          let left_room : filled.purse.left.block ≡ suc left = ap (λ (p : Purse). p.left.block) filled.room.purse ∙ ap left_kept more in
          let long_room : length filled.purse.blocks ≡ length before.blocks = ap (λ (p : Purse). length p.blocks) filled.room.purse ∙ ap (λ n. length (fills_kept n before.blocks)) more in
          omega (arith, left_after, long_after, left_room, long_room, more)

  filled_some : 0 < after.left.block + length after.blocks
  filled_some =
      let long : length after.blocks ≡ length filled.purse.blocks + 1 = ap (λ (p : Purse). length p.blocks) filled.added.purse ∙ length-append filled.purse.blocks (filled.slot ∷ []) in
      omega arith

-- a miss: the disk is read, and the block filled
pub fetched_lent : (number : ℕ) (before after : Parts) → IsFetched number before after → IsPaid before.heap before.purse after.heap after.purse → KeepsBlocks after.heap.blocks after.cache → HasBlockFills after.heap after.purse
    → AreLent before.heap before.purse before.cache before.disk → AreLent after.heap after.purse after.cache after.disk
fetched_lent number before after fetched paid keeps fills lent =
    let made = block number fetched.bytes in
    let capacity = filled_capacity made before.heap after.heap before.purse after.purse before.cache after.cache fetched.filled in
    let blocks : after.disk.blocks ≡ before.disk.blocks = fetched.read.blocks in
    let same : length after.disk.blocks ≡ length before.disk.blocks = ap length blocks in
    record {
      keeps = keeps;
      true_blocks = subst (λ (d : List (List ℕ)). TrueToDisk d after.heap.blocks) (sym blocks) (filled_true before.disk.blocks made before.heap after.heap before.purse after.purse before.cache after.cache lent.true_blocks fetched.there fetched.filled);
      pays = CanPay-kept before.heap after.heap before.purse after.purse paid lent.pays;
      fills = fills;
      few = rw paid.need lent.few;
      some = filled_some made before.heap after.heap before.purse after.purse before.cache after.cache fetched.filled;
      room = rw (paid.heap, same, capacity) lent.room;
    }

-- a block is written: the purse and the order of use stay
pub written_goes_on : (old new : Heap) (purse : Purse) (cache : Order ℕ) (was is : Disk) → new ≡ record old { blocks = new.blocks } → TakesNothing old new → is.reads ≡ was.reads → GoesOn (parts old purse cache was) (parts new purse cache is)
written_goes_on old new purse cache was is heap takes reads = record {
  heap = only_blocks old new new.blocks old.high heap;
  purse = refl;
  filled = refl;
  paid = IsPaid-nothing old new purse purse takes refl refl;
  capacity = refl;
  reads = omega (arith, reads);
}

pub written_lent : (old new : Heap) (purse : Purse) (cache : Order ℕ) (was is : Disk) → TakesNothing old new → length is.blocks ≡ length was.blocks → ((slot : ℕ) → InUse old.blocks slot → InUse new.blocks slot) → KeepsBlocks new.blocks cache → TrueToDisk is.blocks new.blocks
    → AreLent old purse cache was → AreLent new purse cache is
written_lent old new purse cache was is takes long used keeps true_blocks lent = record {
  keeps = keeps;
  true_blocks = true_blocks;
  pays = CanPay-kept old new purse purse (IsPaid-nothing old new purse purse takes refl refl) lent.pays;
  fills = AreFills-kept old.blocks new.blocks purse.blocks purse.left.block purse.need.block (λ slot there was. used slot was) lent.fills;
  few = lent.few;
  some = lent.some;
  room = rw (takes.heap, long) lent.room;
}

-- ---- what is cached, and what isn't

absent_if : (objects : List (Option Block)) (cache : Order ℕ) (number : ℕ) → KeepsBlocks objects cache → cached_block objects cache number ≡ None → block_slot cache number ≡ None
absent_if objects cache number keeps none = (elim (block_slot cache number) as (λ o. block_slot cache number ≡ o → block_slot cache number ≡ None) [
  | None ↦ λ is. is
  | Some slot ↦ λ is. let there = object_of objects slot (keeps_used nat_eq_equiv eqb-true (λ (b : Block). b.number) objects cache number slot keeps is) in
      let some = cached_is nat_eq_equiv eqb-true (λ (b : Block). b.number) (λ (b : Block). b.bytes) objects cache number slot there.0 is there.1 in
      absurd (cc)
]) refl

pub no_slot : (o : Option ℕ) → (IsSome o → ⊥) → o ≡ None
no_slot None none = refl
no_slot (Some slot) none = absurd (none refl)

-- to look for a block that isn't cached changes nothing
pub same_order : (objects : List (Option Block)) (old new : Order ℕ) (number : ℕ) → KeepsBlocks objects old → cached_block objects old number ≡ None → new ≡ order (touched (nat_eq number) old.pairs) old.capacity → new ≡ old
same_order objects old new number keeps none is = is ∙ ap (λ (ps : List (ℕ × ℕ)). order ps old.capacity) (touched_absent nat_eq_equiv old.pairs number (absent_if objects old number keeps none))

pub absent : (heap : Heap) (purse : Purse) (cache : Order ℕ) (disk : Disk) (number : ℕ) → AreLent heap purse cache disk → cached_block heap.blocks cache number ≡ None → block_slot cache number ≡ None
absent heap purse cache disk number lent none = absent_if heap.blocks cache number lent.keeps none

pub asked_missed : (number : ℕ) (before after : Parts) → block_slot before.cache number ≡ None → IsFetched number before after → Asked before number after
asked_missed number before after none fetched = subst (λ (o : Option ℕ). MatchOption o (IsFetched number before after) (λ _. IsFound number before after)) (sym none) fetched
