-- The Block of a block that is cached has the bytes of the disk; and a block that is written is written where it is cached.
use Rattle.std.proofs.Common.{◌≡◌, ℕ, ◌<◌, List, length, Option, Some, None, nat_eq, eqb-true, refl, sym, ap, ◌∙◌, subst}
use Rattle.std.specs.Prelude.{slice_get, slice_set, MatchOption}
use Rattle.std.specs.Option.{option_map, option_and_then}
use Rattle.std.specs.Cmp.{nat_eq_equiv}
use Rattle.kheap_slabs.specs.Objects.{object, InUse, put}
use Rattle.kheap_slabs.specs.declared.objects.Block.{Block}
use Rattle.kheap_slabs.proofs.ObjectLemmas.{object_of, InUse-put}
use Rattle.kheap_slabs.specs.Heap.{Heap}
use Rattle.lru_index.specs.Order.{Order}
use Rattle.cache_laws.proofs.KeepsLemmas.{keeps_used}
use Rattle.block_cache.specs.Blocks.{block, block_slot, cached_block, KeepsBlocks, TrueToDisk}
use Rattle.block_cache.proofs.TrueLemmas.{written_true, absent_true}
use Rattle.cached_disk.specs.Lent.{HasBytes}

pub has_bytes : (disk : List (List ℕ)) (objects : List (Option Block)) (cache : Order ℕ) (number slot : ℕ) → TrueToDisk disk objects → KeepsBlocks objects cache → block_slot cache number ≡ Some slot → HasBytes objects slot disk number
has_bytes disk objects cache number slot are keeps at =
    let there = object_of objects slot (keeps_used nat_eq_equiv eqb-true (λ (b : Block). b.number) objects cache number slot keeps at) in
    let named : Some there.0.number ≡ Some number = sym (ap (option_map (λ (b : Block). b.number)) there.1) ∙ keeps.there number slot at in
    let same : there.0.number ≡ number = cc in
    (there.0, there.1, ap (slice_get disk) (sym same) ∙ are slot there.0 there.1)

pub filled_bytes : (disk : List (List ℕ)) (objects : List (Option Block)) (cache : Order ℕ) (number slot : ℕ) (bytes : List ℕ) → cached_block objects cache number ≡ Some bytes → block_slot cache number ≡ Some slot → slice_get disk number ≡ Some bytes → HasBytes objects slot disk number
filled_bytes disk objects cache number slot bytes cached at there = by_object (object objects slot) refl
  where
    by_object : (o : Option Block) → object objects slot ≡ o → HasBytes objects slot disk number
    by_object None none =
        let here : cached_block objects cache number ≡ None = ap (option_and_then (λ s. option_map (λ b. b.bytes) (object objects s))) at ∙ ap (option_map (λ b. b.bytes)) none in
        absurd (cc)
    by_object (Some b) some =
        let has : cached_block objects cache number ≡ Some b.bytes = ap (option_and_then (λ s. option_map (λ b. b.bytes) (object objects s))) at ∙ ap (option_map (λ b. b.bytes)) some in
        let same : bytes ≡ b.bytes = cc in
        (b, some, there ∙ ap Some same)

-- what is cached has a slot
pub filled_slot : (objects : List (Option Block)) (cache : Order ℕ) (number : ℕ) (bytes : List ℕ) → cached_block objects cache number ≡ Some bytes → block_slot cache number ≡ None → ⊥
filled_slot objects cache number bytes cached none =
    let here : cached_block objects cache number ≡ None = ap (option_and_then (λ s. option_map (λ b. b.bytes) (object objects s))) none in
    absurd (cc)

module _ (number : ℕ) (bytes : List ℕ) (old new : Heap) (cache : Order ℕ) (stored : MatchOption (block_slot cache number) (new ≡ old) (λ slot. new ≡ record old { blocks = put old.blocks slot (block number bytes) })) where
  by_slot : {P : Type 0} → (block_slot cache number ≡ None → new ≡ old → P) → ((slot : ℕ) → block_slot cache number ≡ Some slot → new ≡ record old { blocks = put old.blocks slot (block number bytes) } → P) → P
  by_slot {P} none some = (elim (block_slot cache number) as (λ o. block_slot cache number ≡ o → MatchOption o (new ≡ old) (λ slot. new ≡ record old { blocks = put old.blocks slot (block number bytes) }) → P) [
    | None ↦ λ at same. none at same
    | Some slot ↦ λ at is. some slot at is
  ]) refl stored

  pub renewed_heap : new ≡ record old { blocks = new.blocks }
  renewed_heap = by_slot (λ at same. same ∙ ap (λ (h : Heap). record old { blocks = h.blocks }) (sym same)) (λ slot at is. is ∙ ap (λ (h : Heap). record old { blocks = h.blocks }) (sym is))

  pub renewed_used : KeepsBlocks old.blocks cache → (slot : ℕ) → InUse old.blocks slot → InUse new.blocks slot
  renewed_used keeps slot there = by_slot (λ at same. subst (λ (h : Heap). InUse h.blocks slot) (sym same) there) (
      λ at named is.
      let used = keeps_used nat_eq_equiv eqb-true (λ (b : Block). b.number) old.blocks cache number at keeps named in
      subst (λ (h : Heap). InUse h.blocks slot) (sym is) (InUse-put old.blocks at (block number bytes) slot used there)
      )

  pub renewed_true : (disk : List (List ℕ)) → TrueToDisk disk old.blocks → KeepsBlocks old.blocks cache → number < length disk → TrueToDisk (slice_set disk number bytes) new.blocks
  renewed_true disk are keeps within = by_slot (
      λ at same.
      subst (λ (h : Heap). TrueToDisk (slice_set disk number bytes) h.blocks) (sym same) (absent_true disk old.blocks cache number bytes are keeps at)
      ) (
      λ slot at is.
      subst (λ (h : Heap). TrueToDisk (slice_set disk number bytes) h.blocks) (sym is) (written_true disk old.blocks cache number bytes slot are keeps within at)
      )
