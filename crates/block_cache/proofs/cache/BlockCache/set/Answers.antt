use Rattle.std.proofs.Common.{◌≡◌, ℕ, Option, Some, None, IsSome, eqb-true, refl, sym, subst}
use Rattle.std.specs.Prelude.{MatchOption}
use Rattle.std.specs.Cmp.{nat_eq_equiv}
use Rattle.kheap_slabs.specs.Objects.{put}
use Rattle.kheap_slabs.specs.declared.objects.Block.{Block}
use Rattle.kheap_slabs.proofs.ObjectLemmas.{InUse-within, object-put}
use Rattle.block_cache.specs.Blocks.{block, block_slot, cached_block}
use Rattle.cache_laws.proofs.KeepsLemmas.{keeps_used, cached_is}
use Rattle.block_cache.proofs.cache.BlockCache.set.Goals as goal

a_slot : (o : Option ℕ) → IsSome o → (slot : ℕ) × (o ≡ Some slot)
a_slot None some = absurd (cc)
a_slot (Some slot) some = (slot, refl)

pub returns-clause-value : goal.returns-clause-value
returns-clause-value c =
    let number = λ (b : Block). b.number in
    let objects = c.args.heap.now.blocks in
    let made = block c.args.number c.args.bytes.now in
    let there = a_slot (block_slot c.args.self.now c.args.number) c.requires.there in
    let used = keeps_used nat_eq_equiv eqb-true number objects c.args.self.now c.args.number there.0 c.requires.keeps there.1 in
    let stored = subst (λ o. MatchOption o (c.renew.new.heap ≡ c.args.heap.now) (λ s. c.renew.new.heap ≡ record c.args.heap.now { blocks = put objects s made })) there.1 c.renew.ensures.stored in
    subst (λ h. cached_block h.blocks c.args.self.now c.args.number ≡ Some c.args.bytes.now) (sym stored) (
    cached_is nat_eq_equiv eqb-true number (λ (b : Block). b.bytes) (put objects there.0 made) c.args.self.now c.args.number there.0 made there.1 (object-put objects there.0 made (InUse-within objects there.0 used)))
