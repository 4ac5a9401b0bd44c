use Rattle.std.proofs.Common.{◌≡◌, ◌+◌, Some, length, nat_eq, eqb-true, sym, ap, ◌∙◌, subst}
use Rattle.std.specs.Cmp.{nat_eq_equiv}
use Rattle.kheap_slabs.specs.declared.objects.Block.{Block}
use Rattle.block_cache.specs.Blocks.{block_slot, KeepsBlocks}
use Rattle.cache_laws.proofs.KeepsLemmas.{keeps_used, keeps_dropped, long_removed}
use Rattle.block_cache.proofs.cache.BlockCache.forget.Goals as goal

pub free_block-requires : goal.free_block-requires
free_block-requires c =
    let number = λ (b : Block). b.number in
    keeps_used nat_eq_equiv eqb-true number c.args.heap.now.blocks c.args.self.now c.args.number c.drop_key-slot.result c.requires.keeps (ap (λ o. block_slot o c.args.number) (sym c.self.view_is) ∙ c.drop_key-slot.ensures.slot)

pub returns-clause-keeps : goal.returns-clause-keeps
returns-clause-keeps c =
    let number = λ (b : Block). b.number in
    let objects = c.args.heap.now.blocks in
    let old = c.self.inside.slots in
    let new = c.drop_key-slot.new.self in
    let key = c.args.number in
    let slot = c.drop_key-slot.result in
    let keeps = subst (KeepsBlocks objects) (sym c.self.view_is) c.requires.keeps in
    let long : length new.pairs + 1 ≡ length old.pairs = ap (λ o. length o.pairs + 1) c.drop_key-slot.ensures.pairs ∙ long_removed nat_eq_equiv eqb-true number old.pairs key slot c.drop_key-slot.ensures.slot in
    subst (λ h. KeepsBlocks h.blocks new) (sym c.free_block.ensures.kept) (keeps_dropped nat_eq_equiv eqb-true number objects old new key slot keeps c.drop_key-slot.ensures.slot c.drop_key-slot.ensures.finds long)
