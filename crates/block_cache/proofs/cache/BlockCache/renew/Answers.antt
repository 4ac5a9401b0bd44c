use Rattle.std.proofs.Common.{eqb-true, refl, sym, ap, ◌∙◌, subst}
use Rattle.std.specs.Cmp.{nat_eq_equiv}
use Rattle.kheap_slabs.specs.declared.objects.Block.{Block}
use Rattle.block_cache.specs.Blocks.{block, block_slot, KeepsBlocks}
use Rattle.cache_laws.proofs.KeepsLemmas.{keeps_used, keeps_set}
use Rattle.block_cache.proofs.cache.BlockCache.renew.Goals as goal

pub write_block-requires : goal.write_block-requires
write_block-requires c = keeps_used nat_eq_equiv eqb-true _ c.args.heap.now.blocks c.args.self.now c.args.number c.in-Some.slot c.requires (ap (λ o. block_slot o c.args.number) (sym c.self.view_is) ∙ sym c.in-Some.ensures.slot)

pub returns-clause-keeps : goal.returns-clause-keeps
returns-clause-keeps c =
    let number = λ (b : Block). b.number in
    subst (λ h. KeepsBlocks h.blocks c.args.self.now) (sym c.write_block.ensures.kept) (keeps_set nat_eq_equiv eqb-true number c.args.heap.now.blocks c.args.self.now c.args.number c.in-Some.slot (block c.args.number c.args.bytes.now) c.requires (ap (λ o. block_slot o c.args.number) (sym c.self.view_is) ∙ sym c.in-Some.ensures.slot) refl)
