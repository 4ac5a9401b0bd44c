use Rattle.std.proofs.Common.{◌≡◌, ◌+◌, ◌-◌, ◌<◌, None, Some, [], ◌∷◌, ◌++◌, length, nat_eq, eqb-true, refl, sym, ap, ◌∙◌, subst, length-append}
use Rattle.std.specs.Cmp.{nat_eq_equiv}
use Rattle.kabi_types.specs.declared.classes.Class.TheVariants as class
use Rattle.kheap_slabs.specs.Purse.{fills_of, with_fills}
use Rattle.kheap_slabs.specs.Objects.{object, put}
use Rattle.kheap_slabs.specs.declared.objects.Block.{Block}
use Rattle.kheap_slabs.proofs.ObjectLemmas.{put-within}
use Rattle.kheap_slabs.specs.Paid.{AreFills}
use Rattle.kheap_laws.proofs.FillLemmas.{AreFills-add}
use Rattle.block_cache.specs.Blocks.{block, block_slot, KeepsBlocks}
use Rattle.cache_laws.proofs.KeepsLemmas.{keeps_put}
use Rattle.block_cache.proofs.cache.BlockCache.add.Goals as goal

pub returns-clause-keeps : goal.returns-clause-keeps
returns-clause-keeps c =
    let number = λ (b : Block). b.number in
    let objects = c.args.heap.now.blocks in
    let old = c.self.inside.slots in
    let new = c.put.new.self in
    let slot = c.insert_block-slot.result in
    let made = block c.args.number c.args.bytes.now in
    let kept = c.insert_block-slot.ensures.kept in
    let keeps = subst (KeepsBlocks objects) (sym c.self.view_is) c.requires.keeps in
    let absent : block_slot old c.args.number ≡ None = ap (λ o. block_slot o c.args.number) c.self.view_is ∙ c.requires.absent in
    let stored : object (put objects slot made) slot ≡ Some made = sym (ap (λ h. object h.blocks slot) kept) ∙ c.insert_block-slot.ensures.stored in
    let long : length new.pairs ≡ length old.pairs + 1 = ap (λ o. length o.pairs) c.put.ensures.pairs ∙ length-append old.pairs ((c.args.number, slot) ∷ []) in
    subst (λ h. KeepsBlocks h.blocks new) (sym kept) (keeps_put nat_eq_equiv eqb-true number objects old new c.args.number slot made keeps absent c.insert_block-slot.ensures.vacant (put-within objects slot made stored) refl c.put.ensures.finds long)

pub returns-clause-fills : goal.returns-clause-fills
returns-clause-fills c =
    let purse = c.args.purse.now in
    let objects = c.args.heap.now.blocks in
    let slot = c.insert_block-slot.result in
    let made = block c.args.number c.args.bytes.now in
    let kept = c.insert_block-slot.ensures.kept in
    let stored : object (put objects slot made) slot ≡ Some made = sym (ap (λ h. object h.blocks slot) kept) ∙ c.insert_block-slot.ensures.stored in
    let added = AreFills-add objects purse.blocks purse.left.block purse.need.block slot made c.requires.left c.insert_block-slot.ensures.vacant stored c.requires.fills in
    let filled = c.add_fill.ensures ∙ ap (λ p. with_fills p class.Block (fills_of p class.Block ++ slot ∷ [])) c.spend.ensures.kept in
    subst (λ p. AreFills c.insert_block-slot.new.self.blocks p.blocks p.left.block p.need.block) (sym filled) (subst (λ b. AreFills b (purse.blocks ++ slot ∷ []) (purse.left.block - 1) purse.need.block) (sym (ap (λ h. h.blocks) kept)) added)
