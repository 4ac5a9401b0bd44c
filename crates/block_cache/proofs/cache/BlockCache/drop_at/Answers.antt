use Rattle.std.proofs.Common.{nat_eq, eqb-true, ◌≡◌, ◌+◌, cond, None, Some, IsSome, length, refl, sym, ap, ◌∙◌, subst}
use Rattle.std.specs.Prelude.{remove}
use Rattle.std.specs.Cmp.{nat_eq_equiv}
use Rattle.kheap_slabs.specs.declared.objects.Block.{Block}
use Rattle.std.specs.Option.{option_map}
use Rattle.kabi_types.specs.declared.classes.Class.TheVariants as class
use Rattle.kabi_types.specs.Counts.{counted, with_count}
use Rattle.kheap_slabs.specs.Objects.{object, without}
use Rattle.kheap_slabs.specs.Purse.{Purse}
use Rattle.kheap_slabs.specs.Paid.{AreFills}
use Rattle.kheap_laws.proofs.FillLemmas.{AreFills-drop}
use Rattle.block_cache.specs.Blocks.{block_slot, KeepsBlocks}
use Rattle.cache_laws.specs.Caches.{key_at}
use Rattle.cache_laws.proofs.KeepsLemmas.{keeps_dropped, long_removed, one_key, none_either}
use Rattle.block_cache.proofs.cache.BlockCache.drop_at.Goals as goal

pub drop_key-requires : goal.drop_key-requires
drop_key-requires c =
    let key_is : key_at (λ b. b.number) c.args.heap.now.blocks c.drop_fill-slot.result ≡ Some c.free_block-gone.result.number = ap (option_map (λ b. b.number)) c.free_block-gone.ensures.value in
    let at : block_slot c.args.self.now c.free_block-gone.result.number ≡ Some c.drop_fill-slot.result = c.requires.keeps.only c.free_block-gone.result.number c.drop_fill-slot.result key_is in
    record { there = subst IsSome (sym (ap (λ o. block_slot o c.free_block-gone.result.number) c.self.view_is ∙ at)) refl }

pub returns-clause-keeps : goal.returns-clause-keeps
returns-clause-keeps c =
    let objects = c.args.heap.now.blocks in
    let old = c.self.inside.slots in
    let new = c.drop_key.new.self in
    let key = c.free_block-gone.result.number in
    let slot = c.drop_fill-slot.result in
    let keeps = subst (KeepsBlocks objects) (sym c.self.view_is) c.requires.keeps in
    let key_is : key_at (λ b. b.number) objects slot ≡ Some key = ap (option_map (λ b. b.number)) c.free_block-gone.ensures.value in
    let at : block_slot old key ≡ Some slot = keeps.only key slot key_is in
    let long : length new.pairs + 1 ≡ length old.pairs = ap (λ o. length o.pairs + 1) c.drop_key.ensures.pairs ∙ long_removed nat_eq_equiv eqb-true (λ (b : Block). b.number) old.pairs key slot at in
    subst (λ h. KeepsBlocks h.blocks new) (sym c.free_block-gone.ensures.kept) (keeps_dropped nat_eq_equiv eqb-true (λ (b : Block). b.number) objects old new key slot keeps at c.drop_key.ensures.finds long)

-- a purse that got one Block back
abbrev given : Purse → Purse
given p = record p { left = with_count p.left class.Block (counted p.left class.Block + 1) }

pub returns-clause-fills : goal.returns-clause-fills
returns-clause-fills c =
    let purse = c.args.purse.now in
    let objects = c.args.heap.now.blocks in
    let dropped = AreFills-drop objects purse.blocks purse.left.block purse.need.block c.args.at c.requires.at c.requires.fills in
    let blocks = ap (λ h. h.blocks) c.free_block-gone.ensures.kept ∙ ap (without objects) c.drop_fill-slot.ensures.key in
    let given_is = c.give.ensures.kept ∙ ap given c.drop_fill-slot.ensures.kept in
    subst (λ p. AreFills c.free_block-gone.new.self.blocks p.blocks p.left.block p.need.block) (sym given_is) (subst (λ b. AreFills b (remove purse.blocks c.args.at) (purse.left.block + 1) purse.need.block) (sym blocks) dropped)

pub returns-clause-slot : goal.returns-clause-slot
returns-clause-slot c =
    let key_is : key_at (λ b. b.number) c.args.heap.now.blocks c.drop_fill-slot.result ≡ Some c.free_block-gone.result.number = ap (option_map (λ b. b.number)) c.free_block-gone.ensures.value in
    let at = c.requires.keeps.only c.free_block-gone.result.number c.drop_fill-slot.result key_is in
    let both : Some c.drop_key.result ≡ Some c.drop_fill-slot.result = sym c.drop_key.ensures.slot ∙ ap (λ o. block_slot o c.free_block-gone.result.number) c.self.view_is ∙ at in
    let one : c.drop_key.result ≡ c.drop_fill-slot.result = cc in
    one ∙ c.drop_fill-slot.ensures.key

pub returns-clause-slots : goal.returns-clause-slots
returns-clause-slots c key is other =
    let at = ap (λ o. block_slot o c.free_block-gone.result.number) (sym c.self.view_is) ∙ c.drop_key.ensures.slot in
    let one : c.free_block-gone.result.number ≡ key = one_key nat_eq_equiv eqb-true (λ (b : Block). b.number) c.args.heap.now.blocks c.args.self.now c.free_block-gone.result.number key c.drop_key.result c.requires.keeps at is in
    c.drop_key.ensures.finds other ∙ (λ i. cond (nat_eq (one i) other) None (block_slot (c.self.view_is i) other))

pub returns-clause-absent : goal.returns-clause-absent
returns-clause-absent c other none = c.drop_key.ensures.finds other ∙ ap (cond (nat_eq c.free_block-gone.result.number other) None) (ap (λ o. block_slot o other) c.self.view_is ∙ none) ∙ none_either (nat_eq c.free_block-gone.result.number other)
