use Rattle.std.proofs.Common.{nat_eq, eqb-true, ◌≡◌, ◌≢◌, ℕ, cond, None, Some, IsSome, length, Contains, refl, sym, ap, ◌∙◌, subst, inl, inr}
use Rattle.std.specs.Prelude.{MatchOption, remove}
use Rattle.std.specs.Cmp.{nat_eq_equiv}
use Rattle.kheap_slabs.specs.declared.objects.Block.{Block}
use Rattle.std.specs.Map.{remove_entry}
use Rattle.kheap_slabs.specs.Objects.{InUse, without}
use Rattle.kheap_slabs.proofs.ObjectLemmas.{object-without_other}
use Rattle.kheap_slabs.specs.Paid.{AreFills}
use Rattle.kheap_laws.proofs.FillLemmas.{AreFills-kept}
use Rattle.kheap_laws.proofs.PaidLemmas.{IsPaid-nothing, IsPaid-refl}
use Rattle.lru_index.specs.Order.{order}
use Rattle.cache_laws.specs.Caches.{IsAt}
use Rattle.cache_laws.proofs.KeepsLemmas.{absent_found, at_none, pairs_kept_is}
use Rattle.block_cache.specs.Blocks.{block_slot, BlockGone, Unchanged, TakenBack}
use Rattle.block_cache.proofs.cache.BlockCache.let_go.Goals as goal

pub returns-in_default-clause-slots : goal.returns-in_default-clause-slots
returns-in_default-clause-slots c = absent_found nat_eq_equiv eqb-true (λ (b : Block). b.number) c.args.self.now c.args.number (ap (λ o. block_slot o c.args.number) (sym c.self.view_is) ∙ sym c.in_default.ensures.slot)

pub returns-in_default-place_of-clause-fills : goal.returns-in_default-place_of-clause-fills
returns-in_default-place_of-clause-fills c =
    let slot = c.in-Some.slot in
    let keys = c.args.purse.now.blocks in
    let at : block_slot c.args.self.now c.args.number ≡ Some slot = ap (λ o. block_slot o c.args.number) (sym c.self.view_is) ∙ sym c.in-Some.ensures.slot in
    let gone = subst (λ o. MatchOption o (Unchanged c.args.heap.now c.forget.new.heap c.args.self.now c.forget.new.self) (λ s. BlockGone c.args.number s c.args.heap.now c.forget.new.heap c.args.self.now c.forget.new.self)) at c.forget.ensures.gone in
    let none = at_none keys slot (subst (λ l. (place : ℕ) → IsAt l slot place → ⊥) c.fills.ensures c.in_default-place_of.ensures) in
    subst (λ h. AreFills h.blocks keys c.args.purse.now.left.block c.args.purse.now.need.block) (sym gone.heap) (AreFills-kept c.args.heap.now.blocks (without c.args.heap.now.blocks slot) keys c.args.purse.now.left.block c.args.purse.now.need.block (λ key there used. subst IsSome (sym (object-without_other c.args.heap.now.blocks slot key (λ e. none (subst (Contains keys) e there)))) used) c.requires.fills)

pub returns-clause-slots : goal.returns-clause-slots
returns-clause-slots c =
    let at : block_slot c.args.self.now c.args.number ≡ Some c.in-Some.slot = ap (λ o. block_slot o c.args.number) (sym c.self.view_is) ∙ sym c.in-Some.ensures.slot in
    let place = subst (λ l. IsAt l c.in-Some.slot c.in-Some-place_of.at) c.fills.ensures c.in-Some-place_of.ensures in
    c.drop_at-slot.ensures.slots c.args.number (at ∙ ap Some (sym (c.drop_at-slot.ensures.slot ∙ place.1)))
