use Rattle.std.proofs.Common.{◌≡◌, ℕ, Some, IsSome, Contains, eqb-true, sym, ap, ◌∙◌, subst}
use Rattle.std.specs.Cmp.{nat_eq_equiv}
use Rattle.kheap_slabs.specs.Objects.{without}
use Rattle.kheap_slabs.specs.declared.objects.Vnode.{Vnode}
use Rattle.kheap_slabs.proofs.ObjectLemmas.{object-without_other}
use Rattle.kheap_slabs.specs.Paid.{AreFills}
use Rattle.kheap_laws.proofs.FillLemmas.{AreFills-kept}
use Rattle.cache_laws.specs.Caches.{IsAt}
use Rattle.cache_laws.proofs.KeepsLemmas.{absent_found, at_none}
use Rattle.vnode_cache.specs.Nodes.{node_slot, IsLoose}
use Rattle.vnode_cache.proofs.OrderLemmas.{unpinned_is_loose, loose_at}
use Rattle.vnode_cache.proofs.cache.VnodeCache.let_go.Goals as goal

pub remove-slot-requires-clause-loose : goal.remove-slot-requires-clause-loose
remove-slot-requires-clause-loose c =
    let at = ap (λ o. node_slot o c.args.number) (sym c.self.view_is) ∙ sym c.in-Some.ensures.slot in
    loose_at c.args.heap.now.vnodes c.args.self.now.order c.args.number c.in-Some.slot at (unpinned_is_loose c.args.heap.now.vnodes c.args.self.now c.args.number c.in-Some.slot c.requires.keeps at c.requires.unpinned)

pub drop_at-slot-requires-clause-loose : goal.drop_at-slot-requires-clause-loose
drop_at-slot-requires-clause-loose c =
    let at = ap (λ o. node_slot o c.args.number) (sym c.self.view_is) ∙ sym c.in-Some.ensures.slot in
    let place = subst (λ l. IsAt l c.in-Some.slot c.in-Some-place_of.at) c.fills.ensures c.in-Some-place_of.ensures in
    subst (IsLoose c.args.heap.now.vnodes) (sym place.1) (unpinned_is_loose c.args.heap.now.vnodes c.args.self.now c.args.number c.in-Some.slot c.requires.keeps at c.requires.unpinned)

pub returns-in_default-place_of-clause-fills : goal.returns-in_default-place_of-clause-fills
returns-in_default-place_of-clause-fills c =
    let slot = c.in-Some.slot in
    let keys = c.args.purse.now.vnodes in
    let at : node_slot c.args.self.now c.args.number ≡ Some slot = ap (λ o. node_slot o c.args.number) (sym c.self.view_is) ∙ sym c.in-Some.ensures.slot in
    let both : Some c.remove-slot.result ≡ Some slot = sym c.remove-slot.ensures.gone.there ∙ at in
    let one : c.remove-slot.result ≡ slot = cc in
    let none = at_none keys slot (subst (λ l. (place : ℕ) → IsAt l slot place → ⊥) c.fills.ensures c.in_default-place_of.ensures) in
    subst (λ h. AreFills h.vnodes keys c.args.purse.now.left.vnode c.args.purse.now.need.vnode) (sym c.remove-slot.ensures.gone.heap) (AreFills-kept c.args.heap.now.vnodes (without c.args.heap.now.vnodes c.remove-slot.result) keys c.args.purse.now.left.vnode c.args.purse.now.need.vnode (λ key there used. subst IsSome (sym (object-without_other c.args.heap.now.vnodes c.remove-slot.result key (λ e. none (subst (Contains keys) (e ∙ one) there)))) used) c.requires.fills)

pub returns-in_default-clause-slots : goal.returns-in_default-clause-slots
returns-in_default-clause-slots c = absent_found nat_eq_equiv eqb-true (λ (v : Vnode). v.number) c.args.self.now.order c.args.number (ap (λ o. node_slot o c.args.number) (sym c.self.view_is) ∙ sym c.in_default.ensures.slot)

pub returns-clause-slots : goal.returns-clause-slots
returns-clause-slots c =
    let at : node_slot c.args.self.now c.args.number ≡ Some c.in-Some.slot = ap (λ o. node_slot o c.args.number) (sym c.self.view_is) ∙ sym c.in-Some.ensures.slot in
    let place = subst (λ l. IsAt l c.in-Some.slot c.in-Some-place_of.at) c.fills.ensures c.in-Some-place_of.ensures in
    c.drop_at-slot.ensures.slots c.args.number (at ∙ ap Some (sym (c.drop_at-slot.ensures.slot ∙ place.1)))
