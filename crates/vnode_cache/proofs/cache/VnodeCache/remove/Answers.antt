use Rattle.std.proofs.Common.{◌≡◌, cond, ◌+◌, None, length, nat_eq, eqb-true, sym, ap, ◌∙◌, subst}
use Rattle.std.specs.Cmp.{nat_eq_equiv}
use Rattle.kheap_slabs.specs.Objects.{object}
use Rattle.kheap_slabs.specs.declared.objects.Vnode.{Vnode}
use Rattle.vnode_cache.specs.Nodes.{is_loose, node_slot, KeepsNodes, IsLoose, loose_count, StaysHeld}
use Rattle.cache_laws.specs.Caches.{Keeps}
use Rattle.std.specs.Option.{option_and_then}
use Rattle.cache_laws.proofs.KeepsLemmas.{keeps_used, keeps_dropped, long_removed}
use Rattle.vnode_cache.proofs.HeldLemmas.{held_freed}
use Rattle.vnode_cache.proofs.LooseLemmas.{loose_less}
use Rattle.vnode_cache.proofs.cache.VnodeCache.remove.Goals as goal

pub free_vnode-requires : goal.free_vnode-requires
free_vnode-requires c = keeps_used nat_eq_equiv eqb-true (λ (v : Vnode). v.number) c.args.heap.now.vnodes c.args.self.now.order c.args.number c.drop_key-slot.result c.requires.keeps.kept (ap (λ o. node_slot o c.args.number) (sym c.self.view_is) ∙ c.drop_key-slot.ensures.slot)

pub returns-clause-keeps : goal.returns-clause-keeps
returns-clause-keeps c =
    let number = λ (v : Vnode). v.number in
    let objects = c.args.heap.now.vnodes in
    let old = c.self.inside.slots in
    let new = c.drop_key-slot.new.self in
    let key = c.args.number in
    let slot = c.drop_key-slot.result in
    let keeps = subst (KeepsNodes objects) (sym c.self.view_is) c.requires.keeps in
    let free : IsLoose objects slot = sym (ap (λ s. is_loose (option_and_then (object objects) s)) (ap (λ o. node_slot o key) (sym c.self.view_is) ∙ c.drop_key-slot.ensures.slot)) ∙ c.requires.loose in
    let long : length new.pairs + 1 ≡ length old.pairs = ap (λ o. length o.pairs + 1) c.drop_key-slot.ensures.pairs ∙ long_removed nat_eq_equiv eqb-true number old.pairs key slot c.drop_key-slot.ensures.slot in
    record {
      kept = subst (λ h. Keeps nat_eq number h.vnodes new) (sym c.free_vnode.ensures.kept) (keeps_dropped nat_eq_equiv eqb-true number objects old new key slot keeps.kept c.drop_key-slot.ensures.slot c.drop_key-slot.ensures.finds long);
      loose = (loose_less c.self.inside.loose objects slot keeps.loose free).1 ∙ sym (ap (λ h. loose_count h.vnodes) c.free_vnode.ensures.kept);
    }

pub returns-clause-held : goal.returns-clause-held
returns-clause-held c other =
    let objects = c.args.heap.now.vnodes in
    let key = c.args.number in
    let slot = c.drop_key-slot.result in
    let free : IsLoose objects slot = sym (ap (λ s. is_loose (option_and_then (object objects) s)) (ap (λ o. node_slot o key) (sym c.self.view_is) ∙ c.drop_key-slot.ensures.slot)) ∙ c.requires.loose in
    subst (λ h. StaysHeld other objects h.vnodes) (sym c.free_vnode.ensures.kept) (held_freed other objects slot free)

pub returns-clause-slots : goal.returns-clause-slots
returns-clause-slots c other = c.drop_key-slot.ensures.finds other ∙ ap (λ o. cond (nat_eq c.args.number other) None (node_slot o other)) c.self.view_is

pub overflow_sub-self : goal.overflow_sub-self
overflow_sub-self c =
    let objects = c.args.heap.now.vnodes in
    let key = c.args.number in
    let slot = c.drop_key-slot.result in
    let keeps = subst (KeepsNodes objects) (sym c.self.view_is) c.requires.keeps in
    let free : IsLoose objects slot = sym (ap (λ s. is_loose (option_and_then (object objects) s)) (ap (λ o. node_slot o key) (sym c.self.view_is) ∙ c.drop_key-slot.ensures.slot)) ∙ c.requires.loose in
    (loose_less c.self.inside.loose objects slot keeps.loose free).0
