use Rattle.std.proofs.Common.{◌≡◌, ◌+◌, Some, nat_eq, eqb-true, refl, sym, ap, ◌∙◌, subst, arith}
use Rattle.std.specs.Cmp.{nat_eq_equiv}
use Rattle.kheap_slabs.specs.Objects.{object, put}
use Rattle.kheap_slabs.specs.declared.objects.Vnode.{Vnode}
use Rattle.vnode_cache.specs.Nodes.{is_loose, node_slot, KeepsNodes, loose_count, StaysHeld}
use Rattle.cache_laws.specs.Caches.{Keeps}
use Rattle.std.specs.Option.{option_map}
use Rattle.cache_laws.proofs.KeepsLemmas.{keeps_used, keeps_set, cached_is}
use Rattle.vnode_cache.proofs.HeldLemmas.{held_set}
use Rattle.vnode_cache.proofs.LooseLemmas.{loose_pin, loose_less}
use Rattle.vnode_cache.proofs.cache.VnodeCache.pin.Goals as goal

pub get_vnode-was-requires : goal.get_vnode-was-requires
get_vnode-was-requires c = keeps_used nat_eq_equiv eqb-true (λ (v : Vnode). v.number) c.args.heap.now.vnodes c.args.self.now.order c.args.number c.slot_of-slot.result c.requires.keeps.kept c.slot_of-slot.ensures

pub set_vnode-requires : goal.set_vnode-requires
set_vnode-requires c = keeps_used nat_eq_equiv eqb-true (λ (v : Vnode). v.number) c.args.heap.now.vnodes c.args.self.now.order c.args.number c.slot_of-slot.result c.requires.keeps.kept c.slot_of-slot.ensures

pub returns-clause-stored : goal.returns-clause-stored
returns-clause-stored c slot was at there =
    let slots : Some c.slot_of-slot.result ≡ Some slot = sym c.slot_of-slot.ensures ∙ at in
    let one : c.slot_of-slot.result ≡ slot = cc in
    let both : Some c.get_vnode-was.result.now ≡ Some was = sym c.get_vnode-was.ensures ∙ ap (object c.args.heap.now.vnodes) one ∙ there in
    let same : c.get_vnode-was.result.now ≡ was = cc in
    c.set_vnode.ensures.kept ∙ (λ i. record c.args.heap.now { vnodes = put c.args.heap.now.vnodes (one i) (record (same i) { pins = (same i).pins + 1 }) })

pub returns-clause-keeps : goal.returns-clause-keeps
returns-clause-keeps c =
    let number = λ (v : Vnode). v.number in
    let objects = c.args.heap.now.vnodes in
    let slot = c.slot_of-slot.result in
    let was = c.get_vnode-was.result.now in
    let now : Vnode = record was { pins = was.pins + 1 } in
    let both : Some was.number ≡ Some c.args.number = sym (ap (option_map number) c.get_vnode-was.ensures) ∙ c.requires.keeps.kept.there c.args.number slot c.slot_of-slot.ensures in
    let named : was.number ≡ c.args.number = cc in
    let keeps = subst (KeepsNodes objects) (sym c.self.view_is) c.requires.keeps in
    let at = ap (λ o. node_slot o c.args.number) c.self.view_is ∙ c.slot_of-slot.ensures in
    record {
      kept = subst (λ h. Keeps nat_eq number h.vnodes c.self.inside.slots) (sym c.set_vnode.ensures.kept) (keeps_set nat_eq_equiv eqb-true number objects c.self.inside.slots c.args.number slot now keeps.kept at named);
      loose = loose_pin objects slot was now c.self.inside.loose c.after_pin-self-inside.result c.get_vnode-was.ensures refl keeps.loose c.after_pin-self-inside.ensures ∙ sym (ap (λ h. loose_count h.vnodes) c.set_vnode.ensures.kept);
    }

pub returns-clause-held : goal.returns-clause-held
returns-clause-held c other =
    let objects = c.args.heap.now.vnodes in
    let was = c.get_vnode-was.result.now in
    let now : Vnode = record was { pins = was.pins + 1 } in
    subst (λ h. StaysHeld other objects h.vnodes) (sym c.set_vnode.ensures.kept) (held_set other objects c.slot_of-slot.result was now c.get_vnode-was.ensures refl (omega arith))

pub after_pin-self-inside-requires : goal.after_pin-self-inside-requires
after_pin-self-inside-requires c none =
    let keeps = subst (KeepsNodes c.args.heap.now.vnodes) (sym c.self.view_is) c.requires.keeps in
    (loose_less c.self.inside.loose c.args.heap.now.vnodes c.slot_of-slot.result keeps.loose (ap is_loose c.get_vnode-was.ensures ∙ ap (λ n. nat_eq n 0) none)).0

pub overflow_add-pins : goal.overflow_add-pins
overflow_add-pins c = omega (arith, c.requires.few c.get_vnode-was.result.now.pins (cached_is nat_eq_equiv eqb-true (λ (v : Vnode). v.number) (λ v. v.pins) c.args.heap.now.vnodes c.args.self.now.order c.args.number c.slot_of-slot.result c.get_vnode-was.result.now c.slot_of-slot.ensures c.get_vnode-was.ensures))
