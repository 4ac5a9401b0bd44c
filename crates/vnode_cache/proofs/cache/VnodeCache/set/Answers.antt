use Rattle.std.proofs.Common.{◌≡◌, Some, nat_eq, eqb-true, refl, sym, ap, ◌∙◌, subst, le_refl}
use Rattle.std.specs.Cmp.{nat_eq_equiv}
use Rattle.kheap_slabs.specs.Objects.{object, put}
use Rattle.kheap_slabs.specs.declared.objects.Vnode.{Vnode}
use Rattle.vnode_cache.specs.Nodes.{loose_count, StaysHeld}
use Rattle.cache_laws.specs.Caches.{Keeps}
use Rattle.std.specs.Option.{option_map}
use Rattle.cache_laws.proofs.KeepsLemmas.{keeps_used, keeps_set}
use Rattle.vnode_cache.proofs.HeldLemmas.{held_set}
use Rattle.vnode_cache.proofs.LooseLemmas.{loose_kept}
use Rattle.vnode_cache.proofs.cache.VnodeCache.set.Goals as goal

pub get_vnode-was-requires : goal.get_vnode-was-requires
get_vnode-was-requires c = keeps_used nat_eq_equiv eqb-true (λ (v : Vnode). v.number) c.args.heap.now.vnodes c.args.self.now.order c.args.number c.slot_of-slot.result c.requires.keeps.kept c.slot_of-slot.ensures

pub set_vnode-requires : goal.set_vnode-requires
set_vnode-requires c = keeps_used nat_eq_equiv eqb-true (λ (v : Vnode). v.number) c.args.heap.now.vnodes c.args.self.now.order c.args.number c.slot_of-slot.result c.requires.keeps.kept c.slot_of-slot.ensures

pub returns-clause-stored : goal.returns-clause-stored
returns-clause-stored c slot was at there =
    let slots : Some c.slot_of-slot.result ≡ Some slot = sym c.slot_of-slot.ensures ∙ at in
    let one : c.slot_of-slot.result ≡ slot = cc in
    let both : Some c.get_vnode-was.result.now ≡ Some was = sym c.get_vnode-was.ensures ∙ ap (object c.args.heap.now.vnodes) one ∙ there in
    let same : c.get_vnode-was.result.now ≡ was = cc in
    c.set_vnode.ensures.kept ∙ (λ i. record c.args.heap.now { vnodes = put c.args.heap.now.vnodes (one i) (record (same i) { inode = c.args.inode }) })

pub returns-clause-keeps : goal.returns-clause-keeps
returns-clause-keeps c =
    let number = λ (v : Vnode). v.number in
    let objects = c.args.heap.now.vnodes in
    let slot = c.slot_of-slot.result in
    let was = c.get_vnode-was.result.now in
    let now : Vnode = record was { inode = c.args.inode } in
    let both : Some was.number ≡ Some c.args.number = sym (ap (option_map number) c.get_vnode-was.ensures) ∙ c.requires.keeps.kept.there c.args.number slot c.slot_of-slot.ensures in
    let named : was.number ≡ c.args.number = cc in
    record {
      kept = subst (λ h. Keeps nat_eq number h.vnodes c.args.self.now.order) (sym c.set_vnode.ensures.kept) (keeps_set nat_eq_equiv eqb-true number objects c.args.self.now.order c.args.number slot now c.requires.keeps.kept c.slot_of-slot.ensures named);
      loose = c.requires.keeps.loose ∙ sym (loose_kept objects slot was now c.get_vnode-was.ensures refl) ∙ sym (ap (λ h. loose_count h.vnodes) c.set_vnode.ensures.kept);
    }

pub returns-clause-held : goal.returns-clause-held
returns-clause-held c other =
    let objects = c.args.heap.now.vnodes in
    let was = c.get_vnode-was.result.now in
    let now : Vnode = record was { inode = c.args.inode } in
    subst (λ h. StaysHeld other objects h.vnodes) (sym c.set_vnode.ensures.kept) (held_set other objects c.slot_of-slot.result was now c.get_vnode-was.ensures refl (le_refl _))
