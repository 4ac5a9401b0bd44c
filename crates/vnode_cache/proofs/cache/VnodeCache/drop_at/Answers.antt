use Rattle.std.proofs.Common.{◌≡◌, cond, ◌+◌, None, Some, IsSome, length, nat_eq, eqb-true, refl, sym, ap, ◌∙◌, subst}
use Rattle.std.specs.Cmp.{nat_eq_equiv}
use Rattle.kheap_slabs.specs.Objects.{object, without}
use Rattle.kheap_slabs.specs.declared.objects.Vnode.{Vnode}
use Rattle.vnode_cache.specs.Nodes.{is_loose, node_slot, KeepsNodes, IsLoose, loose_count, StaysHeld}
use Rattle.cache_laws.specs.Caches.{Keeps}
use Rattle.std.specs.Prelude.{remove}
use Rattle.std.specs.Option.{option_map}
use Rattle.kabi_types.specs.declared.classes.Class.TheVariants as class
use Rattle.kabi_types.specs.Counts.{counted, with_count}
use Rattle.kheap_slabs.specs.Purse.{Purse}
use Rattle.kheap_slabs.specs.Paid.{AreFills}
use Rattle.kheap_laws.proofs.FillLemmas.{AreFills-drop}
use Rattle.cache_laws.proofs.KeepsLemmas.{keeps_dropped, long_removed, one_key, none_either}
use Rattle.vnode_cache.proofs.HeldLemmas.{held_freed}
use Rattle.vnode_cache.proofs.LooseLemmas.{loose_less}
use Rattle.vnode_cache.proofs.cache.VnodeCache.drop_at.Goals as goal

pub drop_key-requires : goal.drop_key-requires
drop_key-requires c =
    let at : node_slot c.args.self.now c.free_vnode-gone.result.number ≡ Some c.drop_fill-slot.result = c.requires.keeps.kept.only c.free_vnode-gone.result.number c.drop_fill-slot.result (ap (option_map (λ v. v.number)) c.free_vnode-gone.ensures.value) in
    record { there = subst IsSome (sym (ap (λ o. node_slot o c.free_vnode-gone.result.number) c.self.view_is ∙ at)) refl }

pub returns-clause-keeps : goal.returns-clause-keeps
returns-clause-keeps c =
    let number = λ (v : Vnode). v.number in
    let objects = c.args.heap.now.vnodes in
    let old = c.self.inside.slots in
    let new = c.drop_key.new.self in
    let key = c.free_vnode-gone.result.number in
    let slot = c.drop_fill-slot.result in
    let keeps = subst (KeepsNodes objects) (sym c.self.view_is) c.requires.keeps in
    let free : IsLoose objects slot = ap (λ s. is_loose (object objects s)) c.drop_fill-slot.ensures.key ∙ c.requires.loose in
    let at = keeps.kept.only key slot (ap (option_map number) c.free_vnode-gone.ensures.value) in
    let long : length new.pairs + 1 ≡ length old.pairs = ap (λ o. length o.pairs + 1) c.drop_key.ensures.pairs ∙ long_removed nat_eq_equiv eqb-true number old.pairs key slot at in
    record {
      kept = subst (λ h. Keeps nat_eq number h.vnodes new) (sym c.free_vnode-gone.ensures.kept) (keeps_dropped nat_eq_equiv eqb-true number objects old new key slot keeps.kept at c.drop_key.ensures.finds long);
      loose = (loose_less c.self.inside.loose objects slot keeps.loose free).1 ∙ sym (ap (λ h. loose_count h.vnodes) c.free_vnode-gone.ensures.kept);
    }

pub returns-clause-held : goal.returns-clause-held
returns-clause-held c other =
    let objects = c.args.heap.now.vnodes in
    let slot = c.drop_fill-slot.result in
    let free : IsLoose objects slot = ap (λ s. is_loose (object objects s)) c.drop_fill-slot.ensures.key ∙ c.requires.loose in
    subst (λ h. StaysHeld other objects h.vnodes) (sym c.free_vnode-gone.ensures.kept) (held_freed other objects slot free)

-- a purse that got one Vnode back
abbrev given : Purse → Purse
given p = record p { left = with_count p.left class.Vnode (counted p.left class.Vnode + 1) }

pub returns-clause-fills : goal.returns-clause-fills
returns-clause-fills c =
    let purse = c.args.purse.now in
    let objects = c.args.heap.now.vnodes in
    let dropped = AreFills-drop objects purse.vnodes purse.left.vnode purse.need.vnode c.args.at c.requires.at c.requires.fills in
    let vnodes = ap (λ h. h.vnodes) c.free_vnode-gone.ensures.kept ∙ ap (without objects) c.drop_fill-slot.ensures.key in
    let given_is = c.give.ensures.kept ∙ ap given c.drop_fill-slot.ensures.kept in
    subst (λ p. AreFills c.free_vnode-gone.new.self.vnodes p.vnodes p.left.vnode p.need.vnode) (sym given_is) (subst (λ b. AreFills b (remove purse.vnodes c.args.at) (purse.left.vnode + 1) purse.need.vnode) (sym vnodes) dropped)

pub returns-clause-slot : goal.returns-clause-slot
returns-clause-slot c =
    let at = c.requires.keeps.kept.only c.free_vnode-gone.result.number c.drop_fill-slot.result (ap (option_map (λ v. v.number)) c.free_vnode-gone.ensures.value) in
    let both : Some c.drop_key.result ≡ Some c.drop_fill-slot.result = sym c.drop_key.ensures.slot ∙ ap (λ o. node_slot o c.free_vnode-gone.result.number) c.self.view_is ∙ at in
    let one : c.drop_key.result ≡ c.drop_fill-slot.result = cc in
    one ∙ c.drop_fill-slot.ensures.key

pub returns-clause-absent : goal.returns-clause-absent
returns-clause-absent c other none = c.drop_key.ensures.finds other ∙ ap (cond (nat_eq c.free_vnode-gone.result.number other) None) (ap (λ o. node_slot o other) c.self.view_is ∙ none) ∙ none_either (nat_eq c.free_vnode-gone.result.number other)

pub overflow_sub-self : goal.overflow_sub-self
overflow_sub-self c =
    let objects = c.args.heap.now.vnodes in
    let slot = c.drop_fill-slot.result in
    let keeps = subst (KeepsNodes objects) (sym c.self.view_is) c.requires.keeps in
    let free : IsLoose objects slot = ap (λ s. is_loose (object objects s)) c.drop_fill-slot.ensures.key ∙ c.requires.loose in
    (loose_less c.self.inside.loose objects slot keeps.loose free).0

pub returns-clause-slots : goal.returns-clause-slots
returns-clause-slots c key is other =
    let at = ap (λ o. node_slot o c.free_vnode-gone.result.number) (sym c.self.view_is) ∙ c.drop_key.ensures.slot in
    let one : c.free_vnode-gone.result.number ≡ key = one_key nat_eq_equiv eqb-true (λ (v : Vnode). v.number) c.args.heap.now.vnodes c.args.self.now.order c.free_vnode-gone.result.number key c.drop_key.result c.requires.keeps.kept at is in
    c.drop_key.ensures.finds other ∙ (λ i. cond (nat_eq (one i) other) None (node_slot (c.self.view_is i) other))
