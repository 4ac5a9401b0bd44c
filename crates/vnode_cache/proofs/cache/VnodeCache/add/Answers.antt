use Rattle.std.proofs.Common.{◌≡◌, cond, ◌+◌, ◌-◌, ◌<◌, ◌≤◌, ℕ, None, Some, [], ◌∷◌, ◌++◌, length, nat_eq, eqb-true, refl, sym, ap, ◌∙◌, subst, arith, length-append}
use Rattle.std.specs.Cmp.{nat_eq_equiv}
use Rattle.kheap_slabs.specs.Objects.{object, count, put}
use Rattle.kheap_slabs.specs.declared.objects.Vnode.{Vnode}
use Rattle.vnode_cache.specs.Nodes.{node_slot, KeepsNodes, loose_count, StaysHeld}
use Rattle.cache_laws.specs.Caches.{slot_of, Keeps}
use Rattle.kabi_types.specs.declared.classes.Class.TheVariants as class
use Rattle.kheap_slabs.specs.Purse.{fills_of, with_fills}
use Rattle.kheap_slabs.proofs.ObjectLemmas.{put-within, count-put_new}
use Rattle.kheap_slabs.specs.Paid.{AreFills}
use Rattle.kheap_laws.proofs.FillLemmas.{AreFills-add}
use Rattle.cache_laws.proofs.KeepsLemmas.{keeps_put, cached_is}
use Rattle.vnode_cache.specs.Calls.{new_vnode}
use Rattle.vnode_cache.proofs.HeldLemmas.{held_made}
use Rattle.vnode_cache.proofs.LooseLemmas.{loose_made, loose_few}
use Rattle.vnode_cache.proofs.cache.VnodeCache.add.Goals as goal

pub returns-clause-keeps : goal.returns-clause-keeps
returns-clause-keeps c =
    let number = λ (v : Vnode). v.number in
    let objects = c.args.heap.now.vnodes in
    let old = c.self.inside.slots in
    let new = c.put.new.self in
    let slot = c.insert_vnode-slot.result in
    let made = new_vnode c.args.number c.args.inode in
    let kept = c.insert_vnode-slot.ensures.kept in
    let keeps = subst (KeepsNodes objects) (sym c.self.view_is) c.requires.keeps in
    let absent : slot_of nat_eq old c.args.number ≡ None = ap (λ o. node_slot o c.args.number) c.self.view_is ∙ c.requires.absent in
    let stored : object (put objects slot made) slot ≡ Some made = sym (ap (λ h. object h.vnodes slot) kept) ∙ c.insert_vnode-slot.ensures.stored in
    let within = put-within objects slot made stored in
    let long : length new.pairs ≡ length old.pairs + 1 = ap (λ o. length o.pairs) c.put.ensures.pairs ∙ length-append old.pairs ((c.args.number, slot) ∷ []) in
    record {
      kept = subst (λ h. Keeps nat_eq number h.vnodes new) (sym kept) (keeps_put nat_eq_equiv eqb-true number objects old new c.args.number slot made keeps.kept absent c.insert_vnode-slot.ensures.vacant within refl c.put.ensures.finds long);
      loose = c.one_more-self-inside.ensures ∙ ap (λ n. n + 1) keeps.loose ∙ sym (loose_made objects slot made within c.insert_vnode-slot.ensures.vacant refl) ∙ sym (ap (λ h. loose_count h.vnodes) kept);
    }

pub returns-clause-held : goal.returns-clause-held
returns-clause-held c other =
    let objects = c.args.heap.now.vnodes in
    subst (λ h. StaysHeld other objects h.vnodes) (sym c.insert_vnode-slot.ensures.kept) (held_made other objects c.insert_vnode-slot.result (new_vnode c.args.number c.args.inode) c.insert_vnode-slot.ensures.vacant)

pub returns-clause-fills : goal.returns-clause-fills
returns-clause-fills c =
    let purse = c.args.purse.now in
    let objects = c.args.heap.now.vnodes in
    let slot = c.insert_vnode-slot.result in
    let made = new_vnode c.args.number c.args.inode in
    let kept = c.insert_vnode-slot.ensures.kept in
    let stored : object (put objects slot made) slot ≡ Some made = sym (ap (λ h. object h.vnodes slot) kept) ∙ c.insert_vnode-slot.ensures.stored in
    let added = AreFills-add objects purse.vnodes purse.left.vnode purse.need.vnode slot made c.requires.left c.insert_vnode-slot.ensures.vacant stored c.requires.fills in
    let filled = c.add_fill.ensures ∙ ap (λ p. with_fills p class.Vnode (fills_of p class.Vnode ++ slot ∷ [])) c.spend.ensures.kept in
    subst (λ p. AreFills c.insert_vnode-slot.new.self.vnodes p.vnodes p.left.vnode p.need.vnode) (sym filled) (subst (λ b. AreFills b (purse.vnodes ++ slot ∷ []) (purse.left.vnode - 1) purse.need.vnode) (sym (ap (λ h. h.vnodes) kept)) added)

pub returns-clause-value : goal.returns-clause-value
returns-clause-value c =
    let slot = c.insert_vnode-slot.result in
    let number = λ (v : Vnode). v.number in
    let at : slot_of nat_eq c.put.new.self c.args.number ≡ Some slot = c.put.ensures.finds c.args.number ∙ ap (λ b. cond b (Some slot) (slot_of nat_eq c.self.inside.slots c.args.number)) (nat_eq_equiv.refl c.args.number) in
    cached_is nat_eq_equiv eqb-true number (λ v. v.inode) c.insert_vnode-slot.new.self.vnodes c.put.new.self c.args.number slot (new_vnode c.args.number c.args.inode) at c.insert_vnode-slot.ensures.stored

pub one_more-self-inside-requires : goal.one_more-self-inside-requires
one_more-self-inside-requires c =
    let objects = c.args.heap.now.vnodes in
    let slot = c.insert_vnode-slot.result in
    let made = new_vnode c.args.number c.args.inode in
    let kept = c.insert_vnode-slot.ensures.kept in
    let keeps = subst (KeepsNodes objects) (sym c.self.view_is) c.requires.keeps in
    let stored : object (put objects slot made) slot ≡ Some made = sym (ap (λ h. object h.vnodes slot) kept) ∙ c.insert_vnode-slot.ensures.stored in
    let more : count (put objects slot made) ≡ count objects + 1 = count-put_new objects slot made (put-within objects slot made stored) c.insert_vnode-slot.ensures.vacant in
    subst (λ h. c.self.inside.loose < count h.vnodes) (sym kept) (fewer c.self.inside.loose (loose_count objects) (count objects) (count (put objects slot made)) keeps.loose (loose_few objects) more)
  where
    fewer : (l n m k : ℕ) → l ≡ n → n ≤ m → k ≡ m + 1 → l < k
    fewer l n m k first second third = omega arith
