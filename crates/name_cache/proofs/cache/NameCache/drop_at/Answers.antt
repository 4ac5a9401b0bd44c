use Rattle.std.proofs.Common.{◌≡◌, ◌+◌, cond, None, Some, IsSome, length, refl, sym, ap, ◌∙◌, subst}
use Rattle.std.specs.Prelude.{remove}
use Rattle.std.specs.Option.{option_map}
use Rattle.kabi_types.specs.declared.classes.Class.TheVariants as class
use Rattle.kabi_types.specs.Counts.{counted, with_count}
use Rattle.kheap_slabs.specs.Objects.{without}
use Rattle.kheap_slabs.specs.Purse.{Purse}
use Rattle.kheap_slabs.specs.Paid.{AreFills}
use Rattle.kheap_laws.proofs.FillLemmas.{AreFills-drop}
use Rattle.lru_index.specs.Keys.{same_name}
use Rattle.name_cache.specs.Names.{same_key, key_of, name_slot, KeepsNames}
use Rattle.name_cache.proofs.KeyLemmas.{same_key_laws}
use Rattle.cache_laws.specs.Caches.{key_at}
use Rattle.cache_laws.proofs.KeepsLemmas.{keeps_dropped, long_removed, one_key, none_either}
use Rattle.name_cache.proofs.cache.NameCache.drop_at.Goals as goal

pub drop_key-requires : goal.drop_key-requires
drop_key-requires c =
    let key_is : key_at key_of c.args.heap.now.names c.drop_fill-slot.result ≡ Some c.of-key.result = ap (option_map key_of) c.free_name-gone.ensures.value ∙ ap Some (sym c.of-key.ensures) in
    let at : name_slot c.args.self.now c.of-key.result ≡ Some c.drop_fill-slot.result = c.requires.keeps.only c.of-key.result c.drop_fill-slot.result key_is in
    record { there = subst IsSome (sym (ap (λ o. name_slot o c.of-key.result) c.self.view_is ∙ at)) refl }

pub returns-clause-keeps : goal.returns-clause-keeps
returns-clause-keeps c =
    let objects = c.args.heap.now.names in
    let old = c.self.inside.slots in
    let new = c.drop_key.new.self in
    let key = c.of-key.result in
    let slot = c.drop_fill-slot.result in
    let keeps = subst (KeepsNames objects) (sym c.self.view_is) c.requires.keeps in
    let key_is : key_at key_of objects slot ≡ Some key = ap (option_map key_of) c.free_name-gone.ensures.value ∙ ap Some (sym c.of-key.ensures) in
    let at : name_slot old key ≡ Some slot = keeps.only key slot key_is in
    let long : length new.pairs + 1 ≡ length old.pairs = ap (λ o. length o.pairs + 1) c.drop_key.ensures.pairs ∙ long_removed same_key_laws same_name key_of old.pairs key slot at in
    subst (λ h. KeepsNames h.names new) (sym c.free_name-gone.ensures.kept) (keeps_dropped same_key_laws same_name key_of objects old new key slot keeps at c.drop_key.ensures.finds long)

-- a purse that got one Name back
abbrev given : Purse → Purse
given p = record p { left = with_count p.left class.Name (counted p.left class.Name + 1) }

pub returns-clause-fills : goal.returns-clause-fills
returns-clause-fills c =
    let purse = c.args.purse.now in
    let objects = c.args.heap.now.names in
    let dropped = AreFills-drop objects purse.names purse.left.name purse.need.name c.args.at c.requires.at c.requires.fills in
    let names = ap (λ h. h.names) c.free_name-gone.ensures.kept ∙ ap (without objects) c.drop_fill-slot.ensures.key in
    let given_is = c.give.ensures.kept ∙ ap given c.drop_fill-slot.ensures.kept in
    subst (λ p. AreFills c.free_name-gone.new.self.names p.names p.left.name p.need.name) (sym given_is) (subst (λ b. AreFills b (remove purse.names c.args.at) (purse.left.name + 1) purse.need.name) (sym names) dropped)

pub returns-clause-slot : goal.returns-clause-slot
returns-clause-slot c =
    let key_is : key_at key_of c.args.heap.now.names c.drop_fill-slot.result ≡ Some c.of-key.result = ap (option_map key_of) c.free_name-gone.ensures.value ∙ ap Some (sym c.of-key.ensures) in
    let at = c.requires.keeps.only c.of-key.result c.drop_fill-slot.result key_is in
    let both : Some c.drop_key.result ≡ Some c.drop_fill-slot.result = sym c.drop_key.ensures.slot ∙ ap (λ o. name_slot o c.of-key.result) c.self.view_is ∙ at in
    let one : c.drop_key.result ≡ c.drop_fill-slot.result = cc in
    one ∙ c.drop_fill-slot.ensures.key

pub returns-clause-slots : goal.returns-clause-slots
returns-clause-slots c key is other =
    let at = ap (λ o. name_slot o c.of-key.result) (sym c.self.view_is) ∙ c.drop_key.ensures.slot in
    let one : c.of-key.result ≡ key = one_key same_key_laws same_name key_of c.args.heap.now.names c.args.self.now c.of-key.result key c.drop_key.result c.requires.keeps at is in
    c.drop_key.ensures.finds other ∙ (λ i. cond (same_key (one i) other) None (name_slot (c.self.view_is i) other))

pub returns-clause-absent : goal.returns-clause-absent
returns-clause-absent c other none = c.drop_key.ensures.finds other ∙ ap (cond (same_key c.of-key.result other) None) (ap (λ o. name_slot o other) c.self.view_is ∙ none) ∙ none_either (same_key c.of-key.result other)
