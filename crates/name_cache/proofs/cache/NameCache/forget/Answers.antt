use Rattle.std.proofs.Common.{◌≡◌, ◌+◌, cond, None, length, sym, ap, ◌∙◌, subst}
use Rattle.lru_index.specs.Keys.{same_name}
use Rattle.name_cache.specs.Names.{same_key, key_of, name_slot, KeepsNames}
use Rattle.name_cache.proofs.KeyLemmas.{same_key_laws}
use Rattle.cache_laws.proofs.KeepsLemmas.{keeps_used, keeps_dropped, long_removed, absent_found}
use Rattle.name_cache.proofs.cache.NameCache.forget.Goals as goal

pub free_name-requires : goal.free_name-requires
free_name-requires c = keeps_used same_key_laws same_name key_of c.args.heap.now.names c.args.self.now c.args.key c.drop_key-slot.result c.requires.keeps (ap (λ o. name_slot o c.args.key) (sym c.self.view_is) ∙ c.drop_key-slot.ensures.slot)

pub returns-clause-keeps : goal.returns-clause-keeps
returns-clause-keeps c =
    let objects = c.args.heap.now.names in
    let old = c.self.inside.slots in
    let new = c.drop_key-slot.new.self in
    let key = c.args.key in
    let slot = c.drop_key-slot.result in
    let keeps = subst (KeepsNames objects) (sym c.self.view_is) c.requires.keeps in
    let long : length new.pairs + 1 ≡ length old.pairs = ap (λ o. length o.pairs + 1) c.drop_key-slot.ensures.pairs ∙ long_removed same_key_laws same_name key_of old.pairs key slot c.drop_key-slot.ensures.slot in
    subst (λ h. KeepsNames h.names new) (sym c.free_name.ensures.kept) (keeps_dropped same_key_laws same_name key_of objects old new key slot keeps c.drop_key-slot.ensures.slot c.drop_key-slot.ensures.finds long)

pub returns-in_default-clause-slots : goal.returns-in_default-clause-slots
returns-in_default-clause-slots c = absent_found same_key_laws same_name key_of c.args.self.now c.args.key (ap (λ o. name_slot o c.args.key) (sym c.self.view_is) ∙ sym c.in_default.ensures.slot)

pub returns-clause-slots : goal.returns-clause-slots
returns-clause-slots c other = c.drop_key-slot.ensures.finds other ∙ ap (λ o. cond (same_key c.args.key other) None (name_slot o other)) c.self.view_is
