use Rattle.std.proofs.Common.{◌≡◌, ◌+◌, length, sym, ap, ◌∙◌, subst}
use Rattle.lru_index.specs.Keys.{same_name}
use Rattle.name_cache.specs.Names.{key_of, name_slot, KeepsNames}
use Rattle.name_cache.proofs.KeyLemmas.{same_key_laws}
use Rattle.cache_laws.proofs.KeepsLemmas.{keeps_used, keeps_dropped, long_removed}
use Rattle.name_cache.proofs.cache.NameCache.evict_coldest.Goals as goal

pub free_name-requires : goal.free_name-requires
free_name-requires c = keeps_used same_key_laws same_name key_of c.args.heap.now.names c.args.self.now c.in-Some.key c.drop_key-slot.result c.requires.keeps (ap (λ o. name_slot o c.in-Some.key) (sym c.self.view_is) ∙ c.drop_key-slot.ensures.slot)

pub returns-clause-keeps : goal.returns-clause-keeps
returns-clause-keeps c =
    let objects = c.args.heap.now.names in
    let old = c.self.inside.slots in
    let new = c.drop_key-slot.new.self in
    let key = c.in-Some.key in
    let slot = c.drop_key-slot.result in
    let keeps = subst (KeepsNames objects) (sym c.self.view_is) c.requires.keeps in
    let long : length new.pairs + 1 ≡ length old.pairs = ap (λ o. length o.pairs + 1) c.drop_key-slot.ensures.pairs ∙ long_removed same_key_laws same_name key_of old.pairs key slot c.drop_key-slot.ensures.slot in
    subst (λ h. KeepsNames h.names new) (sym c.free_name.ensures.kept) (keeps_dropped same_key_laws same_name key_of objects old new key slot keeps c.drop_key-slot.ensures.slot c.drop_key-slot.ensures.finds long)
