use Rattle.std.proofs.Common.{◌≡◌, ℕ, Some, IsSome, Contains, sym, ap, ◌∙◌, subst}
use Rattle.std.specs.Prelude.{MatchOption}
use Rattle.kheap_slabs.specs.Objects.{without}
use Rattle.kheap_slabs.proofs.ObjectLemmas.{object-without_other}
use Rattle.kheap_slabs.specs.Paid.{AreFills}
use Rattle.kheap_laws.proofs.FillLemmas.{AreFills-kept}
use Rattle.lru_index.specs.Keys.{same_name}
use Rattle.cache_laws.specs.Caches.{IsAt}
use Rattle.cache_laws.proofs.KeepsLemmas.{absent_found, at_none}
use Rattle.name_cache.specs.Names.{key_of, name_slot, NameGone, Unchanged}
use Rattle.name_cache.proofs.KeyLemmas.{same_key_laws}
use Rattle.name_cache.proofs.cache.NameCache.let_go.Goals as goal

pub returns-in_default-clause-slots : goal.returns-in_default-clause-slots
returns-in_default-clause-slots c = absent_found same_key_laws same_name key_of c.args.self.now c.args.key (ap (λ o. name_slot o c.args.key) (sym c.self.view_is) ∙ sym c.in_default.ensures.slot)

pub returns-in_default-place_of-clause-fills : goal.returns-in_default-place_of-clause-fills
returns-in_default-place_of-clause-fills c =
    let slot = c.in-Some.slot in
    let keys = c.args.purse.now.names in
    let at : name_slot c.args.self.now c.args.key ≡ Some slot = ap (λ o. name_slot o c.args.key) (sym c.self.view_is) ∙ sym c.in-Some.ensures.slot in
    let gone = subst (λ o. MatchOption o (Unchanged c.args.heap.now c.forget.new.heap c.args.self.now c.forget.new.self) (λ s. NameGone c.args.key s c.args.heap.now c.forget.new.heap c.args.self.now c.forget.new.self)) at c.forget.ensures.gone in
    let none = at_none keys slot (subst (λ l. (place : ℕ) → IsAt l slot place → ⊥) c.fills.ensures c.in_default-place_of.ensures) in
    subst (λ h. AreFills h.names keys c.args.purse.now.left.name c.args.purse.now.need.name) (sym gone.heap) (AreFills-kept c.args.heap.now.names (without c.args.heap.now.names slot) keys c.args.purse.now.left.name c.args.purse.now.need.name (λ key there used. subst IsSome (sym (object-without_other c.args.heap.now.names slot key (λ e. none (subst (Contains keys) e there)))) used) c.requires.fills)

pub returns-clause-slots : goal.returns-clause-slots
returns-clause-slots c =
    let at : name_slot c.args.self.now c.args.key ≡ Some c.in-Some.slot = ap (λ o. name_slot o c.args.key) (sym c.self.view_is) ∙ sym c.in-Some.ensures.slot in
    let place = subst (λ l. IsAt l c.in-Some.slot c.in-Some-place_of.at) c.fills.ensures c.in-Some-place_of.ensures in
    c.drop_at-slot.ensures.slots c.args.key (at ∙ ap Some (sym (c.drop_at-slot.ensures.slot ∙ place.1)))
