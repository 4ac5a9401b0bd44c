use Rattle.std.proofs.Common.{◌≡◌, Some, sym, ap, ◌∙◌, subst}
use Rattle.std.specs.Option.{option_map}
use Rattle.kheap_slabs.specs.Objects.{object, put}
use Rattle.lru_index.specs.NameKeys.{name_key}
use Rattle.kheap_slabs.specs.declared.objects.Name.{Name}
use Rattle.lru_index.specs.Keys.{same_name}
use Rattle.name_cache.specs.Names.{key_of, name_slot, KeepsNames}
use Rattle.name_cache.proofs.KeyLemmas.{same_key_laws}
use Rattle.cache_laws.proofs.KeepsLemmas.{keeps_used, keeps_set}
use Rattle.name_cache.proofs.cache.NameCache.set.Goals as goal

pub get_name-was-requires : goal.get_name-was-requires
get_name-was-requires c = keeps_used same_key_laws same_name key_of c.args.heap.now.names c.args.self.now c.args.key c.in-Some.slot c.requires.keeps (ap (λ o. name_slot o c.args.key) (sym c.self.view_is) ∙ sym c.in-Some.ensures.slot)

pub returns-clause-stored : goal.returns-clause-stored
returns-clause-stored c slot was at there =
    let here : Some c.in-Some.slot ≡ Some slot = c.in-Some.ensures.slot ∙ ap (λ o. name_slot o c.args.key) c.self.view_is ∙ at in
    let one : c.in-Some.slot ≡ slot = cc in
    let both : Some c.get_name-was.result.now ≡ Some was = sym c.get_name-was.ensures ∙ ap (object c.args.heap.now.names) one ∙ there in
    let same : c.get_name-was.result.now ≡ was = cc in
    c.set_name.ensures.kept ∙ (λ i. record c.args.heap.now { names = put c.args.heap.now.names (one i) (record { dir = (same i).dir; name = (c.copy.ensures ∙ ap (λ n. n.name) same) i; node = c.args.node }) })

pub returns-clause-keeps : goal.returns-clause-keeps
returns-clause-keeps c =
    let objects = c.args.heap.now.names in
    let was = c.get_name-was.result.now in
    let made : Name = record { dir = was.dir; name = c.copy.result; node = c.args.node } in
    let at = ap (λ o. name_slot o c.args.key) (sym c.self.view_is) ∙ sym c.in-Some.ensures.slot in
    let both : Some (key_of was) ≡ Some c.args.key = sym (ap (option_map key_of) c.get_name-was.ensures) ∙ c.requires.keeps.there c.args.key c.in-Some.slot at in
    let named : key_of was ≡ c.args.key = cc in
    subst (λ h. KeepsNames h.names c.args.self.now) (sym c.set_name.ensures.kept) (keeps_set same_key_laws same_name key_of objects c.args.self.now c.args.key c.in-Some.slot made c.requires.keeps at (ap (λ n. name_key was.dir n) c.copy.ensures ∙ named))
