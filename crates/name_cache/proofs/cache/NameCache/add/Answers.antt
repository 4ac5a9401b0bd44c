use Rattle.std.proofs.Common.{◌≡◌, ◌+◌, ◌-◌, cond, None, Some, [], ◌∷◌, ◌++◌, length, sym, ap, ◌∙◌, subst, length-append}
use Rattle.kabi_types.specs.declared.classes.Class.TheVariants as class
use Rattle.kheap_slabs.specs.Purse.{fills_of, with_fills}
use Rattle.kheap_slabs.specs.Objects.{object, put}
use Rattle.kheap_slabs.specs.declared.objects.Name.{Name}
use Rattle.kheap_slabs.proofs.ObjectLemmas.{put-within}
use Rattle.kheap_slabs.specs.Paid.{AreFills}
use Rattle.kheap_laws.proofs.FillLemmas.{AreFills-add}
use Rattle.lru_index.specs.Keys.{same_name}
use Rattle.name_cache.specs.Names.{key_of, name_of, name_slot, KeepsNames}
use Rattle.name_cache.proofs.KeyLemmas.{key_itself, same_key_laws}
use Rattle.cache_laws.proofs.KeepsLemmas.{keeps_put, cached_is}
use Rattle.name_cache.proofs.cache.NameCache.add.Goals as goal

pub returns-clause-keeps : goal.returns-clause-keeps
returns-clause-keeps c =
    let objects = c.args.heap.now.names in
    let old = c.self.inside.slots in
    let new = c.put.new.self in
    let slot = c.insert_name-slot.result in
    let made : Name = record { dir = c.args.key.dir; name = c.name_in.result; node = c.args.node } in
    let made_is : made ≡ name_of c.args.key c.args.node = ap (λ n. record { dir = c.args.key.dir; name = n; node = c.args.node }) c.name_in.ensures in
    let kept = c.insert_name-slot.ensures.kept in
    let keeps = subst (KeepsNames objects) (sym c.self.view_is) c.requires.keeps in
    let absent : name_slot old c.args.key ≡ None = ap (λ o. name_slot o c.args.key) c.self.view_is ∙ c.requires.absent in
    let stored : object (put objects slot made) slot ≡ Some made = sym (ap (λ h. object h.names slot) kept) ∙ c.insert_name-slot.ensures.stored in
    let named : key_of made ≡ c.args.key = ap key_of made_is ∙ c.requires.named in
    let long : length new.pairs ≡ length old.pairs + 1 = ap (λ o. length o.pairs) c.put.ensures.pairs ∙ length-append old.pairs ((c.args.key, slot) ∷ []) in
    subst (λ h. KeepsNames h.names new) (sym kept) (keeps_put same_key_laws same_name key_of objects old new c.args.key slot made keeps absent c.insert_name-slot.ensures.vacant (put-within objects slot made stored) named c.put.ensures.finds long)

pub returns-clause-fills : goal.returns-clause-fills
returns-clause-fills c =
    let purse = c.args.purse.now in
    let objects = c.args.heap.now.names in
    let slot = c.insert_name-slot.result in
    let made : Name = record { dir = c.args.key.dir; name = c.name_in.result; node = c.args.node } in
    let kept = c.insert_name-slot.ensures.kept in
    let stored : object (put objects slot made) slot ≡ Some made = sym (ap (λ h. object h.names slot) kept) ∙ c.insert_name-slot.ensures.stored in
    let added = AreFills-add objects purse.names purse.left.name purse.need.name slot made c.requires.left c.insert_name-slot.ensures.vacant stored c.requires.fills in
    let filled = c.add_fill.ensures ∙ ap (λ p. with_fills p class.Name (fills_of p class.Name ++ slot ∷ [])) c.spend.ensures.kept in
    subst (λ p. AreFills c.insert_name-slot.new.self.names p.names p.left.name p.need.name) (sym filled) (subst (λ b. AreFills b (purse.names ++ slot ∷ []) (purse.left.name - 1) purse.need.name) (sym (ap (λ h. h.names) kept)) added)

pub returns-clause-value : goal.returns-clause-value
returns-clause-value c =
    let slot = c.insert_name-slot.result in
    let made : Name = record { dir = c.args.key.dir; name = c.name_in.result; node = c.args.node } in
    let at : name_slot c.put.new.self c.args.key ≡ Some slot = c.put.ensures.finds c.args.key ∙ ap (λ b. cond b (Some slot) (name_slot c.self.inside.slots c.args.key)) (key_itself c.args.key) in
    cached_is same_key_laws same_name key_of (λ n. n.node) c.insert_name-slot.new.self.names c.put.new.self c.args.key slot made at c.insert_name-slot.ensures.stored
