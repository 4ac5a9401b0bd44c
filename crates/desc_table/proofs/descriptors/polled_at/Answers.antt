use Rattle.std.proofs.Common.{◌≡◌, List, Option, None, length, refl, sym, ap, subst, ◌∙◌, arith, rules, w64}
use Rattle.std.specs.Option.{option_map}
use Rattle.std.proofs.lemmas.Int.{to_z-of_z}
use Rattle.std.proofs.lemmas.List.{get_or_past}
use Rattle.kheap_slabs.specs.Leaves.{numbers_by}
use Rattle.kheap_slabs.specs.declared.objects.Descriptor.{Descriptor as Held}
use Rattle.kheap_laws.proofs.LeafLemmas.{numbers_by-length}
use Rattle.open_laws.specs.Described.{access_in}
use Rattle.open_laws.specs.Polled.{IsOpenIn, TellsOpen, TellsTarget}
use Rattle.desc_table.specs.Numbered.{descriptor_in}
use Rattle.desc_table.proofs.NumberLemmas.{open_there, seen_at, tells_desc}
use Rattle.desc_table.proofs.descriptors.polled_at.Goals as goal

pub returns-then-fd-from : goal.returns-then-fd-from
returns-then-fd-from c =
    let places : List (Option Held) = (numbers_by c.args.heap.now.leaves c.args.places.now c.args.leaves.now) in
    let many : length places ≡ 128 = numbers_by-length c.args.heap.now.leaves c.args.places.now c.args.leaves.now c.is_well_formed.ensures.leaf_rows (search rules) (search rules) in
    let above = c.if-fd-from.true in
    let most = c.from.ensures in
    let is = seen_at places c.args.fd ∙ ap (option_map descriptor_in) (get_or_past places c.args.fd None (omega (arith, many, above, most))) in
    subst (λ o. TellsOpen c.args.heap.now c.args.events 32 o) (sym is) refl

pub get_desc-requires : goal.get_desc-requires
get_desc-requires c =
    let is = seen_at (numbers_by c.args.heap.now.leaves c.args.places.now c.args.leaves.now) c.args.fd ∙ ap (option_map descriptor_in) (sym c.at.ensures ∙ c.in-Some.is) in
    (open_there c.args.heap.now c.in-Some.descriptor (subst (IsOpenIn c.args.heap.now) is c.requires.there)).0

pub polled_desc-requires : goal.polled_desc-requires
polled_desc-requires c =
    let is = seen_at (numbers_by c.args.heap.now.leaves c.args.places.now c.args.leaves.now) c.args.fd ∙ ap (option_map descriptor_in) (sym c.at.ensures ∙ c.in-Some.is) in
    (open_there c.args.heap.now c.in-Some.descriptor (subst (IsOpenIn c.args.heap.now) is c.requires.there)).1 c.get_desc.result.now c.get_desc.ensures

pub returns-in-Some : goal.returns-in-Some
returns-in-Some c =
    let is = seen_at (numbers_by c.args.heap.now.leaves c.args.places.now c.args.leaves.now) c.args.fd ∙ ap (option_map descriptor_in) (sym c.at.ensures ∙ c.in-Some.is) in
    subst (λ o. TellsOpen c.args.heap.now c.args.events c.polled_desc.result o) (sym is)
    (tells_desc c.args.heap.now c.args.events c.polled_desc.result c.in-Some.descriptor c.get_desc.result.now c.get_desc.ensures
    (subst (λ z. TellsTarget c.args.heap.now (access_in c.get_desc.result.now.access) z c.polled_desc.result c.get_desc.result.now.target) (to_z-of_z w64 c.args.events c.ranges.events) c.polled_desc.ensures))

pub returns-in-None : goal.returns-in-None
returns-in-None c =
    let is = seen_at (numbers_by c.args.heap.now.leaves c.args.places.now c.args.leaves.now) c.args.fd ∙ ap (option_map descriptor_in) (sym c.at.ensures ∙ c.in-None.is) in
    subst (λ o. TellsOpen c.args.heap.now c.args.events 32 o) (sym is) refl
