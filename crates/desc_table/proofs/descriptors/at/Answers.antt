use Rattle.std.proofs.Common.{◌≡◌, length, get_or, None, Some, sym, ap, ◌∙◌, subst, rules}
use Rattle.std.proofs.lemmas.List.{get_or-replicate}
use Rattle.kheap_slabs.specs.Leaves.{place_of, row_at, row_of}
use Rattle.kheap_laws.proofs.KeyPlaces.{key_there}
use Rattle.kheap_laws.proofs.LeafLemmas.{numbers_by-first, numbers_by-leaf}
use Rattle.desc_table.proofs.NumberLemmas.{in_a_row}
use Rattle.desc_table.proofs.descriptors.at.Goals as goal

pub returns-then-fd-lt-ROW : goal.returns-then-fd-lt-ROW
returns-then-fd-lt-ROW c =
    let long : length c.args.places.now ≡ 32 = search rules in
    sym (numbers_by-first c.args.heap.now.leaves c.args.places.now c.args.leaves.now c.args.fd long c.if-fd-lt-ROW.true)

pub get_leaf-requires : goal.get_leaf-requires
get_leaf-requires c = c.requires.owns.used c.in-Some.key (key_there c.args.leaves.now c.group_of.result c.in-Some.key c.in-Some.is)

pub returns-in-Some : goal.returns-in-Some
returns-in-Some c =
    let long : length c.args.places.now ≡ 32 = search rules in
    let three : length c.args.leaves.now ≡ 3 = search rules in
    let named = subst (λ g. get_or c.args.leaves.now g None ≡ Some c.in-Some.key) c.group_of.ensures.group c.in-Some.is in
    sym (numbers_by-leaf c.args.heap.now.leaves c.args.places.now c.args.leaves.now c.args.fd c.is_well_formed.ensures.leaf_rows long three c.if-fd-lt-ROW.false c.requires.number
    ∙ (ap (λ k. get_or (row_at c.args.heap.now.leaves k) (place_of c.args.fd) None) named
    ∙ ap (λ o. get_or (row_of o) (place_of c.args.fd) None) c.get_leaf.ensures))

pub returns-in-None : goal.returns-in-None
returns-in-None c =
    let long : length c.args.places.now ≡ 32 = search rules in
    let three : length c.args.leaves.now ≡ 3 = search rules in
    let named = subst (λ g. get_or c.args.leaves.now g None ≡ None) c.group_of.ensures.group c.in-None.is in
    sym (numbers_by-leaf c.args.heap.now.leaves c.args.places.now c.args.leaves.now c.args.fd c.is_well_formed.ensures.leaf_rows long three c.if-fd-lt-ROW.false c.requires.number
    ∙ (ap (λ k. get_or (row_at c.args.heap.now.leaves k) (place_of c.args.fd) None) named
    ∙ get_or-replicate 32 (place_of c.args.fd) None None (in_a_row c.args.fd)))
