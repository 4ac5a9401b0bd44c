use Rattle.std.proofs.Common.{◌≡◌, List, Option, length, sym, ap, ◌∙◌, arith, rules, not}
use Rattle.std.specs.Option.{option_map}
use Rattle.kheap_slabs.specs.Leaves.{numbers_by}
use Rattle.kheap_slabs.specs.declared.objects.Descriptor.{Descriptor as Held}
use Rattle.kheap_laws.proofs.LeafLemmas.{numbers_by-length}
use Rattle.desc_table.specs.Numbered.{descriptor_in, descriptors_in}
use Rattle.desc_table.proofs.NumberLemmas.{free_seen, length_seen, lowest_found, lowest_passed, none_from, seen_at, taken_seen}
use Rattle.desc_table.proofs.descriptors.lowest_among.Goals as goal

pub returns-then-is_none : goal.returns-then-is_none
returns-then-is_none c =
    let places : List (Option Held) = numbers_by c.args.heap.now.leaves c.args.places.now c.args.leaves.now in
    let many : length places ≡ 128 = numbers_by-length c.args.heap.now.leaves c.args.places.now c.args.leaves.now c.is_well_formed.ensures.leaf_rows (search rules) (search rules) in
    let long = length_seen places in
    let free = seen_at places c.loop-fd.fd ∙ ap (option_map descriptor_in) (sym c.at.ensures) ∙ free_seen c.at.result (ap not c.is_none.ensures ∙ ap (λ b. not (not b)) c.if-is_none.true) in
    sym (lowest_found c.loop-fd.fd (descriptors_in places) (omega (arith, long, many)) free) ∙ c.loop-fd.invariant

pub loop-fd-preserved : goal.loop-fd-preserved
loop-fd-preserved c =
    let places : List (Option Held) = numbers_by c.args.heap.now.leaves c.args.places.now c.args.leaves.now in
    let many : length places ≡ 128 = numbers_by-length c.args.heap.now.leaves c.args.places.now c.args.leaves.now c.is_well_formed.ensures.leaf_rows (search rules) (search rules) in
    let long = length_seen places in
    let taken = taken_seen c.at.result (ap not c.is_none.ensures ∙ ap (λ b. not (not b)) c.if-is_none.false) in
    let is = seen_at places c.loop-fd.fd ∙ ap (option_map descriptor_in) (sym c.at.ensures) ∙ taken.1 in
    sym (lowest_passed c.loop-fd.fd (descriptors_in places) taken.0 (omega (arith, long, many)) is) ∙ c.loop-fd.invariant

pub returns : goal.returns
returns c =
    let places : List (Option Held) = numbers_by c.args.heap.now.leaves c.args.places.now c.args.leaves.now in
    let many : length places ≡ 128 = numbers_by-length c.args.heap.now.leaves c.args.places.now c.args.leaves.now c.is_well_formed.ensures.leaf_rows (search rules) (search rules) in
    let long = length_seen places in
    sym (none_from c.loop-fd.fd (descriptors_in places) (omega (arith, long, many))) ∙ c.loop-fd.invariant
