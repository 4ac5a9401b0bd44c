use Rattle.std.proofs.Common.{◌≡◌, List, Option, get_or, set, cond, None, Some, true, false, refl, sym, ap, subst, ◌∙◌, arith}
use Rattle.std.proofs.lemmas.List.{get_or-set_same}
use Rattle.kheap_slabs.specs.Heap.{Heap}
use Rattle.kheap_slabs.specs.Leaves.{OwnsLeaves, has_place, no_row, place_of}
use Rattle.kheap_slabs.specs.declared.objects.Descriptor.{Descriptor as Held}
use Rattle.kheap_laws.proofs.KeyPlaces.{key_there}
use Rattle.kheap_laws.proofs.LeafKeys.{row_filled}
use Rattle.kheap_laws.proofs.PaidLemmas.{CanPay-kept, IsPaid-nothing, IsPaid-refl}
use Rattle.desc_table.specs.Numbered.{InHand, leaf_spent}
use Rattle.desc_table.proofs.LeafChanges.{leaf_size, leaf_there, seen_first, seen_made, seen_put}
use Rattle.desc_table.proofs.NumberLemmas.{first_place, in_a_row, leaf_place, leaf_place_none, places_made}
use Rattle.desc_table.proofs.descriptors.Descs.set.Goals as goal

-- ---- one of the first

pub returns-then-fd-lt-ROW-clause-numbers : goal.returns-then-fd-lt-ROW-clause-numbers
returns-then-fd-lt-ROW-clause-numbers c =
    (seen_first c.args.heap.now c.self.inside.places c.self.inside.leaves c.args.self.now c.self.view_is c.self.invariant.0 c.self.invariant.1 c.args.fd (Some (record { desc = c.args.desc; close_on_exec = c.args.cloexec })) c.requires.owns c.if-fd-lt-ROW.true).numbers

pub returns-then-fd-lt-ROW-clause-leaves : goal.returns-then-fd-lt-ROW-clause-leaves
returns-then-fd-lt-ROW-clause-leaves c =
    (seen_first c.args.heap.now c.self.inside.places c.self.inside.leaves c.args.self.now c.self.view_is c.self.invariant.0 c.self.invariant.1 c.args.fd (Some (record { desc = c.args.desc; close_on_exec = c.args.cloexec })) c.requires.owns c.if-fd-lt-ROW.true).leaves

pub returns-then-fd-lt-ROW-clause-namings : goal.returns-then-fd-lt-ROW-clause-namings
returns-then-fd-lt-ROW-clause-namings c =
    (seen_first c.args.heap.now c.self.inside.places c.self.inside.leaves c.args.self.now c.self.view_is c.self.invariant.0 c.self.invariant.1 c.args.fd (Some (record { desc = c.args.desc; close_on_exec = c.args.cloexec })) c.requires.owns c.if-fd-lt-ROW.true).namings

pub returns-then-fd-lt-ROW-clause-paid : goal.returns-then-fd-lt-ROW-clause-paid
returns-then-fd-lt-ROW-clause-paid c =
    IsPaid-refl c.args.heap.now c.args.purse.now

pub returns-then-fd-lt-ROW-clause-spent : goal.returns-then-fd-lt-ROW-clause-spent
returns-then-fd-lt-ROW-clause-spent c =
    sym (ap (λ b. cond b c.args.purse.now (leaf_spent c.args.purse.now)) (first_place c.args.self.now.leaves c.args.fd c.if-fd-lt-ROW.true))

pub returns-then-fd-lt-ROW-clause-place : goal.returns-then-fd-lt-ROW-clause-place
returns-then-fd-lt-ROW-clause-place c =
    first_place c.self.inside.leaves c.args.fd c.if-fd-lt-ROW.true

pub returns-then-fd-lt-ROW-clause-places : goal.returns-then-fd-lt-ROW-clause-places
returns-then-fd-lt-ROW-clause-places c =
    λ other has. subst (λ (d : InHand). has_place d.leaves other ≡ true) (sym c.self.view_is) has

-- ---- its Leaf is there

pub set_leaf_descriptor-requires-clause-used : goal.set_leaf_descriptor-requires-clause-used
set_leaf_descriptor-requires-clause-used c =
    let owns = subst (λ (d : InHand). OwnsLeaves c.args.heap.now.leaves d.leaves) (sym c.self.view_is) c.requires.owns in
    owns.used c.in-Some.key (key_there c.self.inside.leaves c.group_of-group.result c.in-Some.key c.in-Some.is)

pub returns-in-Some-clause-numbers : goal.returns-in-Some-clause-numbers
returns-in-Some-clause-numbers c =
    let there = leaf_there c.args.heap.now c.self.inside.places c.self.inside.leaves c.args.self.now c.self.view_is c.self.invariant.0 c.self.invariant.1 c.args.fd (Some (record { desc = c.args.desc; close_on_exec = c.args.cloexec })) c.requires.owns c.is_well_formed.ensures.leaf_rows c.if-fd-lt-ROW.false c.requires.number c.group_of-group.result c.group_of-group.ensures.group c.in-Some.key c.in-Some.is in
    let it = seen_put c.args.heap.now c.self.inside.places c.self.inside.leaves c.args.self.now c.self.view_is c.self.invariant.0 c.self.invariant.1 c.args.fd (Some (record { desc = c.args.desc; close_on_exec = c.args.cloexec })) c.requires.owns c.is_well_formed.ensures.leaf_rows c.if-fd-lt-ROW.false c.requires.number c.group_of-group.result c.group_of-group.ensures.group c.in-Some.key there.0 c.in-Some.is there.1 c.set_leaf_descriptor.new.self (ap (λ (h : Heap). h.leaves) (c.set_leaf_descriptor.ensures.kept there.0 there.1))
    (row_filled there.0.descriptors (place_of c.args.fd) (record { desc = c.args.desc; close_on_exec = c.args.cloexec }) (leaf_size c.args.heap.now c.self.inside.places c.self.inside.leaves c.args.self.now c.self.view_is c.self.invariant.0 c.self.invariant.1 c.args.fd (Some (record { desc = c.args.desc; close_on_exec = c.args.cloexec })) c.requires.owns c.is_well_formed.ensures.leaf_rows c.if-fd-lt-ROW.false c.requires.number c.group_of-group.result c.group_of-group.ensures.group c.in-Some.key there.0 there.1)) in
    it.numbers

pub returns-in-Some-clause-leaves : goal.returns-in-Some-clause-leaves
returns-in-Some-clause-leaves c =
    let there = leaf_there c.args.heap.now c.self.inside.places c.self.inside.leaves c.args.self.now c.self.view_is c.self.invariant.0 c.self.invariant.1 c.args.fd (Some (record { desc = c.args.desc; close_on_exec = c.args.cloexec })) c.requires.owns c.is_well_formed.ensures.leaf_rows c.if-fd-lt-ROW.false c.requires.number c.group_of-group.result c.group_of-group.ensures.group c.in-Some.key c.in-Some.is in
    let it = seen_put c.args.heap.now c.self.inside.places c.self.inside.leaves c.args.self.now c.self.view_is c.self.invariant.0 c.self.invariant.1 c.args.fd (Some (record { desc = c.args.desc; close_on_exec = c.args.cloexec })) c.requires.owns c.is_well_formed.ensures.leaf_rows c.if-fd-lt-ROW.false c.requires.number c.group_of-group.result c.group_of-group.ensures.group c.in-Some.key there.0 c.in-Some.is there.1 c.set_leaf_descriptor.new.self (ap (λ (h : Heap). h.leaves) (c.set_leaf_descriptor.ensures.kept there.0 there.1))
    (row_filled there.0.descriptors (place_of c.args.fd) (record { desc = c.args.desc; close_on_exec = c.args.cloexec }) (leaf_size c.args.heap.now c.self.inside.places c.self.inside.leaves c.args.self.now c.self.view_is c.self.invariant.0 c.self.invariant.1 c.args.fd (Some (record { desc = c.args.desc; close_on_exec = c.args.cloexec })) c.requires.owns c.is_well_formed.ensures.leaf_rows c.if-fd-lt-ROW.false c.requires.number c.group_of-group.result c.group_of-group.ensures.group c.in-Some.key there.0 there.1)) in
    it.leaves

pub returns-in-Some-clause-namings : goal.returns-in-Some-clause-namings
returns-in-Some-clause-namings c =
    let there = leaf_there c.args.heap.now c.self.inside.places c.self.inside.leaves c.args.self.now c.self.view_is c.self.invariant.0 c.self.invariant.1 c.args.fd (Some (record { desc = c.args.desc; close_on_exec = c.args.cloexec })) c.requires.owns c.is_well_formed.ensures.leaf_rows c.if-fd-lt-ROW.false c.requires.number c.group_of-group.result c.group_of-group.ensures.group c.in-Some.key c.in-Some.is in
    let it = seen_put c.args.heap.now c.self.inside.places c.self.inside.leaves c.args.self.now c.self.view_is c.self.invariant.0 c.self.invariant.1 c.args.fd (Some (record { desc = c.args.desc; close_on_exec = c.args.cloexec })) c.requires.owns c.is_well_formed.ensures.leaf_rows c.if-fd-lt-ROW.false c.requires.number c.group_of-group.result c.group_of-group.ensures.group c.in-Some.key there.0 c.in-Some.is there.1 c.set_leaf_descriptor.new.self (ap (λ (h : Heap). h.leaves) (c.set_leaf_descriptor.ensures.kept there.0 there.1))
    (row_filled there.0.descriptors (place_of c.args.fd) (record { desc = c.args.desc; close_on_exec = c.args.cloexec }) (leaf_size c.args.heap.now c.self.inside.places c.self.inside.leaves c.args.self.now c.self.view_is c.self.invariant.0 c.self.invariant.1 c.args.fd (Some (record { desc = c.args.desc; close_on_exec = c.args.cloexec })) c.requires.owns c.is_well_formed.ensures.leaf_rows c.if-fd-lt-ROW.false c.requires.number c.group_of-group.result c.group_of-group.ensures.group c.in-Some.key there.0 there.1)) in
    it.namings

pub returns-in-Some-clause-kept : goal.returns-in-Some-clause-kept
returns-in-Some-clause-kept c =
    let there = leaf_there c.args.heap.now c.self.inside.places c.self.inside.leaves c.args.self.now c.self.view_is c.self.invariant.0 c.self.invariant.1 c.args.fd (Some (record { desc = c.args.desc; close_on_exec = c.args.cloexec })) c.requires.owns c.is_well_formed.ensures.leaf_rows c.if-fd-lt-ROW.false c.requires.number c.group_of-group.result c.group_of-group.ensures.group c.in-Some.key c.in-Some.is in
    rw (c.set_leaf_descriptor.ensures.kept there.0 there.1) refl

pub returns-in-Some-clause-paid : goal.returns-in-Some-clause-paid
returns-in-Some-clause-paid c =
    IsPaid-nothing c.args.heap.now c.set_leaf_descriptor.new.self c.args.purse.now c.args.purse.now c.set_leaf_descriptor.ensures.takes refl refl

pub returns-in-Some-clause-pays : goal.returns-in-Some-clause-pays
returns-in-Some-clause-pays c =
    CanPay-kept c.args.heap.now c.set_leaf_descriptor.new.self c.args.purse.now c.args.purse.now
    (IsPaid-nothing c.args.heap.now c.set_leaf_descriptor.new.self c.args.purse.now c.args.purse.now c.set_leaf_descriptor.ensures.takes refl refl) c.requires.pays

pub returns-in-Some-clause-spent : goal.returns-in-Some-clause-spent
returns-in-Some-clause-spent c =
    let has = subst (λ (d : InHand). has_place d.leaves c.args.fd ≡ true) c.self.view_is (leaf_place c.self.inside.leaves c.args.fd c.in-Some.key (subst (λ g. get_or c.self.inside.leaves g None ≡ Some c.in-Some.key) c.group_of-group.ensures.group c.in-Some.is)) in
    sym (ap (λ b. cond b c.args.purse.now (leaf_spent c.args.purse.now)) has)

pub returns-in-Some-clause-place : goal.returns-in-Some-clause-place
returns-in-Some-clause-place c =
    subst (λ (d : InHand). has_place d.leaves c.args.fd ≡ true) c.self.view_is (leaf_place c.self.inside.leaves c.args.fd c.in-Some.key (subst (λ g. get_or c.self.inside.leaves g None ≡ Some c.in-Some.key) c.group_of-group.ensures.group c.in-Some.is))

-- ---- it comes

pub make_leaf-requires-clause-left : goal.make_leaf-requires-clause-left
make_leaf-requires-clause-left c =
    c.requires.left (subst (λ (d : InHand). has_place d.leaves c.args.fd ≡ false) c.self.view_is (leaf_place_none c.self.inside.leaves c.args.fd c.if-fd-lt-ROW.false (subst (λ g. get_or c.self.inside.leaves g None ≡ None) c.group_of-group.ensures.group c.in-None.is)))

pub returns-in-None-clause-numbers : goal.returns-in-None-clause-numbers
returns-in-None-clause-numbers c =
    let row : List (Option Held) = set no_row (place_of c.args.fd) (Some (record { desc = c.args.desc; close_on_exec = c.args.cloexec })) in
    let it = seen_made c.args.heap.now c.self.inside.places c.self.inside.leaves c.args.self.now c.self.view_is c.self.invariant.0 c.self.invariant.1 c.args.fd (Some (record { desc = c.args.desc; close_on_exec = c.args.cloexec })) c.requires.owns c.is_well_formed.ensures.leaf_rows c.if-fd-lt-ROW.false c.requires.number c.group_of-group.result c.group_of-group.ensures.group c.make_leaf.new.heap c.make_leaf.result (record { descriptors = row }) refl c.in-None.is c.make_leaf.ensures.vacant c.make_leaf.ensures.stored
    (ap (λ (h : Heap). h.leaves) c.make_leaf.ensures.kept) (row_filled no_row (place_of c.args.fd) (record { desc = c.args.desc; close_on_exec = c.args.cloexec }) (in_a_row c.args.fd)) in
    it.numbers

pub returns-in-None-clause-leaves : goal.returns-in-None-clause-leaves
returns-in-None-clause-leaves c =
    let row : List (Option Held) = set no_row (place_of c.args.fd) (Some (record { desc = c.args.desc; close_on_exec = c.args.cloexec })) in
    let it = seen_made c.args.heap.now c.self.inside.places c.self.inside.leaves c.args.self.now c.self.view_is c.self.invariant.0 c.self.invariant.1 c.args.fd (Some (record { desc = c.args.desc; close_on_exec = c.args.cloexec })) c.requires.owns c.is_well_formed.ensures.leaf_rows c.if-fd-lt-ROW.false c.requires.number c.group_of-group.result c.group_of-group.ensures.group c.make_leaf.new.heap c.make_leaf.result (record { descriptors = row }) refl c.in-None.is c.make_leaf.ensures.vacant c.make_leaf.ensures.stored
    (ap (λ (h : Heap). h.leaves) c.make_leaf.ensures.kept) (row_filled no_row (place_of c.args.fd) (record { desc = c.args.desc; close_on_exec = c.args.cloexec }) (in_a_row c.args.fd)) in
    it.leaves

pub returns-in-None-clause-namings : goal.returns-in-None-clause-namings
returns-in-None-clause-namings c =
    let row : List (Option Held) = set no_row (place_of c.args.fd) (Some (record { desc = c.args.desc; close_on_exec = c.args.cloexec })) in
    let it = seen_made c.args.heap.now c.self.inside.places c.self.inside.leaves c.args.self.now c.self.view_is c.self.invariant.0 c.self.invariant.1 c.args.fd (Some (record { desc = c.args.desc; close_on_exec = c.args.cloexec })) c.requires.owns c.is_well_formed.ensures.leaf_rows c.if-fd-lt-ROW.false c.requires.number c.group_of-group.result c.group_of-group.ensures.group c.make_leaf.new.heap c.make_leaf.result (record { descriptors = row }) refl c.in-None.is c.make_leaf.ensures.vacant c.make_leaf.ensures.stored
    (ap (λ (h : Heap). h.leaves) c.make_leaf.ensures.kept) (row_filled no_row (place_of c.args.fd) (record { desc = c.args.desc; close_on_exec = c.args.cloexec }) (in_a_row c.args.fd)) in
    it.namings

pub returns-in-None-clause-kept : goal.returns-in-None-clause-kept
returns-in-None-clause-kept c =
    rw c.make_leaf.ensures.kept refl

pub returns-in-None-clause-spent : goal.returns-in-None-clause-spent
returns-in-None-clause-spent c =
    let has = subst (λ (d : InHand). has_place d.leaves c.args.fd ≡ false) c.self.view_is (leaf_place_none c.self.inside.leaves c.args.fd c.if-fd-lt-ROW.false (subst (λ g. get_or c.self.inside.leaves g None ≡ None) c.group_of-group.ensures.group c.in-None.is)) in
    c.make_leaf.ensures.spent ∙ sym (ap (λ b. cond b c.args.purse.now (leaf_spent c.args.purse.now)) has)

pub returns-in-None-clause-place : goal.returns-in-None-clause-place
returns-in-None-clause-place c =
    let within = c.group_of-group.ensures.within in
    let three = c.self.invariant.1 in
    leaf_place (set c.self.inside.leaves c.group_of-group.result (Some c.make_leaf.result)) c.args.fd c.make_leaf.result
    (ap (λ g. get_or (set c.self.inside.leaves c.group_of-group.result (Some c.make_leaf.result)) g None) (sym c.group_of-group.ensures.group)
    ∙ get_or-set_same c.self.inside.leaves c.group_of-group.result (Some c.make_leaf.result) None (omega (arith, within, three)))

pub returns-in-None-clause-places : goal.returns-in-None-clause-places
returns-in-None-clause-places c =
    λ other has.
    let within = c.group_of-group.ensures.within in
    let three = c.self.invariant.1 in
    places_made c.self.inside.leaves c.group_of-group.result c.make_leaf.result other (omega (arith, within, three)) (subst (λ (d : InHand). has_place d.leaves other ≡ true) (sym c.self.view_is) has)
