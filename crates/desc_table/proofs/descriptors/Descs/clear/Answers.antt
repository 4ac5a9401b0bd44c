use Rattle.std.proofs.Common.{◌≡◌, ℕ, List, Option, get_or, set, count_by, is_some, None, Some, refl, sym, ap, subst, ◌∙◌, arith}
use Rattle.kabi_types.specs.declared.classes.Class.TheVariants as class
use Rattle.kheap_slabs.specs.Heap.{Heap}
use Rattle.kheap_slabs.specs.Leaves.{IsFilled, OwnsLeaves, place_of}
use Rattle.kheap_slabs.specs.Objects.{object, put, without}
use Rattle.kheap_slabs.specs.declared.objects.Descriptor.{Descriptor as Held}
use Rattle.kheap_slabs.specs.declared.objects.Leaf.{Leaf}
use Rattle.kheap_slabs.proofs.ObjectLemmas.{InUse-within, object-put}
use Rattle.kheap_laws.proofs.KeyPlaces.{key_there}
use Rattle.kheap_laws.proofs.PaidLemmas.{TakesNothing-freed, TakesNothing-refl, TakesNothing-trans}
use Rattle.kheap_laws.proofs.TableLemmas.{without-put}
use Rattle.desc_table.specs.Numbered.{InHand, numbers}
use Rattle.desc_table.proofs.LeafChanges.{below_most, leaf_there, none_open, seen_first, seen_gone, seen_put}
use Rattle.desc_table.proofs.NumberLemmas.{no_some, none_some, same_held}
use Rattle.desc_table.proofs.descriptors.Descs.clear.Goals as goal

-- what is read where an object was put is that object
read_back : (leaves now : List (Option Leaf)) (key : ℕ) (leaf value read : Leaf) → object leaves key ≡ Some leaf → now ≡ put leaves key value → object now key ≡ Some read → read ≡ value
read_back leaves now key leaf value read there put_is got =
    let stored : object (put leaves key value) key ≡ Some value = object-put leaves key value (InUse-within leaves key (rw there refl)) in
    some_is (sym got ∙ (ap (λ l. object l key) put_is ∙ stored))
  where
    some_is : {a b : Leaf} → Some a ≡ Some b → a ≡ b
    some_is same = cc

-- ---- one of the first

pub returns-then-fd-lt-ROW-clause-named : goal.returns-then-fd-lt-ROW-clause-named
returns-then-fd-lt-ROW-clause-named c =
    λ descriptor is. ap (λ (h : Held). h.desc) (same_held (get_or (numbers c.args.heap.now c.args.self.now) c.args.fd None) c.descriptor-key.result descriptor c.descriptor-key.ensures is)

pub returns-then-fd-lt-ROW-clause-numbers : goal.returns-then-fd-lt-ROW-clause-numbers
returns-then-fd-lt-ROW-clause-numbers c =
    (seen_first c.args.heap.now c.self.inside.places c.self.inside.leaves c.args.self.now c.self.view_is c.self.invariant.0 c.self.invariant.1 c.args.fd None c.requires.owns c.if-fd-lt-ROW.true).numbers

pub returns-then-fd-lt-ROW-clause-leaves : goal.returns-then-fd-lt-ROW-clause-leaves
returns-then-fd-lt-ROW-clause-leaves c =
    (seen_first c.args.heap.now c.self.inside.places c.self.inside.leaves c.args.self.now c.self.view_is c.self.invariant.0 c.self.invariant.1 c.args.fd None c.requires.owns c.if-fd-lt-ROW.true).leaves

pub returns-then-fd-lt-ROW-clause-namings : goal.returns-then-fd-lt-ROW-clause-namings
returns-then-fd-lt-ROW-clause-namings c =
    (seen_first c.args.heap.now c.self.inside.places c.self.inside.leaves c.args.self.now c.self.view_is c.self.invariant.0 c.self.invariant.1 c.args.fd None c.requires.owns c.if-fd-lt-ROW.true).namings

pub returns-then-fd-lt-ROW-clause-takes : goal.returns-then-fd-lt-ROW-clause-takes
returns-then-fd-lt-ROW-clause-takes c =
    TakesNothing-refl c.args.heap.now

-- ---- its Leaf has others open

pub group_of-group-requires-clause-number : goal.group_of-group-requires-clause-number
group_of-group-requires-clause-number c =
    let below = below_most c.args.heap.now c.self.inside.places c.self.inside.leaves c.args.self.now c.self.view_is c.self.invariant.0 c.self.invariant.1 c.is_well_formed.ensures.leaf_rows c.args.fd c.requires.opened in
    below

pub unreachable-requires : goal.unreachable-requires
unreachable-requires c =
    let below = below_most c.args.heap.now c.self.inside.places c.self.inside.leaves c.args.self.now c.self.view_is c.self.invariant.0 c.self.invariant.1 c.is_well_formed.ensures.leaf_rows c.args.fd c.requires.opened in
    none_some (get_or (numbers c.args.heap.now c.args.self.now) c.args.fd None)
    (none_open c.args.heap.now c.self.inside.places c.self.inside.leaves c.args.self.now c.self.view_is c.self.invariant.0 c.self.invariant.1 c.args.fd None c.requires.owns c.is_well_formed.ensures.leaf_rows c.if-fd-lt-ROW.false below c.group_of-group.result c.group_of-group.ensures.group (no_some (get_or c.self.inside.leaves c.group_of-group.result None) c.in_default.not-Some)) c.requires.opened

pub set_leaf_descriptor-requires-clause-used : goal.set_leaf_descriptor-requires-clause-used
set_leaf_descriptor-requires-clause-used c =
    let owns = subst (λ (d : InHand). OwnsLeaves c.args.heap.now.leaves d.leaves) (sym c.self.view_is) c.requires.owns in
    owns.used c.in-Some.leaf (key_there c.self.inside.leaves c.group_of-group.result c.in-Some.leaf c.in-Some.is)

pub returns-then-open_among-gt0-clause-named : goal.returns-then-open_among-gt0-clause-named
returns-then-open_among-gt0-clause-named c =
    λ descriptor is. ap (λ (h : Held). h.desc) (same_held (get_or (numbers c.args.heap.now c.args.self.now) c.args.fd None) c.descriptor-key.result descriptor c.descriptor-key.ensures is)

pub returns-then-open_among-gt0-clause-numbers : goal.returns-then-open_among-gt0-clause-numbers
returns-then-open_among-gt0-clause-numbers c =
    let below = below_most c.args.heap.now c.self.inside.places c.self.inside.leaves c.args.self.now c.self.view_is c.self.invariant.0 c.self.invariant.1 c.is_well_formed.ensures.leaf_rows c.args.fd c.requires.opened in
    let there = leaf_there c.args.heap.now c.self.inside.places c.self.inside.leaves c.args.self.now c.self.view_is c.self.invariant.0 c.self.invariant.1 c.args.fd None c.requires.owns c.is_well_formed.ensures.leaf_rows c.if-fd-lt-ROW.false below c.group_of-group.result c.group_of-group.ensures.group c.in-Some.leaf c.in-Some.is in
    let put_is = ap (λ (h : Heap). h.leaves) (c.set_leaf_descriptor.ensures.kept there.0 there.1) in
    let same = read_back c.args.heap.now.leaves c.set_leaf_descriptor.new.self.leaves c.in-Some.leaf there.0 (record there.0 { descriptors = set there.0.descriptors (place_of c.args.fd) None }) c.get_leaf.result.now there.1 put_is c.get_leaf.ensures in
    let counts : count_by is_some c.get_leaf.result.now.descriptors ≡ c.open_among.result = sym c.open_among.ensures.count in
    let some = c.if-open_among-gt0.true in
    let it = seen_put c.args.heap.now c.self.inside.places c.self.inside.leaves c.args.self.now c.self.view_is c.self.invariant.0 c.self.invariant.1 c.args.fd None c.requires.owns c.is_well_formed.ensures.leaf_rows c.if-fd-lt-ROW.false below c.group_of-group.result c.group_of-group.ensures.group c.in-Some.leaf there.0 c.in-Some.is there.1 c.set_leaf_descriptor.new.self put_is (subst (λ (l : Leaf). IsFilled l) same (omega (arith, counts, some))) in
    it.numbers

pub returns-then-open_among-gt0-clause-leaves : goal.returns-then-open_among-gt0-clause-leaves
returns-then-open_among-gt0-clause-leaves c =
    let below = below_most c.args.heap.now c.self.inside.places c.self.inside.leaves c.args.self.now c.self.view_is c.self.invariant.0 c.self.invariant.1 c.is_well_formed.ensures.leaf_rows c.args.fd c.requires.opened in
    let there = leaf_there c.args.heap.now c.self.inside.places c.self.inside.leaves c.args.self.now c.self.view_is c.self.invariant.0 c.self.invariant.1 c.args.fd None c.requires.owns c.is_well_formed.ensures.leaf_rows c.if-fd-lt-ROW.false below c.group_of-group.result c.group_of-group.ensures.group c.in-Some.leaf c.in-Some.is in
    let put_is = ap (λ (h : Heap). h.leaves) (c.set_leaf_descriptor.ensures.kept there.0 there.1) in
    let same = read_back c.args.heap.now.leaves c.set_leaf_descriptor.new.self.leaves c.in-Some.leaf there.0 (record there.0 { descriptors = set there.0.descriptors (place_of c.args.fd) None }) c.get_leaf.result.now there.1 put_is c.get_leaf.ensures in
    let counts : count_by is_some c.get_leaf.result.now.descriptors ≡ c.open_among.result = sym c.open_among.ensures.count in
    let some = c.if-open_among-gt0.true in
    let it = seen_put c.args.heap.now c.self.inside.places c.self.inside.leaves c.args.self.now c.self.view_is c.self.invariant.0 c.self.invariant.1 c.args.fd None c.requires.owns c.is_well_formed.ensures.leaf_rows c.if-fd-lt-ROW.false below c.group_of-group.result c.group_of-group.ensures.group c.in-Some.leaf there.0 c.in-Some.is there.1 c.set_leaf_descriptor.new.self put_is (subst (λ (l : Leaf). IsFilled l) same (omega (arith, counts, some))) in
    it.leaves

pub returns-then-open_among-gt0-clause-namings : goal.returns-then-open_among-gt0-clause-namings
returns-then-open_among-gt0-clause-namings c =
    let below = below_most c.args.heap.now c.self.inside.places c.self.inside.leaves c.args.self.now c.self.view_is c.self.invariant.0 c.self.invariant.1 c.is_well_formed.ensures.leaf_rows c.args.fd c.requires.opened in
    let there = leaf_there c.args.heap.now c.self.inside.places c.self.inside.leaves c.args.self.now c.self.view_is c.self.invariant.0 c.self.invariant.1 c.args.fd None c.requires.owns c.is_well_formed.ensures.leaf_rows c.if-fd-lt-ROW.false below c.group_of-group.result c.group_of-group.ensures.group c.in-Some.leaf c.in-Some.is in
    let put_is = ap (λ (h : Heap). h.leaves) (c.set_leaf_descriptor.ensures.kept there.0 there.1) in
    let same = read_back c.args.heap.now.leaves c.set_leaf_descriptor.new.self.leaves c.in-Some.leaf there.0 (record there.0 { descriptors = set there.0.descriptors (place_of c.args.fd) None }) c.get_leaf.result.now there.1 put_is c.get_leaf.ensures in
    let counts : count_by is_some c.get_leaf.result.now.descriptors ≡ c.open_among.result = sym c.open_among.ensures.count in
    let some = c.if-open_among-gt0.true in
    let it = seen_put c.args.heap.now c.self.inside.places c.self.inside.leaves c.args.self.now c.self.view_is c.self.invariant.0 c.self.invariant.1 c.args.fd None c.requires.owns c.is_well_formed.ensures.leaf_rows c.if-fd-lt-ROW.false below c.group_of-group.result c.group_of-group.ensures.group c.in-Some.leaf there.0 c.in-Some.is there.1 c.set_leaf_descriptor.new.self put_is (subst (λ (l : Leaf). IsFilled l) same (omega (arith, counts, some))) in
    it.namings

pub returns-then-open_among-gt0-clause-kept : goal.returns-then-open_among-gt0-clause-kept
returns-then-open_among-gt0-clause-kept c =
    let below = below_most c.args.heap.now c.self.inside.places c.self.inside.leaves c.args.self.now c.self.view_is c.self.invariant.0 c.self.invariant.1 c.is_well_formed.ensures.leaf_rows c.args.fd c.requires.opened in
    let there = leaf_there c.args.heap.now c.self.inside.places c.self.inside.leaves c.args.self.now c.self.view_is c.self.invariant.0 c.self.invariant.1 c.args.fd None c.requires.owns c.is_well_formed.ensures.leaf_rows c.if-fd-lt-ROW.false below c.group_of-group.result c.group_of-group.ensures.group c.in-Some.leaf c.in-Some.is in
    rw (c.set_leaf_descriptor.ensures.kept there.0 there.1) refl

-- ---- it goes

pub returns-clause-named : goal.returns-clause-named
returns-clause-named c =
    λ descriptor is. ap (λ (h : Held). h.desc) (same_held (get_or (numbers c.args.heap.now c.args.self.now) c.args.fd None) c.descriptor-key.result descriptor c.descriptor-key.ensures is)

pub returns-clause-numbers : goal.returns-clause-numbers
returns-clause-numbers c =
    let below = below_most c.args.heap.now c.self.inside.places c.self.inside.leaves c.args.self.now c.self.view_is c.self.invariant.0 c.self.invariant.1 c.is_well_formed.ensures.leaf_rows c.args.fd c.requires.opened in
    let there = leaf_there c.args.heap.now c.self.inside.places c.self.inside.leaves c.args.self.now c.self.view_is c.self.invariant.0 c.self.invariant.1 c.args.fd None c.requires.owns c.is_well_formed.ensures.leaf_rows c.if-fd-lt-ROW.false below c.group_of-group.result c.group_of-group.ensures.group c.in-Some.leaf c.in-Some.is in
    let put_is = ap (λ (h : Heap). h.leaves) (c.set_leaf_descriptor.ensures.kept there.0 there.1) in
    let same = read_back c.args.heap.now.leaves c.set_leaf_descriptor.new.self.leaves c.in-Some.leaf there.0 (record there.0 { descriptors = set there.0.descriptors (place_of c.args.fd) None }) c.get_leaf.result.now there.1 put_is c.get_leaf.ensures in
    let counts = c.open_among.ensures.count in
    let none = c.if-open_among-gt0.false in
    let it = seen_gone c.args.heap.now c.self.inside.places c.self.inside.leaves c.args.self.now c.self.view_is c.self.invariant.0 c.self.invariant.1 c.args.fd None c.requires.owns c.is_well_formed.ensures.leaf_rows c.if-fd-lt-ROW.false below c.group_of-group.result c.group_of-group.ensures.group c.in-Some.leaf there.0 c.in-Some.is there.1 c.free_leaf.new.self
    (ap (λ (h : Heap). h.leaves) c.free_leaf.ensures.kept ∙ (ap (λ (l : List (Option Leaf)). without l c.in-Some.leaf) put_is ∙ without-put c.args.heap.now.leaves c.in-Some.leaf (record there.0 { descriptors = set there.0.descriptors (place_of c.args.fd) None }))) refl
    (subst (λ (l : Leaf). count_by is_some l.descriptors ≡ 0) same (omega (arith, counts, none))) in
    it.numbers

pub returns-clause-leaves : goal.returns-clause-leaves
returns-clause-leaves c =
    let below = below_most c.args.heap.now c.self.inside.places c.self.inside.leaves c.args.self.now c.self.view_is c.self.invariant.0 c.self.invariant.1 c.is_well_formed.ensures.leaf_rows c.args.fd c.requires.opened in
    let there = leaf_there c.args.heap.now c.self.inside.places c.self.inside.leaves c.args.self.now c.self.view_is c.self.invariant.0 c.self.invariant.1 c.args.fd None c.requires.owns c.is_well_formed.ensures.leaf_rows c.if-fd-lt-ROW.false below c.group_of-group.result c.group_of-group.ensures.group c.in-Some.leaf c.in-Some.is in
    let put_is = ap (λ (h : Heap). h.leaves) (c.set_leaf_descriptor.ensures.kept there.0 there.1) in
    let same = read_back c.args.heap.now.leaves c.set_leaf_descriptor.new.self.leaves c.in-Some.leaf there.0 (record there.0 { descriptors = set there.0.descriptors (place_of c.args.fd) None }) c.get_leaf.result.now there.1 put_is c.get_leaf.ensures in
    let counts = c.open_among.ensures.count in
    let none = c.if-open_among-gt0.false in
    let it = seen_gone c.args.heap.now c.self.inside.places c.self.inside.leaves c.args.self.now c.self.view_is c.self.invariant.0 c.self.invariant.1 c.args.fd None c.requires.owns c.is_well_formed.ensures.leaf_rows c.if-fd-lt-ROW.false below c.group_of-group.result c.group_of-group.ensures.group c.in-Some.leaf there.0 c.in-Some.is there.1 c.free_leaf.new.self
    (ap (λ (h : Heap). h.leaves) c.free_leaf.ensures.kept ∙ (ap (λ (l : List (Option Leaf)). without l c.in-Some.leaf) put_is ∙ without-put c.args.heap.now.leaves c.in-Some.leaf (record there.0 { descriptors = set there.0.descriptors (place_of c.args.fd) None }))) refl
    (subst (λ (l : Leaf). count_by is_some l.descriptors ≡ 0) same (omega (arith, counts, none))) in
    it.leaves

pub returns-clause-namings : goal.returns-clause-namings
returns-clause-namings c =
    let below = below_most c.args.heap.now c.self.inside.places c.self.inside.leaves c.args.self.now c.self.view_is c.self.invariant.0 c.self.invariant.1 c.is_well_formed.ensures.leaf_rows c.args.fd c.requires.opened in
    let there = leaf_there c.args.heap.now c.self.inside.places c.self.inside.leaves c.args.self.now c.self.view_is c.self.invariant.0 c.self.invariant.1 c.args.fd None c.requires.owns c.is_well_formed.ensures.leaf_rows c.if-fd-lt-ROW.false below c.group_of-group.result c.group_of-group.ensures.group c.in-Some.leaf c.in-Some.is in
    let put_is = ap (λ (h : Heap). h.leaves) (c.set_leaf_descriptor.ensures.kept there.0 there.1) in
    let same = read_back c.args.heap.now.leaves c.set_leaf_descriptor.new.self.leaves c.in-Some.leaf there.0 (record there.0 { descriptors = set there.0.descriptors (place_of c.args.fd) None }) c.get_leaf.result.now there.1 put_is c.get_leaf.ensures in
    let counts = c.open_among.ensures.count in
    let none = c.if-open_among-gt0.false in
    let it = seen_gone c.args.heap.now c.self.inside.places c.self.inside.leaves c.args.self.now c.self.view_is c.self.invariant.0 c.self.invariant.1 c.args.fd None c.requires.owns c.is_well_formed.ensures.leaf_rows c.if-fd-lt-ROW.false below c.group_of-group.result c.group_of-group.ensures.group c.in-Some.leaf there.0 c.in-Some.is there.1 c.free_leaf.new.self
    (ap (λ (h : Heap). h.leaves) c.free_leaf.ensures.kept ∙ (ap (λ (l : List (Option Leaf)). without l c.in-Some.leaf) put_is ∙ without-put c.args.heap.now.leaves c.in-Some.leaf (record there.0 { descriptors = set there.0.descriptors (place_of c.args.fd) None }))) refl
    (subst (λ (l : Leaf). count_by is_some l.descriptors ≡ 0) same (omega (arith, counts, none))) in
    it.namings

pub returns-clause-kept : goal.returns-clause-kept
returns-clause-kept c =
    let below = below_most c.args.heap.now c.self.inside.places c.self.inside.leaves c.args.self.now c.self.view_is c.self.invariant.0 c.self.invariant.1 c.is_well_formed.ensures.leaf_rows c.args.fd c.requires.opened in
    let there = leaf_there c.args.heap.now c.self.inside.places c.self.inside.leaves c.args.self.now c.self.view_is c.self.invariant.0 c.self.invariant.1 c.args.fd None c.requires.owns c.is_well_formed.ensures.leaf_rows c.if-fd-lt-ROW.false below c.group_of-group.result c.group_of-group.ensures.group c.in-Some.leaf c.in-Some.is in
    rw (c.free_leaf.ensures.kept, c.set_leaf_descriptor.ensures.kept there.0 there.1) refl

pub returns-clause-takes : goal.returns-clause-takes
returns-clause-takes c =
    TakesNothing-trans c.args.heap.now c.set_leaf_descriptor.new.self c.free_leaf.new.self c.set_leaf_descriptor.ensures.takes
    (TakesNothing-freed class.Leaf c.set_leaf_descriptor.new.self c.free_leaf.new.self c.free_leaf.ensures.frees)
