-- How often a Desc is named in Leaves: as one comes, goes and changes at one number.
use Rattle.std.proofs.Common.{◌≡◌, ℕ, ◌+◌, ◌<◌, Bool, List, [], ◌∷◌, length, get_or, set, eqb, count_by, Option, None, Some, refl, sym, ap, ◌∙◌, subst, arith}
use Rattle.std.proofs.lemmas.List.Sums.{sum_by-cons, sum_by-set}
use Rattle.kheap_slabs.specs.Objects.{InUse, object, put, without}
use Rattle.kheap_slabs.specs.declared.objects.Desc.{Desc}
use Rattle.kheap_slabs.specs.declared.objects.Descriptor.{Descriptor}
use Rattle.kheap_slabs.specs.declared.objects.Leaf.{Leaf}
use Rattle.kheap_slabs.specs.declared.objects.Proc.{Proc}
use Rattle.kheap_slabs.specs.Heap.{Heap}
use Rattle.kheap_slabs.proofs.ObjectLemmas.{InUse-within}
use Rattle.open_laws.specs.Owned.{CountsItsNames, desc_count_at, leaf_namings_in, leaf_namings_of, names_desc, namings_of}
use Rattle.open_laws.specs.Sharing.{hand_with}
use Rattle.open_laws.proofs.OwnerLemmas.{in_hand, one_if}

-- ---- one number of a row

-- of a row in which one number is another as many name it, but for that one
pub count-set : (key : ℕ) (row : List (Option Descriptor)) (at : ℕ) (x : Option Descriptor) → at < length row
    → count_by (names_desc key) (set row at x) + one_if (names_desc key (get_or row at None)) ≡ count_by (names_desc key) row + one_if (names_desc key x)
count-set key row at x within = sum_by-set (λ (o : Option Descriptor). one_if (names_desc key o)) row at x None within

-- ---- one Leaf

pub leaf_comes : (leaves : List (Option Leaf)) (at : ℕ) (leaf : Leaf) (key : ℕ) → at < length leaves → object leaves at ≡ None
    → leaf_namings_of (put leaves at leaf) key ≡ leaf_namings_of leaves key + count_by (names_desc key) leaf.descriptors
leaf_comes leaves at leaf key within vacant =
    let moved = sum_by-set (leaf_namings_in key) leaves at (Some leaf) None within in
    let before : leaf_namings_in key (object leaves at) ≡ 0 = ap (leaf_namings_in key) vacant in
    omega (arith, moved, before)

pub leaf_changes : (leaves : List (Option Leaf)) (at : ℕ) (was now : Leaf) (key : ℕ) → object leaves at ≡ Some was
    → leaf_namings_of (put leaves at now) key + count_by (names_desc key) was.descriptors ≡ leaf_namings_of leaves key + count_by (names_desc key) now.descriptors
leaf_changes leaves at was now key is =
    let moved = sum_by-set (leaf_namings_in key) leaves at (Some now) None (InUse-within leaves at (rw is refl)) in
    let before : leaf_namings_in key (object leaves at) ≡ count_by (names_desc key) was.descriptors = ap (leaf_namings_in key) is in
    omega (arith, moved, before)

pub leaf_goes : (leaves : List (Option Leaf)) (at : ℕ) (was : Leaf) (key : ℕ) → object leaves at ≡ Some was
    → leaf_namings_of (without leaves at) key + count_by (names_desc key) was.descriptors ≡ leaf_namings_of leaves key
leaf_goes leaves at was key is =
    let moved = sum_by-set (leaf_namings_in key) leaves at None None (InUse-within leaves at (rw is refl)) in
    let before : leaf_namings_in key (object leaves at) ≡ count_by (names_desc key) was.descriptors = ap (leaf_namings_in key) is in
    omega (arith, moved, before)

-- ---- what was in hand stands in a Leaf

plus_none : (n none : ℕ) → none ≡ 0 → n ≡ none + n
plus_none n none is = omega (arith, is)

hand-count : (key : ℕ) (row : List (Option Descriptor)) (hand : List ℕ)
    → count_by (λ other. eqb other key) (hand_with row hand) ≡ count_by (names_desc key) row + count_by (λ other. eqb other key) hand
hand-count key [] hand = plus_none (count_by (λ other. eqb other key) hand) (count_by (names_desc key) []) refl
hand-count key (None ∷ row) hand =
    let behind = hand-count key row hand in
    let whole = sum_by-cons (λ (o : Option Descriptor). one_if (names_desc key o)) None row in
    omega (arith, behind, whole)
hand-count key (Some descriptor ∷ row) hand =
    let behind = hand-count key row (descriptor.desc ∷ hand) in
    let whole = sum_by-cons (λ (o : Option Descriptor). one_if (names_desc key o)) (Some descriptor) row in
    let first = in_hand hand descriptor.desc key in
    omega (arith, behind, whole, first)

pub names_leaf : (old new : Heap) (hand : List ℕ) (at : ℕ) (leaf : Leaf) → new.descs ≡ old.descs → new.procs ≡ old.procs → new.leaves ≡ put old.leaves at leaf
    → at < length old.leaves → object old.leaves at ≡ None → CountsItsNames old (hand_with leaf.descriptors hand) → CountsItsNames new hand
names_leaf old new hand at leaf descs procs leaves within vacant named = record {
  counts = λ key.
      let before = named.counts key in
      let held = hand-count key leaf.descriptors hand in
      let more = leaf_comes old.leaves at leaf key within vacant in
      let same_descs = ap (λ (d : List (Option Desc)). desc_count_at d key) descs in
      let same_procs = ap (λ (p : List (Option Proc)). namings_of p key) procs in
      let now = ap (λ (l : List (Option Leaf)). leaf_namings_of l key) leaves in
      omega (arith, before, held, more, same_descs, same_procs, now);
  named = λ key used. subst (λ (d : List (Option Desc)). 0 < desc_count_at d key) (sym descs) (named.named key (subst (λ (d : List (Option Desc)). InUse d key) descs used));
}
