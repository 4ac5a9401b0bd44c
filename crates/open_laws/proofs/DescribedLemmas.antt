-- A description at its place while its Desc is shared and dropped.
use Rattle.std.proofs.Common.{◌≡◌, ◌≢◌, ℕ, zero, suc, ◌+◌, ◌-◌, ◌<◌, Bool, true, false, List, [], ◌∷◌, set, cond, eqb, Option, None, Some, refl, sym, ap, subst, ◌∙◌, arith, eq-eqb, ne_eqb}
use Rattle.std.specs.Option.{option_map}
use Rattle.kheap_slabs.specs.Objects.{object, InUse, put, without}
use Rattle.kheap_slabs.specs.declared.objects.Desc.{Desc}
use Rattle.kheap_slabs.specs.declared.objects.Pipe.{Pipe}
use Rattle.kheap_slabs.specs.Heap.{Heap}
use Rattle.posix_defs.specs.Files.Descriptions.{with_description}
use Rattle.open_laws.specs.Placed.{Numbers}
use Rattle.open_laws.proofs.PlaceLemmas.{law_changes, law_goes}
use Rattle.open_laws.specs.Described.{Counted, CountedList, counted_in, AreDescribed, named_more, named_less, after_share, after_drop, uncounted}
use Rattle.open_laws.specs.Described.{counting, descs_left, node_in, node_left}

used : (descs : List (Option Desc)) (key : ℕ) (found : Desc) → object descs key ≡ Some found → InUse descs key
used descs key found is = rw is refl

-- what the machine has at the place of a Desc
pub at_place : (numbers : Numbers) (descs : List (Option Desc)) (list : CountedList) (key : ℕ) (found : Desc) → object descs key ≡ Some found
    → AreDescribed numbers descs list → object list (numbers.descs key) ≡ Some (counted_in numbers found)
at_place numbers descs list key found is are =
    let there = are.there key found is in there.1 ∙ ap (λ (c : Counted). Some c) (are.means key found there.0 is there.1)

changed_to : (numbers : Numbers) (descs : List (Option Desc)) (list : CountedList) (key count : ℕ) (found : Desc) → object descs key ≡ Some found
    → AreDescribed numbers descs list → AreDescribed numbers (put descs key (counting found count)) (set list (numbers.descs key) (Some (counted_in numbers (counting found count))))
changed_to numbers descs list key count found is are =
    law_changes (λ k desc. counted_in numbers desc) numbers.descs descs list key (counting found count) (used descs key found is) are

pub shared_described : (numbers : Numbers) (descs : List (Option Desc)) (list : CountedList) (key : ℕ) (found : Desc) → object descs key ≡ Some found
    → AreDescribed numbers descs list → AreDescribed numbers (put descs key (counting found (found.count + 1))) (after_share list (numbers.descs key))
shared_described numbers descs list key found is are =
    subst (λ (o : Option Counted). AreDescribed numbers (put descs key (counting found (found.count + 1))) (set list (numbers.descs key) o))
    (sym (ap named_more (at_place numbers descs list key found is are)))
    (changed_to numbers descs list key (found.count + 1) found is are)

pub dropped_described : (numbers : Numbers) (descs : List (Option Desc)) (list : CountedList) (key : ℕ) (found : Desc) → object descs key ≡ Some found
    → AreDescribed numbers descs list → AreDescribed numbers (descs_left descs key found) (after_drop list (numbers.descs key))
dropped_described numbers descs list key found is are =
    subst (λ (o : Option Counted). AreDescribed numbers (descs_left descs key found) (set list (numbers.descs key) o))
    (sym (ap named_less (at_place numbers descs list key found is are)))
    (go (eqb found.count 1))
  where
    go : (last : Bool) → AreDescribed numbers (set descs key (cond last None (Some (counting found (found.count - 1)))))
        (set list (numbers.descs key) (cond last None (Some (counted_in numbers (counting found (found.count - 1))))))
    go true = law_goes (λ k desc. counted_in numbers desc) numbers.descs descs list key (used descs key found is) are
    go false = changed_to numbers descs list key (found.count - 1) found is are

-- ---- what is left of the Descs

pub left_last : (descs : List (Option Desc)) (key : ℕ) (found : Desc) → found.count ≡ 1 → descs_left descs key found ≡ without descs key
left_last descs key found last = ap (λ b. set descs key (cond b None (Some (counting found (found.count - 1))))) (eq-eqb found.count 1 last)

pub left_more : (descs : List (Option Desc)) (key : ℕ) (found : Desc) → 1 < found.count → descs_left descs key found ≡ put descs key (counting found (found.count - 1))
left_more descs key found more =
    ap (λ b. set descs key (cond b None (Some (counting found (found.count - 1))))) (ne_eqb found.count 1 (λ one. omega (arith, more, one)))

pub left_named : (old new : Heap) (key : ℕ) (found : Desc) → 1 < found.count → new ≡ record old { descs = put old.descs key (counting found (found.count - 1)) }
    → new ≡ record old { descs = descs_left old.descs key found }
left_named old new key found more is = is ∙ ap (λ (d : List (Option Desc)). record old { descs = d }) (sym (left_more old.descs key found more))

pub node_last : (pipes : List (Option Pipe)) (found : Desc) → found.count ≡ 1 → node_left pipes found ≡ node_in pipes found.target
node_last pipes found last = ap (λ b. cond b (node_in pipes found.target) None) (eq-eqb found.count 1 last)

pub node_more : (pipes : List (Option Pipe)) (found : Desc) → 1 < found.count → node_left pipes found ≡ None
node_more pipes found more = ap (λ b. cond b (node_in pipes found.target) None) (ne_eqb found.count 1 (λ one. omega (arith, more, one)))

-- a key names one Desc
pub one_desc : (descs : List (Option Desc)) (key : ℕ) (one other : Desc) → object descs key ≡ Some one → object descs key ≡ Some other → one ≡ other
one_desc descs key one other first second = let same : Some one ≡ Some other = sym first ∙ second in cc

pub counts_alike : (descs : List (Option Desc)) (key : ℕ) (one other : Desc) → object descs key ≡ Some one → object descs key ≡ Some other → one.count ≡ other.count
counts_alike descs key one other first second = ap (λ (d : Desc). d.count) (one_desc descs key one other first second)

-- ---- the machine's descriptions

pub uncounted-shared : (list : CountedList) (place : ℕ) → uncounted (after_share list place) ≡ uncounted list
uncounted-shared [] place = refl
uncounted-shared (None ∷ list) zero = refl
uncounted-shared (Some counted ∷ list) zero = refl
uncounted-shared (first ∷ list) (suc place) = ap (λ rest. option_map (λ (c : Counted). c.is) first ∷ rest) (uncounted-shared list place)

pub uncounted-left : (list : CountedList) (place : ℕ) (counted : Counted) → object list place ≡ Some counted → counted.count ≢ 1 → uncounted (after_drop list place) ≡ uncounted list
uncounted-left [] place counted is more = refl
uncounted-left (None ∷ list) zero counted is more = refl
uncounted-left (Some first ∷ list) zero counted is more =
    let same : first ≡ counted = cc in
    ap (λ o. option_map (λ (c : Counted). c.is) o ∷ uncounted list)
    (ap (λ b. cond b None (Some (record first { count = first.count - 1 }))) (ne_eqb first.count 1 (λ one. more (sym (ap (λ (c : Counted). c.count) same) ∙ one))))
uncounted-left (first ∷ list) (suc place) counted is more = ap (λ rest. option_map (λ (c : Counted). c.is) first ∷ rest) (uncounted-left list place counted is more)

pub uncounted-gone : (list : CountedList) (place : ℕ) (counted : Counted) → object list place ≡ Some counted → counted.count ≡ 1
    → uncounted (after_drop list place) ≡ with_description (uncounted list) place None
uncounted-gone [] place counted is one = refl
uncounted-gone (None ∷ list) zero counted is one = refl
uncounted-gone (Some first ∷ list) zero counted is one =
    let same : first ≡ counted = cc in
    ap (λ o. option_map (λ (c : Counted). c.is) o ∷ uncounted list)
    (ap (λ b. cond b None (Some (record first { count = first.count - 1 }))) (eq-eqb first.count 1 (ap (λ (c : Counted). c.count) same ∙ one)))
uncounted-gone (first ∷ list) (suc place) counted is one = ap (λ rest. option_map (λ (c : Counted). c.is) first ∷ rest) (uncounted-gone list place counted is one)
