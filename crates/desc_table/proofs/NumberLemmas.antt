-- Descriptors by number: what is found at one, and the lowest that is free.
use Rattle.std.proofs.Common.{◌≡◌, ℕ, ℤ, pos, negsuc, zero, suc, ◌+◌, ◌<◌, ◌≤◌, ◌||◌, nat_lt, Bool, List, [], ◌∷◌, drop, set, length, get_or, cond, true, false, Option, None, Some, IfSome, IsSome, refl, sym, ap, subst, ◌∙◌, inl, inr, arith, drop-cons, add-one, lt-ltb, le-ltb}
use Rattle.std.specs.Prelude.{count_by, is_none, is_some, sum_by}
use Rattle.std.specs.Option.{option_map}
use Rattle.std.specs.List.{position_from}
use Rattle.std.proofs.lemmas.Bool.{cases_eq}
use Rattle.std.proofs.lemmas.List.Sums.{sum_by-cons}
use Rattle.std.proofs.lemmas.List.{drop_all, get_or-set_other, get_or-set_same}
use Rattle.kheap_slabs.specs.Objects.{InUse, object}
use Rattle.kheap_slabs.specs.declared.objects.Desc.{Desc}
use Rattle.kheap_slabs.specs.declared.objects.Descriptor.{Descriptor as Held}
use Rattle.kheap_slabs.specs.declared.objects.Leaf.{Leaf}
use Rattle.kheap_slabs.specs.Heap.{Heap}
use Rattle.kheap_slabs.specs.Leaves.{OwnsLeaves, group_of, has_place, place_of}
use Rattle.kheap_laws.proofs.KeyPlaces.{key_there}
use Rattle.open_laws.specs.Described.{access_in}
use Rattle.open_laws.specs.Polled.{IsOpenIn, IsTargetIn, TellsOpen, TellsTarget}
use Rattle.posix_defs.specs.Files.Descriptors.{Descriptor, Descriptors, descriptor_at, lowest_free_from, open_count}
use Rattle.desc_table.specs.Numbered.{descriptor_in, descriptors_in, number_of}

pub seen_at : (places : List (Option Held)) (fd : ℕ) → descriptor_at (descriptors_in places) fd ≡ option_map descriptor_in (get_or places fd None)
seen_at [] zero = refl
seen_at [] (suc fd) = refl
seen_at (first ∷ places) zero = refl
seen_at (first ∷ places) (suc fd) = seen_at places fd

-- the number is free
pub lowest_found : (n : ℕ) (descriptors : Descriptors) → n < length descriptors → descriptor_at descriptors n ≡ None → lowest_free_from descriptors n ≡ Some n
lowest_found n descriptors within free =
    ap (position_from is_none n) (drop-cons descriptors n None within)
    ∙ ap (λ (o : Option Descriptor). cond (is_none o) (Some n) (position_from is_none (n + 1) (drop (suc n) descriptors))) free

-- the number is open, and the next one is looked at
pub lowest_passed : (n : ℕ) (descriptors : Descriptors) (taken : Descriptor) → n < length descriptors → descriptor_at descriptors n ≡ Some taken
    → lowest_free_from descriptors n ≡ lowest_free_from descriptors (n + 1)
lowest_passed n descriptors taken within is =
    ap (position_from is_none n) (drop-cons descriptors n None within)
    ∙ (ap (λ (o : Option Descriptor). cond (is_none o) (Some n) (position_from is_none (n + 1) (drop (suc n) descriptors))) is
    ∙ ap (λ (m : ℕ). position_from is_none (n + 1) (drop m descriptors)) (sym (add-one n)))

pub none_from : (n : ℕ) (descriptors : Descriptors) → length descriptors ≤ n → lowest_free_from descriptors n ≡ None
none_from n descriptors past = ap (position_from is_none n) (drop_all n descriptors past)

pub length_seen : (places : List (Option Held)) → length (descriptors_in places) ≡ length places
length_seen [] = refl
length_seen (first ∷ places) = ap suc (length_seen places)

pub free_seen : (o : Option Held) → is_none o ≡ true → option_map descriptor_in o ≡ None
free_seen None free = refl
free_seen (Some held) free = cc

-- as many are open as are kept
pub count_seen : (places : List (Option Held)) → count_by is_some places ≡ open_count (descriptors_in places)
count_seen [] = refl
count_seen (None ∷ places) =
    sum_by-cons (λ (o : Option Held). cond (is_some o) 1 0) None places
    ∙ (ap (λ (n : ℕ). 0 + n) (count_seen places) ∙ sym (sum_by-cons (λ (o : Option Descriptor). cond (is_some o) 1 0) None (descriptors_in places)))
count_seen (Some held ∷ places) =
    sum_by-cons (λ (o : Option Held). cond (is_some o) 1 0) (Some held) places
    ∙ (ap (λ (n : ℕ). 1 + n) (count_seen places) ∙ sym (sum_by-cons (λ (o : Option Descriptor). cond (is_some o) 1 0) (Some (descriptor_in held)) (descriptors_in places)))

-- what number it is that a call has
pub is_number : (fd : ℤ) (n : ℕ) → number_of fd ≡ Some n → fd ≡ pos n
is_number (pos m) n is = let same : m ≡ n = cc in ap pos same
is_number (negsuc m) n is = absurd (cc)

pub is_negative : (fd : ℤ) → number_of fd ≡ None → (m : ℕ) × (fd ≡ negsuc m)
is_negative (pos m) is = absurd (cc)
is_negative (negsuc m) is = (m, refl)

-- ---- what stands in rows

-- a number has its place in a row of 32
pub in_a_row : (fd : ℕ) → place_of fd < 32
in_a_row fd = omega arith

-- one of the first has a place
pub first_place : (keys : List (Option ℕ)) (fd : ℕ) → fd < 32 → has_place keys fd ≡ true
first_place keys fd below = ap (λ b. b || is_some (get_or keys (group_of fd) None)) (lt-ltb fd 32 below)

-- another has one where its Leaf is there
pub leaf_place : (keys : List (Option ℕ)) (fd key : ℕ) → get_or keys (group_of fd) None ≡ Some key → has_place keys fd ≡ true
leaf_place keys fd key named = ap (λ o. nat_lt fd 32 || is_some o) named ∙ or_true (nat_lt fd 32)
  where
    or_true : (b : Bool) → (b || true) ≡ true
    or_true true = refl
    or_true false = refl

pub leaf_place_none : (keys : List (Option ℕ)) (fd : ℕ) → 32 ≤ fd → get_or keys (group_of fd) None ≡ None → has_place keys fd ≡ false
leaf_place_none keys fd least none = ap (λ o. nat_lt fd 32 || is_some o) none ∙ ap (λ b. b || false) (le-ltb fd 32 least)

-- and keeps it where another group gets its Leaf
pub places_made : (keys : List (Option ℕ)) (group key : ℕ) (fd : ℕ) → group < length keys → has_place keys fd ≡ true → has_place (set keys group (Some key)) fd ≡ true
places_made keys group key fd within has = elim (cases_eq (group_of fd) group) [
  | inl same ↦ leaf_place (set keys group (Some key)) fd key (ap (λ g. get_or (set keys group (Some key)) g None) same ∙ get_or-set_same keys group (Some key) None within)
  | inr apart ↦ ap (λ o. nat_lt fd 32 || is_some o) (get_or-set_other keys group (group_of fd) (Some key) None apart) ∙ has
]

pub taken_seen : (o : Option Held) → is_none o ≡ false → (taken : Descriptor) × (option_map descriptor_in o ≡ Some taken)
taken_seen None free = absurd (cc)
taken_seen (Some held) free = (descriptor_in held, refl)

pub none_some : {X : Type 0} (o : Option X) → o ≡ None → IsSome o → ⊥
none_some None none some = cc
none_some (Some x) none some = cc

pub no_some : {X : Type 0} (o : Option X) → ((x : X) → o ≡ Some x → ⊥) → o ≡ None
no_some None none = refl
no_some (Some x) none = absurd (none x refl)

pub same_held : (o : Option Held) (one other : Held) → o ≡ Some one → o ≡ Some other → one ≡ other
same_held o one other is also = let both : Some one ≡ Some other = sym is ∙ also in cc

-- the Leaf of a group is in use, if there is one
pub leaf_used : (leaves : List (Option Leaf)) (keys : List (Option ℕ)) (group : ℕ) → OwnsLeaves leaves keys → IfSome (get_or keys group None) (InUse leaves)
leaf_used leaves keys group owns = by_key (get_or keys group None) refl
  where
    by_key : (o : Option ℕ) → get_or keys group None ≡ o → IfSome o (InUse leaves)
    by_key None is = tt
    by_key (Some key) is = owns.used key (key_there keys group key is)

pub sum_three : {X : Type 0} (f : Option X → ℕ) (keys : List (Option X)) → length keys ≡ 3 → sum_by f keys ≡ f (get_or keys 0 None) + f (get_or keys 1 None) + f (get_or keys 2 None)
sum_three f [] three = absurd (omega (arith, three))
sum_three f (one ∷ []) three = absurd (omega (arith, three))
sum_three f (one ∷ two ∷ []) three = absurd (omega (arith, three))
sum_three f (one ∷ two ∷ last ∷ []) three =
    let first = sum_by-cons f one (two ∷ last ∷ []) in
    let second = sum_by-cons f two (last ∷ []) in
    let third = sum_by-cons f last [] in
    let none : sum_by f [] ≡ 0 = refl in
    omega (arith, first, second, third, none)
sum_three f (one ∷ two ∷ last ∷ more ∷ keys) three = absurd (omega (arith, three))

-- ---- what is told of an open one

pub open_there : (h : Heap) (held : Held) → IsOpenIn h (Some (descriptor_in held)) → InUse h.descs held.desc × ((desc : Desc) → object h.descs held.desc ≡ Some desc → IsTargetIn h desc.target)
open_there h held there =
    (ap is_some there.1, λ desc is. subst (λ (d : Desc). IsTargetIn h d.target) (one_desc there.0 desc (sym there.1 ∙ is)) there.2)
  where
    one_desc : (one other : Desc) → Some one ≡ Some other → one ≡ other
    one_desc one other same = cc

pub tells_desc : (h : Heap) (events : ℤ) (told : ℕ) (held : Held) (desc : Desc) → object h.descs held.desc ≡ Some desc → TellsTarget h (access_in desc.access) events told desc.target
    → TellsOpen h events told (Some (descriptor_in held))
tells_desc h events told held desc is tells = λ other at.
    subst (λ (d : Desc). TellsTarget h (access_in d.access) events told d.target) (one_desc desc other (sym is ∙ at)) tells
  where
    one_desc : (one other : Desc) → Some one ≡ Some other → one ≡ other
    one_desc one other same = cc
