-- What is found among descriptors and descriptions after one of them has changed.
use Rattle.std.proofs.Common.{◌≡◌, ◌≢◌, ℕ, zero, suc, ◌+◌, ◌-◌, ◌<◌, ◌≤◌, ℤ, pos, negsuc, Bool, true, false, cond, List, [], ◌∷◌, length, drop, Option, None, Some, is_none, slice_index_or, unwrap_or, refl, ap, sym, ◌∙◌, inl, inr, arith, length-drop}
use Rattle.std.specs.List.{position_from}
use Rattle.std.specs.Option.{option_map}
use Rattle.std.proofs.lemmas.List.{get_or_past, get_or-drop}
use Rattle.std.proofs.lemmas.Option.{slice_get_past}
use Rattle.posix_defs.specs.Files.Descriptors.{Descriptor, Descriptors, descriptor_at, descriptor_of, lowest_free_from, none_open, with_descriptor}
use Rattle.posix_defs.specs.Files.Descriptions.{Description, description_at}
use Rattle.posix_defs.specs.Files.State.{Files, descriptors_of, with_open}
use Rattle.posix_defs.specs.Calls.Opened.{Opened, opened_at, opened_by}
use Rattle.kern_laws.proofs.Bareness.{none_open_at}
use Rattle.kern_laws.proofs.TablePlaces.{below_or_not, get_set_same, get_set_other}

pub not_some : {X : Type 0} {x : X} {o : Option X} → o ≡ None → o ≡ Some x → ⊥
not_some none some = cc

pub some_same : {X : Type 0} (o : Option X) (x y : X) → o ≡ Some x → o ≡ Some y → x ≡ y
some_same o x y e f = cc

-- who has an item at a place stands within the list
pub there_within : {X : Type 0} (xs : List (Option X)) (place : ℕ) (x : X) → slice_index_or xs place None ≡ Some x → place < length xs
there_within xs place x there = elim (below_or_not place (length xs)) [
  | inl h ↦ h
  | inr h ↦ absurd (not_some (get_or_past xs place None h) there)
]

-- ---- numbers that are free

record IsFoundAt {X : Type 0} (test : X → Bool) (from : ℕ) (xs : List X) (default : X) (place : ℕ) : Type 0 where
  behind : ℕ
  is : place ≡ from + behind
  inside : behind < length xs
  passes : test (slice_index_or xs behind default) ≡ true

found_at : {X : Type 0} (test : X → Bool) (default : X) (from : ℕ) (xs : List X) (place : ℕ) → position_from test from xs ≡ Some place
    → IsFoundAt test from xs default place
found_at test default from [] place e = absurd (not_some refl e)
found_at test default from (x ∷ xs) place e = go (test x) refl (found_at test default (from + 1) xs place) e
  where
    go : (b : Bool) → test x ≡ b → (position_from test (from + 1) xs ≡ Some place → IsFoundAt test (from + 1) xs default place)
        → cond b (Some from) (position_from test (from + 1) xs) ≡ Some place → IsFoundAt test from (x ∷ xs) default place
    go true is later here = record { behind = 0; is = let same : from ≡ place = some_same (Some from) from place refl here in omega arith; inside = omega arith; passes = is }
    go false is later further = let rest = later further in
        record { behind = suc rest.behind; is = let e : place ≡ from + 1 + rest.behind = rest.is in omega arith; inside = let h : rest.behind < length xs = rest.inside in omega arith; passes = rest.passes }

is_none_of : {X : Type 0} (o : Option X) → is_none o ≡ true → o ≡ None
is_none_of None e = refl
is_none_of (Some x) e = absurd (no e)
  where
    no : false ≡ true → ⊥
    no f = cc

-- the lowest number that is free from one on is one of the list, and is free
pub free_at : (descriptors : Descriptors) (from to : ℕ) → lowest_free_from descriptors from ≡ Some to → (to < length descriptors) × (descriptor_at descriptors to ≡ None) × (from ≤ to)
free_at descriptors from to e = go (found_at is_none None from (drop from descriptors) to e)
  where
    go : IsFoundAt is_none from (drop from descriptors) None to → (to < length descriptors) × (descriptor_at descriptors to ≡ None) × (from ≤ to)
    go found = (
      let is : to ≡ from + found.behind = found.is in let h : found.behind < length (drop from descriptors) = found.inside in
          let fewer : length (drop from descriptors) ≡ length descriptors - from = length-drop from descriptors in omega arith,
      ap (descriptor_at descriptors) found.is ∙ sym (get_or-drop from descriptors found.behind None) ∙ is_none_of _ found.passes,
      (let is : to ≡ from + found.behind = found.is in omega arith),
    )

-- ---- descriptors of a process

-- who has a descriptor open was made
pub opener_made : (files : Files) (pid : ℕ) (fd : ℤ) (descriptor : Descriptor) → descriptor_of (descriptors_of files pid) fd ≡ Some descriptor
    → (0 < pid) × (pid ≤ length files.descriptors)
opener_made files pid fd descriptor held = elim (below_or_not (length files.descriptors) pid) [
  | inl h ↦ absurd (nothing_open (past pid h))
  | inr h ↦ (positive pid held, h)
]
  where
    past : (pid : ℕ) → length files.descriptors < pid → descriptors_of files pid ≡ none_open
    past zero h = refl
    past (suc i) h = ap (λ found. unwrap_or found none_open) (slice_get_past files.descriptors i (omega arith))

    none_of : (fd : ℤ) → descriptor_of none_open fd ≡ None
    none_of (pos fd) = none_open_at fd
    none_of (negsuc n) = refl

    nothing_open : descriptors_of files pid ≡ none_open → ⊥
    nothing_open none = not_some (ap (λ descriptors. descriptor_of descriptors fd) none ∙ none_of fd) held

    positive : (pid : ℕ) → descriptor_of (descriptors_of files pid) fd ≡ Some descriptor → 0 < pid
    positive zero is = absurd (not_some (none_of fd) is)
    positive (suc i) is = omega arith

-- what a process has open after a change of one of its descriptors
pub own_after : (files : Files) (pid fd : ℕ) (descriptor : Option Descriptor) → 0 < pid → pid ≤ length files.descriptors
    → descriptors_of (with_open files pid fd descriptor) pid ≡ with_descriptor (descriptors_of files pid) fd descriptor
own_after files zero fd descriptor h within = absurd (omega arith)
own_after files (suc i) fd descriptor h within =
    ap (λ found. unwrap_or found none_open) (get_set_same files.descriptors i (with_descriptor (descriptors_of files (suc i)) fd descriptor) (omega arith))

-- what another has open stays
pub others_after : (files : Files) (pid other fd : ℕ) (descriptor : Option Descriptor) → other ≢ pid
    → descriptors_of (with_open files pid fd descriptor) other ≡ descriptors_of files other
others_after files pid zero fd descriptor apart = refl
others_after files zero (suc j) fd descriptor apart = refl
others_after files (suc i) (suc j) fd descriptor apart =
    ap (λ found. unwrap_or found none_open) (get_set_other files.descriptors i j (with_descriptor (descriptors_of files (suc i)) fd descriptor) (λ same. apart (ap (λ k. suc k) same)))

-- ---- what a descriptor names

pub record IsNaming (files : Files) (pid : ℕ) (fd : ℤ) (opened : Opened) : Type 0 where
  pub descriptor : Descriptor
  pub held : descriptor_of (descriptors_of files pid) fd ≡ Some descriptor
  pub place : descriptor.description ≡ opened.place
  pub there : description_at files.descriptions opened.place ≡ Some opened.is

pub naming : (files : Files) (pid : ℕ) (fd : ℤ) (opened : Opened) → opened_at files pid fd ≡ Some opened → IsNaming files pid fd opened
naming files pid fd opened is = go (descriptor_of (descriptors_of files pid) fd) refl is
  where
    found : (descriptor : Descriptor) → descriptor_of (descriptors_of files pid) fd ≡ Some descriptor → (o : Option Description)
        → description_at files.descriptions descriptor.description ≡ o
        → option_map (λ description. record { place = descriptor.description; is = description }) o ≡ Some opened → IsNaming files pid fd opened
    found descriptor held None there e = absurd (not_some refl e)
    found descriptor held (Some description) there e = let same : record { place = descriptor.description; is = description } ≡ opened = some_same (Some opened) _ opened (sym e) refl in
        record {
          descriptor = descriptor;
          held = held;
          place = ap (λ o. o.place) same;
          there = ap (description_at files.descriptions) (sym (ap (λ o. o.place) same)) ∙ there ∙ ap (λ o. Some o.is) same;
        }

    go : (o : Option Descriptor) → descriptor_of (descriptors_of files pid) fd ≡ o → opened_by files o ≡ Some opened → IsNaming files pid fd opened
    go None held e = absurd (not_some refl e)
    go (Some descriptor) held e = found descriptor held _ refl e

-- a descriptor that names a place where a description is
pub names_there : (files : Files) (pid : ℕ) (fd : ℤ) (descriptor : Descriptor) (place : ℕ) (description : Description)
    → descriptor_of (descriptors_of files pid) fd ≡ Some descriptor → descriptor.description ≡ place → description_at files.descriptions place ≡ Some description
    → opened_at files pid fd ≡ Some (record { place = place; is = description })
names_there files pid fd descriptor place description held same there =
    ap (opened_by files) held ∙ ap (λ at. option_map (λ description. record { place = at; is = description }) (description_at files.descriptions at)) same
    ∙ ap (option_map (λ description. record { place = place; is = description })) there

-- what a descriptor names goes by the descriptions alone
pub opened_same : (old new : Files) (o : Option Descriptor) → new.descriptions ≡ old.descriptions → opened_by new o ≡ opened_by old o
opened_same old new None same = refl
opened_same old new (Some descriptor) same =
    ap (λ descriptions. option_map (λ description. record { place = descriptor.description; is = description }) (description_at descriptions descriptor.description)) same
