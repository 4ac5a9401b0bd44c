-- Descriptors of the machine name the description of a place where those of processes name the Desc that has this place.
use Rattle.std.proofs.Common.{◌≡◌, ℕ, zero, suc, ◌<◌, ◌≤◌, ◌==◌, ◌||◌, true, false, List, [], ◌∷◌, Option, None, Some, refl, ap, sym, ◌∙◌, arith, inl, inr}
use Rattle.std.specs.Prelude.{count_by, slice_get, unwrap_or}
use Rattle.std.specs.List.{list_any}
use Rattle.std.proofs.lemmas.Bool.Decides.{eqb_tells}
use Rattle.kheap_slabs.specs.declared.objects.Descriptor.{Descriptor as HeldDescriptor}
use Rattle.kheap_slabs.specs.declared.objects.Proc.{Proc}
use Rattle.kheap_slabs.specs.Heap.{Heap}
use Rattle.open_laws.specs.Open.{descriptors_by}
use Rattle.open_laws.specs.Owned.{all_namings, names_desc}
use Rattle.posix_defs.specs.Files.Descriptors.{Descriptors, is_named, names_place, none_open}
use Rattle.posix_defs.specs.Files.State.{Files}
use Rattle.proc_table.specs.Procs.{no_descriptors, numbers_in, proc_of}
use Rattle.proc_table.specs.Table.{TableView, processes}
use Rattle.proc_table.proofs.PlaceLemmas.{eqb_same}
use Rattle.proc_numbers.specs.Having.{AreListed, HaveDescriptors, places_in}
use Rattle.proc_numbers.proofs.Listing.{found_by_pid, pid_between}
use Rattle.proc_numbers.proofs.NumberParts.{named_part, named_whole}
use Rattle.proc_numbers.proofs.Sums.{count_cons, get_within, none_any, one_any, one_if, or_true}

-- ---- the descriptors of one process

-- no two Descs that they name have one place
pub Apart : (ℕ → ℕ) → ℕ → List (Option HeldDescriptor) → Type 0
Apart number key places = (other : ℕ) → 0 < count_by (names_desc other) places → number other ≡ number key → other ≡ key

apart_behind : (number : ℕ → ℕ) (key : ℕ) (place : Option HeldDescriptor) (places : List (Option HeldDescriptor)) → Apart number key (place ∷ places) → Apart number key places
unfolding Apart
apart_behind number key place places apart = λ other some same.
    apart other (let more = count_cons (names_desc other) place places in omega (arith, more, some)) same

pub hides : (number : ℕ → ℕ) (key : ℕ) (places : List (Option HeldDescriptor)) → Apart number key places → count_by (names_desc key) places ≡ 0
    → list_any (names_place (number key)) (descriptors_by number places) ≡ false
unfolding Apart
hides number key [] apart none = refl
hides number key (None ∷ places) apart none =
    hides number key places (apart_behind number key None places apart) (let more = count_cons (names_desc key) None places in omega (arith, more, none))
hides number key (Some held ∷ places) apart none = elim (eqb_tells (number held.desc) (number key)) [
  | inl same ↦ absurd (
      let it : held.desc ≡ key = apart held.desc (let more = count_cons (names_desc held.desc) (Some held) places in let here = ap one_if (eqb_same held.desc held.desc refl) in omega (arith, more, here)) same.1 in
      let more = count_cons (names_desc key) (Some held) places in
      let here = ap one_if (eqb_same held.desc key it) in omega (arith, more, here, none))
  | inr other ↦
      ap (λ b. b || list_any (names_place (number key)) (descriptors_by number places)) other.0
      ∙ hides number key places (apart_behind number key (Some held) places apart) (let more = count_cons (names_desc key) (Some held) places in omega (arith, more, none))
]

pub shows : (number : ℕ → ℕ) (key : ℕ) (places : List (Option HeldDescriptor)) → 0 < count_by (names_desc key) places
    → list_any (names_place (number key)) (descriptors_by number places) ≡ true
shows number key [] some = absurd (let nothing : count_by (names_desc key) [] ≡ 0 = refl in omega (arith, some, nothing))
shows number key (None ∷ places) some = shows number key places (let more = count_cons (names_desc key) None places in omega (arith, more, some))
shows number key (Some held ∷ places) some = elim (eqb_tells held.desc key) [
  | inl same ↦ ap (λ b. b || list_any (names_place (number key)) (descriptors_by number places)) (eqb_same (number held.desc) (number key) (ap number same.1))
  | inr other ↦
      ap (λ b. (number held.desc == number key) || b)
      (shows number key places (let more = count_cons (names_desc key) (Some held) places in let here = ap one_if other.0 in omega (arith, more, here, some)))
      ∙ or_true (number held.desc == number key)
]

-- ---- those of all

none_there : (number : ℕ → ℕ) (place : ℕ) → list_any (names_place place) (descriptors_by number no_descriptors) ≡ false
none_there number place = refl

module _ (number : ℕ → ℕ) (h : Heap) (kept : TableView) (files : Files) (key : ℕ) (have : HaveDescriptors (numbers_in h) number (processes h kept) kept.last files) (listed : AreListed h kept) where
  -- what the machine has for a pid
  each_is : (i : ℕ) (descriptors : Descriptors) → slice_get files.descriptors i ≡ Some descriptors
      → descriptors ≡ descriptors_by number (places_in (numbers_in h) (proc_of (processes h kept) (suc i)))
  each_is i descriptors is = sym (ap (λ o. unwrap_or o none_open) is) ∙ have.each (suc i)

  pub named_by_none : ((other : ℕ) → 0 < all_namings h other → number other ≡ number key → other ≡ key) → all_namings h key ≡ 0
      → is_named files.descriptors (number key) ≡ false
  unfolding Apart
  named_by_none apart none =
      none_any (list_any (names_place (number key))) files.descriptors
      (λ i descriptors is. ap (list_any (names_place (number key))) (each_is i descriptors is) ∙ by_proc i (proc_of (processes h kept) (suc i)) refl)
    where
      by_proc : (i : ℕ) (o : Option Proc) → proc_of (processes h kept) (suc i) ≡ o → list_any (names_place (number key)) (descriptors_by number (places_in (numbers_in h) o)) ≡ false
      by_proc i None is = none_there number (number key)
      by_proc i (Some proc) is =
          let found = found_by_pid h.procs kept.listed (suc i) proc listed.stored is in
          hides number key (numbers_in h proc)
          (λ other some same. apart other (named_part other h found.key proc found.there some) same)
          (nothing (count_by (names_desc key) (numbers_in h proc)) (λ some. (let part = named_part key h found.key proc found.there some in omega (arith, part, none))))
        where
          nothing : (n : ℕ) → (0 < n → ⊥) → n ≡ 0
          nothing zero few = refl
          nothing (suc n) few = absurd (few (omega arith))

  pub named_by_some : 0 < all_namings h key → is_named files.descriptors (number key) ≡ true
  named_by_some some =
      let by = named_whole key h kept listed some in
      let found = found_by_pid h.procs kept.listed by.pid by.proc listed.stored by.found in
      let between = pid_between kept.listed 0 kept.last by.pid found.key listed.rising found.named in
      by_pid by.pid by.proc between.0 between.1 by.found by.names
    where
      by_pid : (pid : ℕ) (proc : Proc) → 0 < pid → pid ≤ kept.last → proc_of (processes h kept) pid ≡ Some proc → 0 < count_by (names_desc key) (numbers_in h proc)
          → is_named files.descriptors (number key) ≡ true
      by_pid zero proc above below is names = absurd (omega (arith, above))
      by_pid (suc i) proc above below is names =
          let there = get_within files.descriptors i (let made = have.made in omega (arith, made, below)) in
          one_any (list_any (names_place (number key))) files.descriptors i there.0 there.1
          (ap (list_any (names_place (number key))) (each_is i there.0 there.1 ∙ ap (λ o. descriptors_by number (places_in (numbers_in h) o)) is) ∙ shows number key (numbers_in h proc) names)
