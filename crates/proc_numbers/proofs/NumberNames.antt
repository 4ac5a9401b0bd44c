-- What a number of a process names, in the heap and in the machine.
use Rattle.std.proofs.Common.{◌≡◌, ℕ, ℤ, pos, negsuc, zero, suc, ◌+◌, ◌<◌, ◌≤◌, Bool, true, false, List, [], ◌∷◌, drop, replicate, length, Option, None, Some, IsSome, refl, ap, sym, ◌∙◌, subst, arith}
use Rattle.std.specs.Prelude.{is_none, nat_lt, slice_index_or}
use Rattle.std.specs.List.{position_from}
use Rattle.std.specs.Option.{option_map}
use Rattle.std.proofs.Math.ListN.{get_or-map}
use Rattle.std.proofs.lemmas.List.{get_or_past}
use Rattle.kabi_types.specs.Arguments.{count_of, may_be_descriptor, most_descriptors}
use Rattle.desc_table.specs.Numbered.{descriptor_in, descriptors_in}
use Rattle.kheap_slabs.specs.Objects.{object}
use Rattle.kheap_slabs.specs.declared.objects.Desc.{Desc}
use Rattle.kheap_slabs.specs.declared.objects.Descriptor.{Descriptor as HeldDescriptor}
use Rattle.kheap_slabs.specs.declared.objects.Proc.{Proc}
use Rattle.kheap_slabs.specs.Heap.{Heap, IsWellFormed}
use Rattle.open_laws.specs.Described.{Counted, counted_in}
use Rattle.open_laws.specs.Open.{descriptor_by, descriptors_by}
use Rattle.open_laws.specs.Owned.{HasItsOwners, desc_count, names_desc}
use Rattle.open_laws.proofs.DescribedLemmas.{at_place}
use Rattle.open_laws.proofs.DropLemmas.{description_in}
use Rattle.open_laws.proofs.GoingLemmas.{counts_few}
use Rattle.open_laws.specs.Placed.{Numbers}
use Rattle.posix_defs.specs.Calls.OnDescriptors.{cloexec_set}
use Rattle.posix_defs.specs.Calls.Opened.{opened_at, opened_by}
use Rattle.posix_defs.specs.Files.Descriptions.{Description, description_at}
use Rattle.posix_defs.specs.Files.Descriptors.{Descriptor, descriptor_at, descriptor_of, lowest_free_from}
use Rattle.posix_defs.specs.Files.State.{Files, descriptors_of}
use Rattle.proc_table.specs.Procs.{numbers_in, proc_of}
use Rattle.proc_table.specs.Table.{TableView, processes}
use Rattle.proc_table.proofs.PlaceLemmas.{eqb_same, some_same}
use Rattle.proc_numbers.specs.Having.{AreListed, HaveOpen, places_in}
use Rattle.proc_numbers.specs.Naming.{AreOpenBelow, marked, named_at, named_by, places_of}
use Rattle.proc_numbers.proofs.Listing.{found_by_pid}
use Rattle.proc_numbers.proofs.NumberParts.{named_part}
use Rattle.proc_numbers.proofs.Sums.{one_if, part_of_sum}

-- ---- the number that a call has

pub named_within : (h : Heap) (kept : TableView) (pid : ℕ) (fd : ℤ) → may_be_descriptor fd ≡ true → named_by h kept pid fd ≡ named_at h kept pid (count_of fd)
named_within h kept pid (pos fd) within = refl
named_within h kept pid (negsuc _) within = cc

below_most : (n : ℕ) (b : Bool) → nat_lt n most_descriptors ≡ b → (b ≡ true → n < most_descriptors) × (b ≡ false → most_descriptors ≤ n)
below_most n b is = (grind arith, grind arith)

pub within_most : (fd : ℤ) → may_be_descriptor fd ≡ true → count_of fd < most_descriptors
within_most (pos n) within = (below_most n true within).0 refl
within_most (negsuc _) within = cc

pub named_beyond : (h : Heap) (kept : TableView) (pid : ℕ) (fd : ℤ) → length (places_of h kept pid) ≡ most_descriptors → may_be_descriptor fd ≡ false → named_by h kept pid fd ≡ None
named_beyond h kept pid (pos n) long beyond = get_or_past (places_of h kept pid) n None (let past = (below_most n false beyond).1 refl in omega (arith, past, long))
named_beyond h kept pid (negsuc _) long beyond = refl

-- ---- in the machine

module _ (numbers : Numbers) (h : Heap) (kept : TableView) (files : Files) (pid : ℕ) (have : HaveOpen numbers h kept files) where
  pub descriptor_at_is : (fd : ℕ) → descriptor_at (descriptors_of files pid) fd ≡ option_map (descriptor_by numbers.descs) (named_at h kept pid fd)
  descriptor_at_is fd = ap (λ descriptors. descriptor_at descriptors fd) (have.descriptors.each pid) ∙ get_or-map (option_map (descriptor_by numbers.descs)) (places_of h kept pid) fd None

  pub descriptor_is : (fd : ℤ) → descriptor_of (descriptors_of files pid) fd ≡ option_map (descriptor_by numbers.descs) (named_by h kept pid fd)
  descriptor_is (pos fd) = descriptor_at_is fd
  descriptor_is (negsuc _) = refl

  -- a number that isn't open names nothing
  pub opened_nothing : (fd : ℤ) → named_by h kept pid fd ≡ None → opened_at files pid fd ≡ None
  opened_nothing fd none = ap (opened_by files) (descriptor_is fd ∙ ap (option_map (descriptor_by numbers.descs)) none)

  -- and one that is open names the description of its Desc
  pub opened_so : (fd : ℤ) (held : HeldDescriptor) (desc : Desc) → named_by h kept pid fd ≡ Some held → object h.descs held.desc ≡ Some desc
      → opened_at files pid fd ≡ Some (record { place = numbers.descs held.desc; is = (counted_in numbers desc).is })
  opened_so fd held desc is found =
      ap (opened_by files) (descriptor_is fd ∙ ap (option_map (descriptor_by numbers.descs)) is)
      ∙ ap (option_map (λ (description : Description). record { place = numbers.descs held.desc; is = description })) described
    where
      described : description_at files.descriptions (numbers.descs held.desc) ≡ Some (counted_in numbers desc).is
      described =
          ap (λ (d : List (Option Description)). description_at d (numbers.descs held.desc)) have.opened.descriptions
          ∙ description_in have.list (numbers.descs held.desc)
          ∙ ap (option_map (λ (counted : Counted). counted.is)) (at_place numbers h.descs have.list held.desc desc found have.opened.described)

  -- where `exec` closes the number from now on, or doesn't, its descriptor in the machine does so too
  pub marked_so : (fd : ℕ) (held : HeldDescriptor) (cloexec : Bool) → named_at h kept pid fd ≡ Some held
      → cloexec_set cloexec (descriptor_at (descriptors_of files pid) fd) ≡ Some (descriptor_by numbers.descs (marked held cloexec))
  marked_so fd held cloexec is = ap (cloexec_set cloexec) (descriptor_at_is fd ∙ ap (option_map (descriptor_by numbers.descs)) is)

  -- the lowest number that is free is the same by keys and by places
  pub lowest_is : (from : ℕ) → lowest_free_from (descriptors_of files pid) from ≡ lowest_free_from (descriptors_in (places_of h kept pid)) from
  lowest_is from = ap (λ descriptors. lowest_free_from descriptors from) (have.descriptors.each pid) ∙ same from from (places_of h kept pid)
    where
      same_here : (at : ℕ) (places : List (Option HeldDescriptor)) → position_from is_none at (descriptors_by numbers.descs places) ≡ position_from is_none at (descriptors_in places)
      same_here at [] = refl
      same_here at (None ∷ places) = refl
      same_here at (Some held ∷ places) = same_here (at + 1) places

      same : (skipped at : ℕ) (places : List (Option HeldDescriptor))
          → position_from is_none at (drop skipped (descriptors_by numbers.descs places)) ≡ position_from is_none at (drop skipped (descriptors_in places))
      same zero at places = same_here at places
      same (suc skipped) at [] = refl
      same (suc skipped) at (place ∷ places) = same skipped at places

-- ---- numbers that are free

-- a number that is found to be free is one, and not below where the search began
pub record IsFree (descriptors : List (Option Descriptor)) (from fd : ℕ) : Type 0 where
  pub free : descriptor_at descriptors fd ≡ None
  pub within : fd < length descriptors
  pub above : from ≤ fd
  pub least : (other : ℕ) → from ≤ other → other < fd → IsSome (descriptor_at descriptors other)

record IsAfter (descriptors : List (Option Descriptor)) (before skipped fd : ℕ) : Type 0 where
  index : ℕ
  is : fd ≡ before + index
  above : skipped ≤ index
  free : descriptor_at descriptors index ≡ None
  within : index < length descriptors
  least : (other : ℕ) → skipped ≤ other → other < index → IsSome (descriptor_at descriptors other)

found_after : (descriptors : List (Option Descriptor)) (at fd : ℕ) → position_from is_none at descriptors ≡ Some fd → IsAfter descriptors at 0 fd
found_after [] at fd e = cc
found_after (None ∷ rest) at fd e = let same : at ≡ fd = some_same (Some at) at fd refl e in record { index = zero; is = omega (arith, same); above = omega arith; free = refl; within = omega arith; least = λ other most less. absurd (omega (arith, less)) }
found_after (Some one ∷ rest) at fd e =
    let more = found_after rest (at + 1) fd e in
    let is = more.is in let short = more.within in
    record { index = suc more.index; is = omega (arith, is); above = omega arith; free = more.free; within = omega (arith, short); least = λ other most less. before more other less }
  where
    before : (more : IsAfter rest (at + 1) 0 fd) (other : ℕ) → other < suc more.index → IsSome (descriptor_at (Some one ∷ rest) other)
    before more zero less = refl
    before more (suc other) less = more.least other (omega arith) (omega (arith, less))

skipped_after : (skipped before at fd : ℕ) (descriptors : List (Option Descriptor)) → at ≡ before + skipped → position_from is_none at (drop skipped descriptors) ≡ Some fd
    → IsAfter descriptors before skipped fd
skipped_after zero before at fd descriptors e found =
    let it = found_after descriptors at fd found in let is = it.is in
    record { index = it.index; is = omega (arith, is, e); above = omega arith; free = it.free; within = it.within; least = it.least }
skipped_after (suc skipped) before at fd [] e found = cc
skipped_after (suc skipped) before at fd (first ∷ rest) e found =
    let it = skipped_after skipped (before + 1) at fd rest (omega (arith, e)) found in
    let is = it.is in let above = it.above in let short = it.within in
    record { index = suc it.index; is = omega (arith, is); above = omega (arith, above); free = it.free; within = omega (arith, short); least = between it }
  where
    between : (it : IsAfter rest (before + 1) skipped fd) (other : ℕ) → suc skipped ≤ other → other < suc it.index → IsSome (descriptor_at (first ∷ rest) other)
    between it zero most less = absurd (omega (arith, most))
    between it (suc other) most less = it.least other (omega (arith, most)) (omega (arith, less))

pub lowest_free_is : (descriptors : List (Option Descriptor)) (from fd : ℕ) → lowest_free_from descriptors from ≡ Some fd → IsFree descriptors from fd
lowest_free_is descriptors from fd found =
    let it = skipped_after from 0 from fd descriptors (omega arith) found in
    let is = it.is in
    let same : it.index ≡ fd = omega (arith, is) in
    record {
      free = ap (descriptor_at descriptors) (sym same) ∙ it.free;
      within = subst (λ n. n < length descriptors) same it.within;
      above = subst (λ n. from ≤ n) same it.above;
      least = λ other most less. it.least other most (omega (arith, less, same));
    }

-- and so it is in the process
pub free_at : (h : Heap) (kept : TableView) (pid from fd : ℕ) → lowest_free_from (descriptors_in (places_of h kept pid)) from ≡ Some fd → named_at h kept pid fd ≡ None
free_at h kept pid from fd found =
    by_slot (named_at h kept pid fd) refl
    (sym (get_or-map (option_map descriptor_in) (places_of h kept pid) fd None) ∙ (lowest_free_is (descriptors_in (places_of h kept pid)) from fd found).free)
  where
    by_slot : (o : Option HeldDescriptor) → named_at h kept pid fd ≡ o → option_map descriptor_in (named_at h kept pid fd) ≡ None → named_at h kept pid fd ≡ None
    by_slot None is none = is
    by_slot (Some held) is none = absurd (let some : Some (descriptor_in held) ≡ None = sym (ap (option_map descriptor_in) is) ∙ none in cc)

-- and all before it are open
pub open_below : (h : Heap) (kept : TableView) (pid from fd : ℕ) → lowest_free_from (descriptors_in (places_of h kept pid)) from ≡ Some fd → AreOpenBelow h kept pid from fd
open_below h kept pid from fd found = λ other most less.
    by_slot (named_at h kept pid other) (subst (λ o. IsSome o) (get_or-map (option_map descriptor_in) (places_of h kept pid) other None) ((lowest_free_is (descriptors_in (places_of h kept pid)) from fd found).least other most less))
  where
    by_slot : (o : Option HeldDescriptor) → IsSome (option_map descriptor_in o) → IsSome o
    by_slot None some = some
    by_slot (Some held) some = refl

-- ---- in the heap

nothing_open : (n fd : ℕ) → slice_index_or (replicate {A = Option HeldDescriptor} n None) fd None ≡ None
nothing_open zero fd = refl
nothing_open (suc n) zero = refl
nothing_open (suc n) (suc fd) = nothing_open n fd

module _ (h : Heap) (kept : TableView) (hand : List ℕ) (listed : AreListed h kept) (owners : HasItsOwners h hand) where
  -- what a number names is there
  pub desc_named : (pid fd : ℕ) (held : HeldDescriptor) → named_at h kept pid fd ≡ Some held → (desc : Desc) × (object h.descs held.desc ≡ Some desc)
  desc_named pid fd held is = by_proc (proc_of (processes h kept) pid) refl
    where
      by_desc : (o : Option Desc) → object h.descs held.desc ≡ o → 0 < desc_count o → (desc : Desc) × (object h.descs held.desc ≡ Some desc)
      by_desc None none some = absurd (omega (arith, some))
      by_desc (Some desc) found some = (desc, found)

      by_proc : (o : Option Proc) → proc_of (processes h kept) pid ≡ o → (desc : Desc) × (object h.descs held.desc ≡ Some desc)
      by_proc None none = absurd (
          let nothing : None ≡ Some held = sym (nothing_open most_descriptors fd) ∙ (sym (ap (λ o. slice_index_or (places_in (numbers_in h) o) fd None) none) ∙ is) in cc)
      by_proc (Some proc) found =
          let at = found_by_pid h.procs kept.listed pid proc listed.stored found in
          let slot : slice_index_or (numbers_in h proc) fd None ≡ Some held = sym (ap (λ o. slice_index_or (places_in (numbers_in h) o) fd None) found) ∙ is in
          let one = part_of_sum (λ o. one_if (names_desc held.desc o)) (numbers_in h proc) fd held slot in
          let it = ap one_if (eqb_same held.desc held.desc refl) in
          let all = named_part held.desc h at.key proc at.there (omega (arith, one, it)) in
          let counts = owners.named.counts held.desc in
          by_desc (object h.descs held.desc) refl (omega (arith, all, counts))

  pub desc_named_by : (pid : ℕ) (fd : ℤ) (held : HeldDescriptor) → named_by h kept pid fd ≡ Some held → (desc : Desc) × (object h.descs held.desc ≡ Some desc)
  desc_named_by pid (pos fd) held is = desc_named pid fd held is
  desc_named_by pid (negsuc _) held is = cc

  -- and one more may name it
  pub count_is_small : IsWellFormed h → length hand < 524288 → (key : ℕ) (desc : Desc) → object h.descs key ≡ Some desc → desc.count < 4294967295
  count_is_small whole few key desc found =
      let most = counts_few h hand key whole owners in let it : desc_count (object h.descs key) ≡ desc.count = ap desc_count found in omega (arith, most, it, few)
