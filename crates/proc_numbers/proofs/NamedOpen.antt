-- What a number of a process names in the heap is what it names in the machine.
use Rattle.std.proofs.Common.{◌≡◌, ℕ, ◌<◌, ℤ, pos, negsuc, List, [], Option, None, Some, refl, ap, ◌∙◌, arith}
use Rattle.std.specs.Prelude.{count_by}
use Rattle.std.specs.Option.{option_map}
use Rattle.std.proofs.Math.ListN.{get_or-map}
use Rattle.kheap_slabs.specs.Objects.{object}
use Rattle.kheap_slabs.specs.declared.objects.Desc.{Desc}
use Rattle.kheap_slabs.specs.declared.objects.Descriptor.{Descriptor as HeldDescriptor}
use Rattle.kheap_slabs.specs.declared.objects.Proc.{Proc}
use Rattle.kheap_slabs.specs.Heap.{Heap}
use Rattle.open_laws.specs.Described.{Counted, CountedList, counted_in}
use Rattle.open_laws.specs.Open.{AreOpen, descriptor_by, descriptors_by}
use Rattle.open_laws.specs.Owned.{HasItsOwners, names_desc}
use Rattle.open_laws.specs.Polled.{IsTargetIn}
use Rattle.open_laws.proofs.DescribedLemmas.{at_place}
use Rattle.open_laws.proofs.DropLemmas.{description_in}
use Rattle.open_laws.proofs.GoingLemmas.{named_there}
use Rattle.open_laws.specs.Placed.{Numbers}
use Rattle.posix_defs.specs.Files.Descriptions.{Descriptions, description_at}
use Rattle.posix_defs.specs.Files.Descriptors.{descriptor_of}
use Rattle.posix_defs.specs.Files.State.{Files, descriptors_of}
use Rattle.proc_numbers.specs.Having.{AreListed, HaveOpen, places_in}
use Rattle.proc_numbers.proofs.Listing.{found_before}
use Rattle.proc_numbers.proofs.NumberParts.{named_part}
use Rattle.proc_numbers.proofs.Sums.{one_if, part_of_sum}
use Rattle.proc_table.specs.Procs.{numbers_in}
use Rattle.proc_table.specs.Table.{TableView, key_of}
use Rattle.proc_table.proofs.PlaceLemmas.{eqb_same}
use Rattle.proc_numbers.specs.Found.{held_at}

-- the descriptor that a number has, by the places of descriptions
pub held_by : (number : ℕ → ℕ) (places : List (Option HeldDescriptor)) (fd : ℤ) → descriptor_of (descriptors_by number places) fd ≡ option_map (descriptor_by number) (held_at places fd)
held_by number places (pos fd) = get_or-map (option_map (descriptor_by number)) places fd None
held_by number places (negsuc n) = refl

names_some : (places : List (Option HeldDescriptor)) (fd : ℤ) (held : HeldDescriptor) → held_at places fd ≡ Some held → 0 < count_by (names_desc held.desc) places
names_some places (pos fd) held is =
    let part = part_of_sum (λ o. one_if (names_desc held.desc o)) places fd held is in
    let one = ap one_if (eqb_same held.desc held.desc refl) in
    omega (arith, part, one)
names_some places (negsuc n) held is = absurd (cc)

-- the description of a Desc that is there
pub described_so : (numbers : Numbers) (h : Heap) (list : CountedList) (files : Files) (key : ℕ) (desc : Desc) → AreOpen numbers h list files → object h.descs key ≡ Some desc
    → description_at files.descriptions (numbers.descs key) ≡ Some (counted_in numbers desc).is
described_so numbers h list files key desc are is =
    ap (λ (d : Descriptions). description_at d (numbers.descs key)) are.descriptions
    ∙ (description_in list (numbers.descs key)
    ∙ ap (option_map (λ (counted : Counted). counted.is)) (at_place numbers h.descs list key desc is are.described))

module _ (h : Heap) (kept : TableView) (pid key : ℕ) (proc : Proc) (listed : AreListed h kept) (named : key_of kept.listed pid ≡ Some key) (there : object h.procs key ≡ Some proc) where
  -- the Desc that a number names is there, and what it is open on
  pub desc_there : HasItsOwners h [] → (fd : ℤ) (held : HeldDescriptor) → held_at (numbers_in h proc) fd ≡ Some held
      → (desc : Desc) × (object h.descs held.desc ≡ Some desc) × IsTargetIn h desc.target
  desc_there owners fd held is =
      named_there h [] held.desc owners
      (named_part held.desc h key proc there (names_some (numbers_in h proc) fd held is))

  pub descriptors_are : (numbers : Numbers) (files : Files) → HaveOpen numbers h kept files → descriptors_of files pid ≡ descriptors_by numbers.descs (numbers_in h proc)
  descriptors_are numbers files have =
      have.descriptors.each pid
      ∙ ap (λ o. descriptors_by numbers.descs (places_in (numbers_in h) o)) (found_before h.procs key proc proc there refl kept.listed pid listed.stored named)
