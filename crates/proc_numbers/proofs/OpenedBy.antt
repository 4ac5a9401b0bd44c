-- What a call's number names, as it was found at the begin of the call.
use Rattle.std.proofs.Common.{◌≡◌, ◌<◌, ◌∙◌, ℕ, ℤ, Option, None, Some, ap, pos, refl, subst, sym}
use Rattle.std.specs.Prelude.{IfSome, slice_index_or}
use Rattle.std.specs.Option.{option_map}
use Rattle.kabi_types.specs.Arguments.{count_of, most_descriptors}
use Rattle.kheap_slabs.specs.Objects.{object}
use Rattle.kheap_slabs.specs.declared.objects.Descriptor.{Descriptor}
use Rattle.kheap_slabs.specs.declared.objects.Proc.{Proc}
use Rattle.kheap_slabs.specs.Heap.{Heap}
use Rattle.open_laws.specs.Placed.{Numbers}
use Rattle.posix_defs.specs.Calls.Opened.{opened_at}
use Rattle.posix_defs.specs.Files.State.{Files}
use Rattle.proc_table.specs.Procs.{numbers_in, proc_of}
use Rattle.proc_table.specs.Table.{TableView, processes}
use Rattle.proc_numbers.specs.declared.lookups.Found.{Found}
use Rattle.proc_numbers.specs.declared.lookups.Named.{Named}
use Rattle.proc_numbers.specs.Found.{IsNamed, IsOpened, held_in, opened_in}
use Rattle.proc_numbers.specs.Having.{HaveOpen, places_in}
use Rattle.proc_numbers.specs.Naming.{named_at, named_by}
use Rattle.proc_numbers.proofs.NumberNames.{opened_nothing, opened_so}

-- the number that a call has, where a descriptor may have it
pub number_so : (fd : ℤ) (o : Option ℕ) (number : ℕ) → IfSome o (λ n. (fd ≡ pos n) × (n < most_descriptors)) → o ≡ Some number → (fd ≡ pos number) × (number < most_descriptors)
number_so fd o number some is = subst (λ (which : Option ℕ). IfSome which (λ n. (fd ≡ pos n) × (n < most_descriptors))) is some

-- it names what stands at it in the Proc of its process
pub by_number : (h : Heap) (kept : TableView) (pid : ℕ) (fd : ℤ) (number : ℕ) (proc : Proc) (held : Option Descriptor) → fd ≡ pos number
    → proc_of (processes h kept) pid ≡ Some proc → slice_index_or (numbers_in h proc) number None ≡ held → named_by h kept pid fd ≡ held
by_number h kept pid fd number proc held is found at =
    ap (named_by h kept pid) is ∙ (ap (λ (o : Option Proc). slice_index_or (places_in (numbers_in h) o) number None) found ∙ at)

module _ (h : Heap) (kept : TableView) (pid : ℕ) (on : Named) (opened : IsOpened h kept pid on) where
  -- it names a descriptor, whose Desc is there
  module _ (found : Found) (is : on.found ≡ Some found) where
    pub is_held : named_by h kept pid on.fd ≡ Some (held_in found)
    is_held = opened.names ∙ ap (option_map held_in) is

    pub is_there : object h.descs found.key ≡ Some found.desc
    is_there = subst (λ (o : Option Found). IfSome o (λ found. object h.descs found.key ≡ Some found.desc)) is opened.there

    pub is_number : (on.fd ≡ pos found.number) × (found.number < most_descriptors)
    is_number = subst (λ (o : Option Found). IfSome o (λ found. (on.fd ≡ pos found.number) × (found.number < most_descriptors))) is opened.number

    -- by its number it names the same
    pub is_held_at : named_at h kept pid found.number ≡ Some (held_in found)
    is_held_at = subst (λ z. named_by h kept pid z ≡ Some (held_in found)) is_number.0 is_held

    pub is_counted : found.number ≡ count_of on.fd
    is_counted = ap count_of (sym is_number.0)

    pub is_named : IsNamed h kept pid on.fd found
    is_named = record { held = held_in found; is = is_held; same = refl }

  -- or nothing
  pub is_none : on.found ≡ None → named_by h kept pid on.fd ≡ None
  is_none none = opened.names ∙ ap (option_map held_in) none

  -- the machine's is that one
  pub opened_is : (numbers : Numbers) (files : Files) → HaveOpen numbers h kept files → opened_at files pid on.fd ≡ option_map (opened_in numbers) on.found
  opened_is numbers files have = by_found on.found refl
    where
      by_found : (o : Option Found) → on.found ≡ o → opened_at files pid on.fd ≡ option_map (opened_in numbers) o
      by_found None none = opened_nothing numbers h kept files pid have on.fd (is_none none)
      by_found (Some found) is = opened_so numbers h kept files pid have on.fd (held_in found) found.desc (is_held found is) (is_there found is)
