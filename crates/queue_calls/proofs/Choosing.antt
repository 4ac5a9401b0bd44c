-- What a number is open on, in the heap and in the machine.
use Rattle.std.proofs.Common.{◌≡◌, ℕ, ℤ, [], false, Option, None, Some, is_some, refl, ap, sym, ◌∙◌}
use Rattle.kheap_slabs.specs.declared.objects.Descriptor.{Descriptor}
use Rattle.kheap_slabs.specs.Heap.{Heap}
use Rattle.open_laws.specs.Owned.{HasItsOwners}
use Rattle.open_laws.specs.Placed.{Numbers}
use Rattle.posix_defs.specs.Calls.Opened.{opened_at}
use Rattle.posix_defs.specs.Files.State.{Files}
use Rattle.proc_numbers.specs.Having.{AreListed, HaveOpen}
use Rattle.proc_numbers.specs.Naming.{named_by}
use Rattle.proc_numbers.proofs.NumberNames.{desc_named_by, opened_nothing, opened_so}
use Rattle.proc_numbers.specs.Found.{IsOffNodes, is_in_tree}
use Rattle.proc_numbers.proofs.OnNodes.{tells_target}
use Rattle.proc_table.specs.Table.{TableView}

-- what is open on no node of the tree in the heap is open on none in the machine
pub off_in : (numbers : Numbers) (h : Heap) (kept : TableView) (files : Files) (pid : ℕ) (fd : ℤ) → AreListed h kept → HasItsOwners h [] → HaveOpen numbers h kept files
    → IsOffNodes h kept pid fd → is_in_tree (opened_at files pid fd) ≡ false
off_in numbers h kept files pid fd listed owners have off = by_held (named_by h kept pid fd) refl
  where
    by_held : (o : Option Descriptor) → named_by h kept pid fd ≡ o → is_in_tree (opened_at files pid fd) ≡ false
    by_held None is = ap is_in_tree (opened_nothing numbers h kept files pid have fd is)
    by_held (Some held) is =
        let desc = desc_named_by h kept [] listed owners pid fd held is in
        ap is_in_tree (opened_so numbers h kept files pid have fd held desc.0 is desc.1) ∙ sym (tells_target numbers desc.0.target)
        ∙ ap is_some (off held desc.0 is desc.1)
