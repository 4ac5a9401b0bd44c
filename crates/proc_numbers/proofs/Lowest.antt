-- The lowest number of a process that is free.
use Rattle.std.proofs.Common.{◌≡◌, ℕ, ◌<◌, ◌≤◌, length, Option, None, Some, subst, ◌∙◌}
use Rattle.std.specs.Prelude.{IfSome}
use Rattle.desc_table.specs.Numbered.{descriptors_in}
use Rattle.desc_table.proofs.NumberLemmas.{length_seen}
use Rattle.kheap_slabs.specs.Heap.{Heap}
use Rattle.posix_defs.specs.Files.Descriptors.{lowest_free_from}
use Rattle.kabi_types.specs.Arguments.{most_descriptors}
use Rattle.proc_table.specs.Table.{TableView}
use Rattle.proc_numbers.specs.Naming.{AreOpenBelow, named_at, places_of}
use Rattle.proc_numbers.proofs.NumberNames.{free_at, lowest_free_is, open_below}

-- the number is one that is free, from the one on that was looked from
abbrev pub IsLowest : Heap → TableView → ℕ → ℕ → ℕ → Type 0
IsLowest h kept pid from fd = (fd < most_descriptors) × (from ≤ fd) × (named_at h kept pid fd ≡ None)

pub lowest_within : (h : Heap) (kept : TableView) (pid from : ℕ) (o : Option ℕ) → length (places_of h kept pid) ≡ most_descriptors → lowest_free_from (descriptors_in (places_of h kept pid)) from ≡ o
    → IfSome o (IsLowest h kept pid from)
lowest_within h kept pid from None long is = tt
lowest_within h kept pid from (Some fd) long is =
    let free = lowest_free_is (descriptors_in (places_of h kept pid)) from fd is in
    (subst (λ n. fd < n) (length_seen (places_of h kept pid) ∙ long) free.within, free.above, free_at h kept pid from fd is)

-- and from one that is no higher on
pub lowest_above : (h : Heap) (kept : TableView) (pid first from : ℕ) (o : Option ℕ) → ((fd : ℕ) → fd < most_descriptors → first ≤ fd → from ≤ fd) → IfSome o (IsLowest h kept pid first) → IfSome o (IsLowest h kept pid from)
lowest_above h kept pid first from None above is = tt
lowest_above h kept pid first from (Some fd) above is = (is.0, above fd is.0 is.1, is.2)

-- all before it are open
pub lowest_least : (h : Heap) (kept : TableView) (pid from : ℕ) (o : Option ℕ) → lowest_free_from (descriptors_in (places_of h kept pid)) from ≡ o → IfSome o (AreOpenBelow h kept pid from)
lowest_least h kept pid from None is = tt
lowest_least h kept pid from (Some fd) is = open_below h kept pid from fd is
