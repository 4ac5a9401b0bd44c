-- What is open in a process by number: how many numbers there are, which Procs have the same ones, and where one of them names something
-- else.
use Rattle.std.proofs.Common.{◌≡◌, ◌≢◌, ℕ, ◌<◌, Option, Some, None, length, ap, ◌∙◌}
use Rattle.std.specs.Prelude.{slice_index_or, slice_set}
use Rattle.std.proofs.lemmas.List.{get_or-set_other, get_or-set_same}
use Rattle.kabi_types.specs.Arguments.{most_descriptors}
use Rattle.kheap_slabs.specs.Objects.{object}
use Rattle.kheap_slabs.specs.declared.objects.Descriptor.{Descriptor}
use Rattle.kheap_slabs.specs.declared.objects.Proc.{Proc}
use Rattle.kheap_slabs.specs.Heap.{Heap, IsWellFormed}
use Rattle.kheap_slabs.specs.Leaves.{no_row, numbers_by}
use Rattle.kheap_laws.proofs.LeafLemmas.{numbers_by-length, numbers_by-none}
use Rattle.proc_table.specs.Procs.{IsClosed, OpensNone, no_descriptors, numbers_in}

-- there are as many as there may be
pub numbers_all : (h : Heap) (key : ℕ) (proc : Proc) → IsWellFormed h → object h.procs key ≡ Some proc → length (numbers_in h proc) ≡ most_descriptors
numbers_all h key proc whole there =
    numbers_by-length h.leaves proc.descriptors proc.leaves whole.leaf_rows (whole.descriptors key proc there) (whole.leaves key proc there)

-- ---- the same numbers, and the same open, in another Proc

pub record KeepsNumbers (now proc : Proc) : Type 0 where
  pub descriptors : now.descriptors ≡ proc.descriptors
  pub leaves : now.leaves ≡ proc.leaves
  pub opening : now.opening ≡ proc.opening

pub numbers_kept : (h : Heap) (now proc : Proc) → KeepsNumbers now proc → numbers_in h now ≡ numbers_in h proc
numbers_kept h now proc keeps =
    ap (λ first. numbers_by h.leaves first now.leaves) keeps.descriptors ∙ ap (λ keys. numbers_by h.leaves proc.descriptors keys) keeps.leaves

pub none_kept : (now proc : Proc) → KeepsNumbers now proc → OpensNone proc → OpensNone now
none_kept now proc keeps none = (keeps.descriptors ∙ none.0, keeps.leaves ∙ none.1)

pub closed_kept : (now proc : Proc) → KeepsNumbers now proc → IsClosed proc → IsClosed now
closed_kept now proc keeps closed = record { opens = none_kept now proc keeps closed.opens; awake = keeps.opening ∙ closed.awake }

-- without one open, none of all is
pub none_numbers : (h : Heap) (proc : Proc) → OpensNone proc → numbers_in h proc ≡ no_descriptors
none_numbers h proc none =
    ap (λ first. numbers_by h.leaves first proc.leaves) none.0 ∙ (ap (λ keys. numbers_by h.leaves no_row keys) none.1 ∙ numbers_by-none h.leaves)

-- ---- one of them is another

-- a number that names something else names that
pub number_put : (old new : Heap) (proc now : Proc) (fd : ℕ) (named : Option Descriptor) → numbers_in new now ≡ slice_set (numbers_in old proc) fd named → fd < length (numbers_in old proc)
    → slice_index_or (numbers_in new now) fd None ≡ named
number_put old new proc now fd named is within = ap (λ all. slice_index_or all fd None) is ∙ get_or-set_same (numbers_in old proc) fd named None within

-- and every other names what it named
pub number_kept : (old new : Heap) (proc now : Proc) (fd other : ℕ) (named : Option Descriptor) → numbers_in new now ≡ slice_set (numbers_in old proc) fd named → other ≢ fd
    → slice_index_or (numbers_in new now) other None ≡ slice_index_or (numbers_in old proc) other None
number_kept old new proc now fd other named is apart = ap (λ all. slice_index_or all other None) is ∙ get_or-set_other (numbers_in old proc) fd other named None apart
