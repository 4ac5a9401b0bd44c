-- Calls on the spaces of a heap, one after another, and how many entries name a page.
use Rattle.std.specs.Prelude.{ℕ, List, [], ◌∷◌, Option, sum_by}
use Rattle.std.specs.List.{range_with_len}
use Rattle.kheap_slabs.specs.Purse.{Purse}
use Rattle.kheap_slabs.specs.declared.objects.Node.{Node}
use Rattle.kheap_slabs.specs.Heap.{Heap}
use Rattle.kheap_slabs.specs.Keys.{Splits}
use Rattle.kheap_slabs.specs.Owners.{Owners, with_space}
use Rattle.kheap_slabs.specs.Spaces.{names_page}
use Rattle.page_space.specs.Contents.{SpaceMoves, SpaceLeaves, IsForked}
use Rattle.page_space.specs.Entries.{entry_at}

-- how many of a space's 256 entries name the page of a key
abbrev pub entries_naming : List (Option Node) → ℕ → List (Option ℕ) → ℕ
entries_naming nodes key space = sum_by (λ page. names_page key (entry_at nodes space page)) (range_with_len 0 256)

-- a heap and the owners of its objects
pub record Moment : Type 0 where
  pub heap : Heap
  pub owners : Owners

abbrev pub at_moment : Heap → Owners → Moment
at_moment h owners = record { heap = h; owners = owners }

-- One call on the space in front: it maps pages, unmaps pages or gets bytes, is forked, or is released. Any space may be
-- taken to the front before.
pub data IsCall : Moment → Moment → Type 0 where
  changes : (old new : Heap) (space now : List (Option ℕ)) (others : Owners) → SpaceMoves old new space now
      → IsCall (at_moment old (with_space space others)) (at_moment new (with_space now others))
  forks : (old new : Heap) (before after : Purse) (of now : List (Option ℕ)) (others : Owners) → IsForked old before new after of now 256
      → IsCall (at_moment old (with_space of others)) (at_moment new (with_space now (with_space of others)))
  goes : (old new : Heap) (space : List (Option ℕ)) (others : Owners) → SpaceLeaves old new space
      → IsCall (at_moment old (with_space space others)) (at_moment new others)
  turns_to : (h : Heap) (owners : Owners) (space : List (Option ℕ)) (rest : List (List (Option ℕ))) → Splits owners.spaces space rest
      → IsCall (at_moment h owners) (at_moment h (with_space space (record owners { spaces = rest })))

-- each of these moments comes from the one before by such a call
abbrev pub AreCalls : Moment → List Moment → Type 0
AreCalls first [] = Unit {0}
AreCalls first (next ∷ rest) = IsCall first next × AreCalls next rest
