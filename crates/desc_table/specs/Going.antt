-- How a heap changes while descriptors come and go, and which of them are in hand then.
use Rattle.std.specs.Prelude.{◌≡◌, ◌+◌, ◌==◌, ℕ, List, ◌∷◌, Option, Some, count_by}
use Rattle.kheap_slabs.specs.Objects.{object, put}
use Rattle.kheap_slabs.specs.declared.objects.Desc.{Desc}
use Rattle.kheap_slabs.specs.declared.objects.Descriptor.{Descriptor}
use Rattle.kheap_slabs.specs.Heap.{Heap}
use Rattle.kheap_slabs.specs.Owners.{OwnsItsObjects}
use Rattle.pipe_ends.specs.Links.{AreRelinked}
use Rattle.open_laws.specs.Closing.{Drops}
use Rattle.open_laws.specs.Described.{counting}
use Rattle.open_laws.specs.Sharing.{CanShare, hand_with, share_all}

-- how many of these keys are this one
abbrev pub times : ℕ → List ℕ → ℕ
times key keys = count_by (λ other. other == key) keys

-- the same keys, in whatever order
abbrev pub AreAlike : List ℕ → List ℕ → Type 0
AreAlike keys others = (key : ℕ) → times key keys ≡ times key others

-- From a heap and the descriptors in hand, which no process of the heap has, dups, forks and closes lead to another heap and
-- what is in hand then. A dup of a key, and each descriptor of a process that forks, is one more; a close takes one away. A FIFO's pipe may stand before
-- another one then.
pub data Goes (first : Heap) (had : List ℕ) : Heap → List ℕ → Type 0 where
  begins : Goes first had first had
  dups : (old new : Heap) (hand : List ℕ) (key : ℕ) (desc : Desc) → Goes first had old hand → object old.descs key ≡ Some desc
      → new ≡ record old { descs = put old.descs key (counting desc (desc.count + 1)) } → Goes first had new (key ∷ hand)
  forks : (old new : Heap) (hand : List ℕ) (places : List (Option Descriptor)) → Goes first had old hand → CanShare old.descs places
      → new ≡ record old { descs = share_all old.descs places } → Goes first had new (hand_with places hand)
  closes : (old new : Heap) (hand left : List ℕ) (key : ℕ) (desc : Desc) → Goes first had old hand → AreAlike hand (key ∷ left)
      → object old.descs key ≡ Some desc → Drops old new key desc → new.procs ≡ old.procs → new.leaves ≡ old.leaves → OwnsItsObjects new → Goes first had new left
  relinks : (old new : Heap) (hand : List ℕ) → Goes first had old hand → AreRelinked old new → Goes first had new hand
