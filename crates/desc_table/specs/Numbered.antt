-- The descriptors of a process as its Proc keeps them.
use Rattle.std.specs.Prelude.{◌≡◌, ℕ, ◌+◌, ◌-◌, ℤ, pos, negsuc, List, length, map, Option, None, Some, count_by, if◌then◌else◌, slice_index_or}
use Rattle.std.specs.Option.{option_map}
use Rattle.kabi_types.specs.Counts.{with_count}
use Rattle.kabi_types.specs.declared.classes.Class.TheVariants as class
use Rattle.kheap_slabs.specs.Heap.{Heap}
use Rattle.kheap_slabs.specs.Leaves.{numbers_by}
use Rattle.kheap_slabs.specs.Purse.{Purse}
use Rattle.kheap_slabs.specs.declared.objects.Descriptor.{Descriptor as HeldDescriptor}
use Rattle.kheap_slabs.specs.declared.objects.Proc.{Proc}
use Rattle.open_laws.specs.Owned.{leaf_namings_of, names_desc}
use Rattle.posix_defs.specs.Files.Descriptors.{Descriptor, Descriptors}

-- a descriptor as it is kept: the place of its description is the key of its Desc
abbrev pub descriptor_in : HeldDescriptor → Descriptor
descriptor_in held = record { description = held.desc; cloexec = held.close_on_exec }

-- the descriptors of a process, by number
abbrev pub descriptors_in : List (Option HeldDescriptor) → Descriptors
descriptors_in places = map (option_map descriptor_in) places

-- the descriptors of one process in hand: those of its first numbers, and the keys of its Leaves
pub record InHand : Type 0 where
  pub places : List (Option HeldDescriptor)
  pub leaves : List (Option ℕ)

-- all of them by number, with the Leaves of this heap
abbrev pub numbers : Heap → InHand → List (Option HeldDescriptor)
numbers h hand = numbers_by h.leaves hand.places hand.leaves

-- what a Proc has in rows is as long as its type says
pub record IsLong (proc : Proc) : Type 0 where
  pub descriptors : length proc.descriptors ≡ 32
  pub leaves : length proc.leaves ≡ 3

-- how many descriptors name the Desc of a key, in all Leaves of the heap and among those in hand
abbrev pub namings_with : Heap → InHand → ℕ → ℕ
namings_with h hand key = leaf_namings_of h.leaves key + count_by (names_desc key) hand.places

-- 1 where a descriptor names the Desc, else 0
abbrev pub names_one : ℕ → Option HeldDescriptor → ℕ
names_one key held = if names_desc key held then 1 else 0

-- One number has another descriptor, or none: each Desc is named as often as before, but by what it had less, by what it has more.
abbrev pub Renames : Heap → InHand → Heap → InHand → ℕ → Option HeldDescriptor → Type 0
Renames old was new now fd held =
    (key : ℕ) → namings_with new now key + names_one key (slice_index_or (numbers old was) fd None) ≡ namings_with old was key + names_one key held

-- a purse that has paid for a Leaf
abbrev pub leaf_spent : Purse → Purse
leaf_spent purse = record purse { left = with_count purse.left class.Leaf (purse.left.leaf - 1) }

-- the number that a call has; None below 0
abbrev pub number_of : ℤ → Option ℕ
number_of (pos fd) = Some fd
number_of (negsuc _) = None
