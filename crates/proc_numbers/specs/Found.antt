-- What a number of a process names: a Desc of the heap, and the description that it stands for.
use Rattle.std.specs.Prelude.{◌≡◌, ◌<◌, ℕ, ℤ, pos, negsuc, Bool, false, List, Option, None, Some, IfSome, IsSome, is_some, slice_index_or}
use Rattle.std.specs.Option.{option_map}
use Rattle.kabi_types.specs.Arguments.{most_descriptors}
use Rattle.kheap_slabs.specs.Objects.{object}
use Rattle.kheap_slabs.specs.declared.objects.Desc.{Desc}
use Rattle.kheap_slabs.specs.declared.objects.Descriptor.{Descriptor}
use Rattle.kheap_slabs.specs.Heap.{Heap}
use Rattle.open_laws.specs.Described.{counted_in, inode_in}
use Rattle.open_laws.specs.Placed.{Numbers}
use Rattle.posix_defs.specs.Calls.Opened.{Opened}
use Rattle.posix_defs.specs.Files.Descriptions.{Target, OnNode, OnPipe, OnSocket}
use Rattle.proc_table.specs.Table.{TableView}
use Rattle.proc_numbers.specs.Naming.{named_by}
use Rattle.proc_numbers.specs.declared.lookups.Found.{Found}
use Rattle.proc_numbers.specs.declared.lookups.Named.{Named}

-- what the descriptors of a process have at a number as a call has it
abbrev pub held_at : List (Option Descriptor) → ℤ → Option Descriptor
held_at places (pos fd) = slice_index_or places fd None
held_at places (negsuc _) = None

-- the node that the machine's target names by its number
abbrev pub number_in : Target → Option ℕ
number_in (OnNode number) = Some number
number_in (OnPipe place) = None
number_in (OnSocket place) = None

-- the description that was found, with its place
abbrev pub opened_in : Numbers → Found → Opened
opened_in numbers found = record { place = numbers.descs found.key; is = (counted_in numbers found.desc).is }

-- what is open is a node of the tree by its number, which a FIFO's end isn't; false where nothing is open
abbrev pub is_in_tree : Option Opened → Bool
is_in_tree None = false
is_in_tree (Some opened) = is_some (number_in opened.is.target)

-- a number of a process that is open is open on a node
abbrev pub IsOnNode : Heap → TableView → ℕ → ℤ → Type 0
IsOnNode h kept pid fd =
    (held : Descriptor) (desc : Desc) → named_by h kept pid fd ≡ Some held → object h.descs held.desc ≡ Some desc → IsSome (inode_in desc.target)

-- it is open on a pipe or a socket
abbrev pub IsOffNodes : Heap → TableView → ℕ → ℤ → Type 0
IsOffNodes h kept pid fd =
    (held : Descriptor) (desc : Desc) → named_by h kept pid fd ≡ Some held → object h.descs held.desc ≡ Some desc → inode_in desc.target ≡ None

-- The number is the one by which this Desc was found.
pub record IsNamed (h : Heap) (kept : TableView) (pid : ℕ) (fd : ℤ) (found : Found) : Type 0 where
  pub held : Descriptor
  pub is : named_by h kept pid fd ≡ Some held
  pub same : held.desc ≡ found.key

-- the descriptor by which it was found
abbrev pub held_in : Found → Descriptor
held_in found = record { desc = found.key; close_on_exec = found.close_on_exec }

-- What a call's number names was found: nothing, or this Desc, which is the heap's; then a descriptor has the number.
pub record IsOpened (h : Heap) (kept : TableView) (pid : ℕ) (on : Named) : Type 0 where
  pub names : named_by h kept pid on.fd ≡ option_map held_in on.found
  pub there : IfSome on.found (λ found. object h.descs found.key ≡ Some found.desc)
  pub number : IfSome on.found (λ found. (on.fd ≡ pos found.number) × (found.number < most_descriptors))
