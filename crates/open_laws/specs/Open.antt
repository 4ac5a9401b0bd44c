-- The heap stands for what the machine has open: descriptions, pipes and sockets, and what the account says of their queues.
use Rattle.std.specs.Prelude.{◌≡◌, ◌==◌, ℕ, if◌then◌else◌, List, map, Option, None, Some, slice_index}
use Rattle.std.specs.Option.{option_map}
use Rattle.kheap_slabs.specs.Objects.{object}
use Rattle.kheap_slabs.specs.declared.objects.Descriptor.{Descriptor as HeldDescriptor}
use Rattle.kheap_slabs.specs.declared.objects.Pipe.{Pipe}
use Rattle.kheap_slabs.specs.declared.objects.Sock.{Sock}
use Rattle.kheap_slabs.specs.Heap.{Heap}
use Rattle.posix_defs.specs.Account.{Account}
use Rattle.posix_defs.specs.Files.Closing.{description_gone}
use Rattle.posix_defs.specs.Files.Descriptors.{Descriptor, Descriptors}
use Rattle.posix_defs.specs.Files.State.{Files}
use Rattle.open_laws.specs.Placed.{Numbers}
use Rattle.open_laws.specs.Described.{Counted, CountedList, uncounted, AreDescribed}
use Rattle.open_laws.specs.Piped.{ArePiped}
use Rattle.open_laws.specs.Socketed.{AreSocketed}

-- The Descs, Pipes and Socks of the heap stand for the machine's descriptions, with these counts, for its pipes and its
-- sockets.
pub record AreOpen (numbers : Numbers) (h : Heap) (list : CountedList) (files : Files) : Type 0 where
  pub described : AreDescribed numbers h.descs list
  pub descriptions : files.descriptions ≡ uncounted list
  pub piped : ArePiped numbers h files.pipes
  pub socketed : AreSocketed numbers h files.sockets

-- the account has the front of each queue
pub record HaveFronts (numbers : Numbers) (h : Heap) (account : Account) : Type 0 where
  pub pipes : (key : ℕ) (pipe : Pipe) → object h.pipes key ≡ Some pipe → slice_index account.pipes (numbers.pipes key) ≡ pipe.queue.place
  pub socks : (key : ℕ) (sock : Sock) → object h.socks key ≡ Some sock → slice_index account.sockets (numbers.socks key) ≡ sock.queue.place

-- ---- a descriptor goes

abbrev pub dropped_in : Files → ℕ → Option Counted → Files
dropped_in files place None = files
dropped_in files place (Some counted) = if counted.count == 1 then description_gone files place else files

-- the machine once a descriptor fewer names the description of a place: with the last one that goes, and what it was open on is
-- closed
abbrev pub files_dropped : Files → CountedList → ℕ → Files
files_dropped files list place = dropped_in files place (object list place)

-- ---- descriptors

-- a descriptor that is kept, where each key of a Desc has a place as its number
abbrev pub descriptor_by : (ℕ → ℕ) → HeldDescriptor → Descriptor
descriptor_by number held = record { description = number held.desc; cloexec = held.close_on_exec }

-- the descriptors of a process, by number
abbrev pub descriptors_by : (ℕ → ℕ) → List (Option HeldDescriptor) → Descriptors
descriptors_by number places = map (option_map (descriptor_by number)) places

-- the same descriptor, where the place of its description is the number of that one's key
abbrev pub placed_by : (ℕ → ℕ) → Descriptor → Descriptor
placed_by number descriptor = record descriptor { description = number descriptor.description }

-- the same descriptors
abbrev pub renumbered : (ℕ → ℕ) → Descriptors → Descriptors
renumbered number descriptors = map (option_map (placed_by number)) descriptors
