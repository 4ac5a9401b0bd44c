-- What the numbers of a process name in its Proc, and what a call on them leaves.
use Rattle.std.specs.Prelude.{ℕ, ◌≡◌, ◌+◌, ◌<◌, ◌≤◌, ℤ, pos, negsuc, Bool, false, List, length, Option, None, Some, IsSome, slice_index_or, slice_set}
use Rattle.kheap_slabs.specs.Objects.{object, put}
use Rattle.kheap_slabs.specs.declared.objects.Descriptor.{Descriptor as HeldDescriptor}
use Rattle.kheap_slabs.specs.declared.objects.Proc.{Proc}
use Rattle.kheap_slabs.specs.Heap.{Heap}
use Rattle.kheap_slabs.specs.Leaves.{has_place}
use Rattle.desc_table.specs.Numbered.{names_one}
use Rattle.open_laws.specs.Owned.{all_namings}
use Rattle.pipe_ends.specs.Links.{KeepsLinks}
use Rattle.proc_table.specs.Moves.{NumbersTurn}
use Rattle.proc_table.specs.Procs.{numbers_in, proc_of, with_numbers}
use Rattle.proc_table.specs.Table.{TableView, key_of, processes}
use Rattle.proc_numbers.specs.Having.{places_in}

-- the descriptors of a process of the table, by number
abbrev pub places_of : Heap → TableView → ℕ → List (Option HeldDescriptor)
places_of h kept pid = places_in (numbers_in h) (proc_of (processes h kept) pid)

-- what a number of a process names
abbrev pub named_at : Heap → TableView → ℕ → ℕ → Option HeldDescriptor
named_at h kept pid fd = slice_index_or (places_of h kept pid) fd None

-- all numbers of a process from one up to below another are open
abbrev pub AreOpenBelow : Heap → TableView → ℕ → ℕ → ℕ → Type 0
AreOpenBelow h kept pid from fd = (other : ℕ) → from ≤ other → other < fd → IsSome (named_at h kept pid other)

-- the same of the number that a call has
abbrev pub named_by : Heap → TableView → ℕ → ℤ → Option HeldDescriptor
named_by h kept pid (pos fd) = named_at h kept pid fd
named_by h kept pid (negsuc _) = None

-- the same descriptor, which `exec` closes or doesn't
abbrev pub marked : HeldDescriptor → Bool → HeldDescriptor
marked held cloexec = record held { close_on_exec = cloexec }

-- A number of a process has another descriptor, or none, in its Proc or its Leaf; no other object is other than before.
pub record TurnsNumber (old new : Heap) (kept : TableView) (pid fd : ℕ) (held : Option HeldDescriptor) : Type 0 where
  pub key : ℕ
  pub proc : Proc
  pub now : Proc
  pub turns : NumbersTurn old new kept pid key proc now
  pub within : fd < length (numbers_in old proc)
  pub numbers : numbers_in new now ≡ slice_set (numbers_in old proc) fd held
  pub namings : (at : ℕ) → all_namings new at + names_one at (slice_index_or (numbers_in old proc) fd None) ≡ all_namings old at + names_one at held
  pub after : new ≡ record old { procs = put old.procs key now; leaves = new.leaves; high = new.high }

-- it names a Desc
abbrev pub NamesNumber : Heap → Heap → TableView → ℕ → ℕ → HeldDescriptor → Type 0
NamesNumber old new kept pid fd held = TurnsNumber old new kept pid fd (Some held)

-- Of one process other numbers are open, in its Proc and its Leaves; of the other objects only Descs, Pipes, Chunks and Socks are
-- others, and the pipes of FIFOs stand as they stood.
pub record ChangesNumbers (old new : Heap) (kept : TableView) (pid : ℕ) : Type 0 where
  pub key : ℕ
  pub proc : Proc
  pub now : Proc
  pub named : key_of kept.listed pid ≡ Some key
  pub there : object old.procs key ≡ Some proc
  pub same : now ≡ with_numbers proc now
  pub procs : new.procs ≡ put old.procs key now
  pub beside : new
      ≡ record old { procs = new.procs; leaves = new.leaves; descs = new.descs; pipes = new.pipes; chunks = new.chunks; socks = new.socks; high = new.high }
  pub links : KeepsLinks old new

-- a number of a process needs no further Leaf: it is one of the first, or the Leaf that it stands in is there
abbrev pub has_room_in : Option Proc → ℕ → Bool
has_room_in None fd = false
has_room_in (Some proc) fd = has_place proc.leaves fd

abbrev pub has_room : Heap → TableView → ℕ → ℕ → Bool
has_room h kept pid fd = has_room_in (proc_of (processes h kept) pid) fd
