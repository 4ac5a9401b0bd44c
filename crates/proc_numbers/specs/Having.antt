-- What the processes of a table have open in the machine, and what a close leaves of it.
use Rattle.std.specs.Prelude.{ℕ, ◌≡◌, ◌+◌, List, length, Option, None, Some, slice_index_or, slice_set}
use Rattle.kheap_slabs.specs.Objects.{object}
use Rattle.kheap_slabs.specs.declared.objects.Desc.{Desc}
use Rattle.kheap_slabs.specs.declared.objects.Descriptor.{Descriptor as HeldDescriptor}
use Rattle.kheap_slabs.specs.declared.objects.Pipe.{Pipe}
use Rattle.kheap_slabs.specs.declared.objects.Proc.{Proc}
use Rattle.kheap_slabs.specs.Heap.{Heap}
use Rattle.kheap_slabs.specs.Keys.{AreKeysOf}
use Rattle.kheap_slabs.specs.Leaves.{HoldLeaves}
use Rattle.open_laws.specs.Described.{CountedList, inode_in, node_left}
use Rattle.open_laws.specs.Open.{AreOpen, descriptors_by}
use Rattle.open_laws.specs.Owned.{all_namings}
use Rattle.open_laws.specs.Placed.{Numbers}
use Rattle.posix_defs.specs.Files.State.{Files, descriptors_of}
use Rattle.desc_table.specs.Numbered.{names_one}
use Rattle.proc_table.specs.Moves.{NumbersTurn}
use Rattle.proc_table.specs.Opening.{HaveOpenings}
use Rattle.proc_table.specs.Procs.{no_descriptors, numbers_in, proc_of}
use Rattle.proc_table.specs.Table.{AreBetween, AreStored, TableView, keys_of, processes}

-- Each process of the heap is in the table, at its place, by rising pid, and each Leaf is one of theirs.
pub record AreListed (h : Heap) (kept : TableView) : Type 0 where
  pub stored : AreStored h.procs kept.listed
  pub rising : AreBetween 0 kept.listed kept.last
  pub all : AreKeysOf h.procs (keys_of kept.listed)
  pub leaves : HoldLeaves h.leaves (processes h kept)

-- what a process has open by number, if it is there; who isn't has nothing open
abbrev pub places_in : (Proc → List (Option HeldDescriptor)) → Option Proc → List (Option HeldDescriptor)
places_in numbers None = no_descriptors
places_in numbers (Some proc) = numbers proc

-- The machine's descriptors of each pid are those that its process keeps, by the places of their descriptions, and who sleeps in an open
-- of a FIFO sleeps in the same one there.
pub record HaveDescriptors (numbers : Proc → List (Option HeldDescriptor)) (number : ℕ → ℕ) (procs : List Proc) (last : ℕ) (files : Files) : Type 0 where
  pub each : (pid : ℕ) → descriptors_of files pid ≡ descriptors_by number (places_in numbers (proc_of procs pid))
  pub made : length files.descriptors ≡ last
  pub openings : HaveOpenings procs last files.openings

-- The processes of a table have open what the machine says: its descriptors, and behind them its descriptions, pipes and sockets.
pub record HaveOpen (numbers : Numbers) (h : Heap) (kept : TableView) (files : Files) : Type 0 where
  pub list : CountedList
  pub opened : AreOpen numbers h list files
  pub descriptors : HaveDescriptors (numbers_in h) numbers.descs (processes h kept) kept.last files

-- no description is open on a node by its number
abbrev pub OpensNoNode : List (Option Desc) → Type 0
OpensNoNode descs = (key : ℕ) (desc : Desc) → object descs key ≡ Some desc → inode_in desc.target ≡ None

-- ---- closing

-- the node whose pin is to be dropped with a descriptor: that of the description that goes with it
abbrev pub node_dropped : List (Option Pipe) → Option Desc → Option ℕ
node_dropped pipes None = None
node_dropped pipes (Some desc) = node_left pipes desc

abbrev pub node_closed : Heap → Option HeldDescriptor → Option ℕ
node_closed h None = None
node_closed h (Some held) = node_dropped h.pipes (object h.descs held.desc)

-- A number of a process is open no more, in its Proc or its Leaf; of the other objects only Descs, Pipes, Chunks and Socks are others.
pub record ClosesNumber (old new : Heap) (kept : TableView) (pid fd : ℕ) : Type 0 where
  pub key : ℕ
  pub proc : Proc
  pub now : Proc
  pub turns : NumbersTurn old new kept pid key proc now
  pub numbers : numbers_in new now ≡ slice_set (numbers_in old proc) fd None
  pub namings : (at : ℕ) → all_namings new at + names_one at (slice_index_or (numbers_in old proc) fd None) ≡ all_namings old at
  pub beside : new
      ≡ record old { procs = new.procs; leaves = new.leaves; descs = new.descs; pipes = new.pipes; chunks = new.chunks; socks = new.socks }
