-- Processes as they stand in the heap, by rising pid.
use Rattle.std.specs.Prelude.{ℕ, ◌≡◌, ◌==◌, ℤ, pos, negsuc, if◌then◌else◌, List, [], ◌∷◌, map, replicate, Option, None, Some, true}
use Rattle.std.specs.List.{AllByRecursion, range_with_len}
use Rattle.kabi_types.specs.Arguments.{most_descriptors}
use Rattle.kheap_slabs.specs.declared.objects.Descriptor.{Descriptor}
use Rattle.kheap_slabs.specs.declared.objects.HalfOpen.{HalfOpen}
use Rattle.kheap_slabs.specs.declared.objects.Proc.{Proc}
use Rattle.kheap_slabs.specs.Heap.{Heap}
use Rattle.kheap_slabs.specs.Leaves.{no_row, numbers_by}
use Rattle.desc_table.specs.Copying.{no_leaves}
use Rattle.page_space.specs.Contents.{content_at}
use Rattle.posix_defs.specs.Memory.{Memory}
use Rattle.posix_defs.specs.Process.{Ignores, Process, Status, Alive, Ended}
use Rattle.posix_defs.specs.Plain.{at_start, root}
use Rattle.kheap_slabs.specs.Spaces.{keys_in}

-- a process without a wait status runs
abbrev pub status_of : Option ℕ → Status
status_of None = Alive
status_of (Some status) = Ended status

-- what a process has open, by number, with the Leaves that its Proc names
abbrev pub numbers_in : Heap → Proc → List (Option Descriptor)
numbers_in h proc = numbers_by h.leaves proc.descriptors proc.leaves

-- the process with the numbers that another one's Proc has and names
abbrev pub with_numbers : Proc → Proc → Proc
with_numbers proc now = record proc { descriptors = now.descriptors; leaves = now.leaves }

-- the bytes of each page of a space, by its number
unfoldable pub memory_at : Heap → List (Option ℕ) → Memory
memory_at h space = map (content_at h space) (range_with_len 0 256)

-- what a process ignores
abbrev pub ignored_by : Proc → Ignores
ignored_by proc = record { broken_pipe = proc.ignores_pipe; terminate = proc.ignores_term }

-- the process, where it ignores these
abbrev pub with_ignored : Proc → Ignores → Proc
with_ignored proc ignores = record proc { ignores_pipe = ignores.broken_pipe; ignores_term = ignores.terminate }

-- the plain machine's process that one in the heap is
abbrev pub process_of : Heap → Proc → Process
process_of h proc = record {
  parent = proc.parent;
  directory = proc.cwd;
  status = status_of proc.status;
  memory = memory_at h proc.nodes;
  ignores = ignored_by proc;
}

-- the first of that pid
abbrev pub proc_of : List Proc → ℕ → Option Proc
proc_of [] pid = None
proc_of (proc ∷ procs) pid = if proc.pid == pid then Some proc else proc_of procs pid

-- the same by a number as a call has it, which may be no pid
abbrev pub target_of : List Proc → ℤ → Option Proc
target_of procs (pos pid) = proc_of procs pid
target_of procs (negsuc _) = None

-- the process of that pid is there and has not ended
pub record IsAlive (procs : List Proc) (pid : ℕ) : Type 0 where
  pub proc : Proc
  pub there : proc_of procs pid ≡ Some proc
  pub runs : proc.status ≡ None

-- the process of that pid is there, and has ended
pub record HasEnded (procs : List Proc) (pid : ℕ) : Type 0 where
  pub proc : Proc
  pub status : ℕ
  pub there : proc_of procs pid ≡ Some proc
  pub over : proc.status ≡ Some status

-- no page is mapped in any of the four groups
abbrev pub no_nodes : List (Option ℕ)
no_nodes = None ∷ None ∷ None ∷ None ∷ []

-- no descriptor is open, of all numbers
abbrev pub no_descriptors : List (Option Descriptor)
no_descriptors = replicate most_descriptors None

-- the process that was not forked, as it is at boot: at the beginning of a program, without memory, and it ignores both signals
abbrev pub first_proc : Proc
first_proc = record {
  pid = 1;
  parent = 0;
  status = None;
  cwd = root;
  ignores_pipe = true;
  ignores_term = true;
  control = at_start 0;
  opening = None;
  descriptors = no_row;
  nodes = no_nodes;
  leaves = no_leaves;
}

-- the process, once none is
abbrev pub closed_all : Proc → Proc
closed_all proc = record proc { descriptors = no_row; leaves = no_leaves }

-- no number is open in the process: none of the first ones, and no Leaf of it is there
abbrev pub OpensNone : Proc → Type 0
OpensNone proc = (proc.descriptors ≡ no_row) × (proc.leaves ≡ no_leaves)

-- the space is empty where the process has ended
abbrev pub HasNoMemoryOnce : Option ℕ → List (Option ℕ) → Type 0
HasNoMemoryOnce None nodes = Unit {0}
HasNoMemoryOnce (Some status) nodes = keys_in nodes ≡ []

-- no descriptor is open where the process has ended
abbrev pub HasNoneOpenOnce : Option ℕ → List (Option Descriptor) → List (Option ℕ) → Type 0
HasNoneOpenOnce None descriptors leaves = Unit {0}
HasNoneOpenOnce (Some status) descriptors leaves = (descriptors ≡ no_row) × (leaves ≡ no_leaves)

-- a process that has ended sleeps in no open of a FIFO
abbrev pub IsAwakeOnce : Option ℕ → Option HalfOpen → Type 0
IsAwakeOnce None opening = Unit {0}
IsAwakeOnce (Some status) opening = opening ≡ None

-- a process that has ended has no memory, no descriptor is open in it, and it sleeps in no open of a FIFO
pub record IsLight (proc : Proc) : Type 0 where
  pub memory : HasNoMemoryOnce proc.status proc.nodes
  pub descriptors : HasNoneOpenOnce proc.status proc.descriptors proc.leaves
  pub awake : IsAwakeOnce proc.status proc.opening

-- no descriptor is open in the process, and it sleeps in no open of a FIFO
pub record IsClosed (proc : Proc) : Type 0 where
  pub opens : OpensNone proc
  pub awake : proc.opening ≡ None

-- the process of that pid is so
abbrev pub HasClosed : List Proc → ℕ → Type 0
HasClosed procs pid = AllByRecursion (λ proc. proc.pid ≡ pid → IsClosed proc) procs

-- and each process is
abbrev pub NoneOpen : List Proc → Type 0
NoneOpen procs = AllByRecursion IsClosed procs
