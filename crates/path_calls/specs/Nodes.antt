-- Sets of nodes, and which nodes processes hold.
use Rattle.std.specs.Prelude.{ℕ, ◌==◌, ◌≡◌, ◌&&◌, ◌||◌, Bool, false, true, List, Option, None, Some, nat_lt, is_none}
use Rattle.std.specs.List.{list_any}
use Rattle.kheap_slabs.specs.Objects.{object}
use Rattle.kheap_slabs.specs.declared.objects.Desc.{Desc}
use Rattle.kheap_slabs.specs.declared.objects.Descriptor.{Descriptor}
use Rattle.kheap_slabs.specs.declared.objects.Pipe.{Pipe}
use Rattle.kheap_slabs.specs.declared.objects.Proc.{Proc}
use Rattle.kheap_slabs.specs.declared.objects.Target.TheVariants as target
use Rattle.open_laws.specs.Described.{node_in}
use Rattle.posix_defs.specs.Files.State.{is_number}
use Rattle.posix_defs.specs.SoundDisk.{bit_of}
use Rattle.path_calls.specs.declared.node_set.NodeSet.{NodeSet}
use Rattle.kheap_slabs.specs.Heap.{Heap}
use Rattle.proc_table.specs.Procs.{numbers_in}

-- no set has this node or one behind it
abbrev pub most_nodes : ℕ
most_nodes = 8192

-- the node is one of a set's
abbrev pub has_node : NodeSet → ℕ → Bool
has_node set number = nat_lt number most_nodes && (bit_of set.bits number == 1)

-- A set has those nodes more that pass a test, as far as a set may have them.
abbrev pub Adds : NodeSet → NodeSet → (ℕ → Bool) → Type 0
Adds old new test = (number : ℕ) → has_node new number ≡ (has_node old number || (nat_lt number most_nodes && test number))

-- ---- who holds a node

-- a process runs, and works in this node
abbrev pub works_at : ℕ → Proc → Bool
works_at number proc = is_none proc.status && proc.cwd == number

-- no pipe is a FIFO's, where that is said
abbrev pub HasNoFifo : Heap → Bool → Type 0
HasNoFifo h no_fifo = no_fifo ≡ true → (key : ℕ) → node_in h.pipes (target.Pipe key) ≡ None

-- the node that a description opens; one of an end of a FIFO's pipe opens the FIFO
abbrev pub node_of : List (Option Pipe) → Option Desc → Option ℕ
node_of pipes None = None
node_of pipes (Some desc) = node_in pipes desc.target

-- a descriptor, if it is one, is open on this node
abbrev pub opens_at : Heap → ℕ → Option Descriptor → Bool
opens_at h number None = false
opens_at h number (Some held) = is_number number (node_of h.pipes (object h.descs held.desc))

-- some descriptor of these is
abbrev pub some_opens : Heap → List (Option Descriptor) → ℕ → Bool
some_opens h places number = list_any (opens_at h number) places

-- a process works in this node as long as it runs, or has it open
abbrev pub holds_node : Heap → ℕ → Proc → Bool
holds_node h number proc = works_at number proc || some_opens h (numbers_in h proc) number

-- some process of these does
abbrev pub some_holds : Heap → List Proc → ℕ → Bool
some_holds h procs number = list_any (holds_node h number) procs
