-- Open descriptions, each with how many descriptors name it, and what a Desc of the heap says of one.
use Rattle.std.specs.Prelude.{◌≡◌, ◌+◌, ◌-◌, ◌==◌, ℕ, List, map, Option, None, Some, if◌then◌else◌, slice_set}
use Rattle.std.specs.Option.{option_and_then, option_map}
use Rattle.kheap_slabs.specs.Objects.{object}
use Rattle.kheap_slabs.specs.declared.objects.Access.{Access as HeldAccess}
use Rattle.kheap_slabs.specs.declared.objects.Access.TheVariants as access
use Rattle.kheap_slabs.specs.declared.objects.Desc.{Desc}
use Rattle.kheap_slabs.specs.declared.objects.Pipe.{Pipe}
use Rattle.kheap_slabs.specs.declared.objects.Target.{Target as HeldTarget}
use Rattle.kheap_slabs.specs.declared.objects.Target.TheVariants as target
use Rattle.posix_defs.specs.Files.Descriptions.{Target, OnNode, OnPipe, OnSocket, Access, ReadOnly, WriteOnly, ReadWrite, Description, Descriptions}
use Rattle.open_laws.specs.Placed.{Numbers, ArePlaced}

-- an open description, and how many descriptors name it
pub record Counted : Type 0 where
  pub is : Description
  pub count : ℕ

-- every description that was made, by its place; none once it is gone
abbrev pub CountedList : Type 0
CountedList = List (Option Counted)

-- the descriptions alone, as the machine has them
abbrev pub uncounted : CountedList → Descriptions
uncounted list = map (option_map (λ counted. counted.is)) list

-- ---- what a Desc says

abbrev pub access_in : HeldAccess → Access
access_in access.Read = ReadOnly
access_in access.Write = WriteOnly
access_in access.Both = ReadWrite

-- a pipe and a socket have the places that their keys have as numbers
abbrev pub target_in : Numbers → HeldTarget → Target
target_in numbers (target.Inode number) = OnNode number
target_in numbers (target.Pipe key) = OnPipe (numbers.pipes key)
target_in numbers (target.Sock key) = OnSocket (numbers.socks key)

abbrev pub counted_in : Numbers → Desc → Counted
counted_in numbers desc = record {
  is = record {
    target = target_in numbers desc.target;
    offset = desc.offset;
    access = access_in desc.access;
    append = desc.flags.append;
    nonblock = desc.flags.nonblock;
  };
  count = desc.count;
}

-- the Descs of the heap stand for these descriptions
abbrev pub AreDescribed : Numbers → List (Option Desc) → CountedList → Type 0
AreDescribed numbers descs list = ArePlaced (λ key desc counted. counted ≡ counted_in numbers desc) numbers.descs descs (object list)

-- ---- counts change by one

abbrev pub named_more : Option Counted → Option Counted
named_more None = None
named_more (Some counted) = Some (record counted { count = counted.count + 1 })

-- one descriptor more names the description of a place
abbrev pub after_share : CountedList → ℕ → CountedList
after_share list place = slice_set list place (named_more (object list place))

abbrev pub named_less : Option Counted → Option Counted
named_less None = None
named_less (Some counted) = if counted.count == 1 then None else Some (record counted { count = counted.count - 1 })

-- one descriptor fewer names it; with the last one it goes
abbrev pub after_drop : CountedList → ℕ → CountedList
after_drop list place = slice_set list place (named_less (object list place))

-- ---- Descs whose count changes

-- the same Desc, with so many descriptors that name it
abbrev pub counting : Desc → ℕ → Desc
counting desc count = record desc { count = count }

-- the node of the FIFO whose pipe it is
abbrev pub fifo_in : Pipe → Option ℕ
fifo_in pipe = if pipe.node == 0 then None else Some pipe.node

-- the node that a target names by its number
abbrev pub inode_in : HeldTarget → Option ℕ
inode_in (target.Inode number) = Some number
inode_in (target.Pipe key) = None
inode_in (target.Sock key) = None

-- the node that a target has, where these are the pipes; an end of a FIFO's pipe has that of the FIFO
abbrev pub node_in : List (Option Pipe) → HeldTarget → Option ℕ
node_in pipes (target.Inode number) = Some number
node_in pipes (target.Pipe key) = option_and_then fifo_in (object pipes key)
node_in pipes (target.Sock key) = None

-- the node whose pin is to be dropped with a descriptor: that of a description which goes
abbrev pub node_left : List (Option Pipe) → Desc → Option ℕ
node_left pipes desc = if desc.count == 1 then node_in pipes desc.target else None

-- the Descs after a descriptor of one is gone
abbrev pub descs_left : List (Option Desc) → ℕ → Desc → List (Option Desc)
descs_left descs key desc = slice_set descs key (if desc.count == 1 then None else Some (counting desc (desc.count - 1)))
