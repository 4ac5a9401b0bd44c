-- Bytes of a node that are put in a process's memory, and which machine a call leads to.
use Rattle.std.specs.Prelude.{ℕ, ◌+◌, ◌-◌, ◌/◌, ◌<◌, ◌≤◌, ◌≡◌, ℤ, Bool, true, List, Option, Some, Result, Ok, Err}
use Rattle.std.specs.List.{AllByRecursion}
use Rattle.kabi_types.specs.Arguments.{count_of}
use Rattle.kabi_types.specs.declared.calls.Call.{Call}
use Rattle.kabi_types.specs.declared.errnos.Errno.{Errno}
use Rattle.kabi_types.specs.declared.inodes.Inode.{Inode}
use Rattle.kabi_types.specs.declared.replies.Reply.{Reply}
use Rattle.kabi_types.specs.declared.scripts.Script.{Script}
use Rattle.kheap_slabs.specs.Objects.{object}
use Rattle.kheap_slabs.specs.Purse.{Purse}
use Rattle.kheap_slabs.specs.declared.objects.Desc.{Desc}
use Rattle.kheap_slabs.specs.declared.objects.Descriptor.{Descriptor as HeldDescriptor}
use Rattle.kheap_slabs.specs.declared.objects.Target.TheVariants as target
use Rattle.kheap_slabs.specs.Heap.{Heap}
use Rattle.memfs_file.specs.Ranges.{asked_to_read}
use Rattle.cached_disk.specs.Lent.{IsCached}
use Rattle.memfs_ops.specs.Fetching.{Fetches, IsFile}
use Rattle.memfs_ops.specs.FileTree.{Stands, TreeView}
use Rattle.page_space.specs.Entries.{IsMappedRange}
use Rattle.page_space.specs.Putting.{Puts}
use Rattle.open_laws.specs.Placed.{Numbers}
use Rattle.posix_defs.specs.Account.{Account}
use Rattle.posix_defs.specs.Answer.{Answer, replied}
use Rattle.posix_defs.specs.DiskContents.{data_block}
use Rattle.posix_defs.specs.DiskFormat.{block_size}
use Rattle.posix_defs.specs.Memory.{is_mapped_range}
use Rattle.posix_defs.specs.Plain.{Plain}
use Rattle.posix_defs.specs.SoundDisk.{HasNode}
use Rattle.posix_defs.specs.Process.{Table, memory_of}
use Rattle.posix_defs.specs.Tree.{Tree, is_directory}
use Rattle.posix_defs.specs.Turn.{account_after}
use Rattle.proc_numbers.specs.Naming.{named_by}
use Rattle.proc_numbers.specs.Spaces.{HasSpace}
use Rattle.proc_numbers.specs.Standing.{StandsFor}
use Rattle.proc_table.specs.Standing.{IsTable}
use Rattle.proc_table.specs.Table.{TableView}
use Rattle.proc_files.specs.Holding.{HoldFiles}

-- ---- ranges of memory

-- The bytes of a process's memory that a call names: the nodes of its address space, where the bytes begin, and how many there
-- are. Each page that they touch is mapped.
pub record HasRange (h : Heap) (kept : TableView) (pid : ℕ) (addr : ℤ) (n : ℕ) (nodes : List (Option ℕ)) (start count : ℕ) : Type 0 where
  pub space : HasSpace h kept pid nodes
  pub mapped : IsMappedRange h.nodes nodes start count
  pub within : start + count ≤ 1048576
  pub begins : 0 < count → start ≡ count_of addr
  pub counted : count ≡ n

-- whether the machine has all of them mapped
abbrev pub TellsMapped : Heap → TableView → ℕ → ℤ → ℕ → Bool → Type 0
TellsMapped h kept pid addr n told = (table : Table) → IsTable h kept table → is_mapped_range (memory_of table pid) (count_of addr) n ≡ told

-- ---- reading

-- a node that is held is a file
pub record HoldsFile (h : Heap) (fs : TreeView) (node : ℕ) : Type 0 where
  pub tree : Tree
  pub pins : ℕ → ℕ
  pub stands : Stands h fs tree pins
  pub held : 0 < pins node
  pub is_file : IsFile tree node

-- or a directory, and the place stands between two of its entries
pub record HoldsDirectory (h : Heap) (fs : TreeView) (node : ℕ) : Type 0 where
  pub tree : Tree
  pub pins : ℕ → ℕ
  pub stands : Stands h fs tree pins
  pub held : 0 < pins node
  pub is_dir : is_directory tree node ≡ true

-- Bytes of a node were fetched from the disk, and then put in memory.
pub record ReadsNode (old : Heap) (before : Purse) (new : Heap) (after : Purse) (was is : TreeView) (space : List (Option ℕ)) (start : ℕ) (bytes : List ℕ) : Type 0 where
  -- the heap and the purse once they are there
  pub mid : Heap
  pub spent : Purse
  pub fetches : Fetches old mid before spent was is
  pub puts : Puts mid spent new after space start bytes

-- ---- answers

-- A process's call was answered so, and heap, table and tree stand for the machine that the answer leads to, but for where the
-- caller stands in its program.
pub record LeadsHolding (script : Script) (numbers : Numbers) (others : ℕ → ℕ) (h : Heap) (kept : TableView) (fs : TreeView) (plain : Plain) (account : Account)
    (pid : ℕ) (call : Call) (answer : Answer) (reply : Reply) : Type 0 where
  pub next : Plain
  pub replies : answer ≡ replied script next pid reply
  pub stands : StandsFor numbers h kept next (account_after account plain pid call answer)
  pub holds : HoldFiles numbers others h kept fs next.files
  pub controls : next.controls ≡ plain.controls

-- ---- what is read of the disk

-- how many bytes were moved
abbrev pub moved_by : Result ℕ Errno → ℕ
moved_by (Ok count) = count
moved_by (Err errno) = 0

-- Where the blocks are cached by which these bytes of its node are reached, the disk is as it was: the bytes begin at a place that
-- the description tells.
abbrev pub SavesRead : Heap → TableView → ℕ → ℤ → TreeView → TreeView → (Desc → ℕ) → ℕ → Type 0
SavesRead h kept pid fd was is at count =
    (held : HeldDescriptor) (desc : Desc) (number : ℕ) (inode : Inode) → named_by h kept pid fd ≡ Some held → object h.descs held.desc ≡ Some desc
    → desc.target ≡ target.Inode number → HasNode was.disk.blocks number inode
    → AllByRecursion (IsCached was.blocks) (asked_to_read was.disk.blocks inode (at desc) count) → is.disk ≡ was.disk

-- The block of the last of these bytes is cached, if there are any: they begin at a place that the description tells.
abbrev pub KeepsRead : Heap → TableView → ℕ → ℤ → TreeView → TreeView → (Desc → ℕ) → ℕ → Type 0
KeepsRead h kept pid fd was is at count =
    (held : HeldDescriptor) (desc : Desc) (number : ℕ) (inode : Inode) → named_by h kept pid fd ≡ Some held → object h.descs held.desc ≡ Some desc
    → desc.target ≡ target.Inode number → HasNode was.disk.blocks number inode → 0 < count
    → IsCached is.blocks (data_block was.disk.blocks inode ((at desc + count - 1) / block_size))
