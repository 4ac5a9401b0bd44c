-- Descriptions that are open on nodes of the tree of files, and who holds these nodes.
use Rattle.std.specs.Prelude.{ℕ, ◌≡◌, Some}
use Rattle.proc_files.specs.Holders.{AreOpenNodes, HoldDirectories, holders}
use Rattle.kheap_slabs.specs.Heap.{Heap}
use Rattle.kheap_slabs.specs.declared.objects.Target.{Target}
use Rattle.kheap_slabs.specs.declared.objects.Target.TheVariants as target
use Rattle.memfs_ops.specs.FileTree.{HeldSome, Stands, TreeView}
use Rattle.open_laws.specs.Described.{node_in}
use Rattle.open_laws.specs.Placed.{Numbers}
use Rattle.pipe_ends.specs.Standing.{IsPipeAt}
use Rattle.posix_defs.specs.Files.State.{Files}
use Rattle.posix_defs.specs.PathCalls.{is_fifo, is_socket}
use Rattle.posix_defs.specs.Tree.{Tree, is_directory, is_in_use}
use Rattle.proc_numbers.specs.Having.{HaveOpen}
use Rattle.proc_table.specs.Table.{TableView}

-- Heap, table and tree stand for these files: for what is open, and for the tree, whose nodes descriptions hold, and so many
-- others.
pub record HoldFiles (numbers : Numbers) (others : ℕ → ℕ) (h : Heap) (kept : TableView) (fs : TreeView) (files : Files) : Type 0 where
  pub opened : HaveOpen numbers h kept files
  pub tree : Stands h fs files.tree (holders others files)
  pub nodes : AreOpenNodes files
  pub beside : HoldDirectories others files.tree

-- they stand for some files
pub record HoldSome (h : Heap) (kept : TableView) (fs : TreeView) : Type 0 where
  pub numbers : Numbers
  pub others : ℕ → ℕ
  pub files : Files
  pub hold : HoldFiles numbers others h kept fs files

-- ---- what leaves them

-- the heap has the same objects of the three caches, and is as large
pub record CachesStay (old new : Heap) : Type 0 where
  pub vnodes : new.vnodes ≡ old.vnodes
  pub names : new.names ≡ old.names
  pub blocks : new.blocks ≡ old.blocks
  pub size : new.heap ≡ old.heap

-- Of each node another tree says as the first does whether it is in use, a directory, and the name of a socket.
pub record HasSameKinds (old new : Tree) : Type 0 where
  pub used : (number : ℕ) → is_in_use new number ≡ is_in_use old number
  pub directories : (number : ℕ) → is_directory new number ≡ is_directory old number
  pub sockets : (number : ℕ) → is_socket new number ≡ is_socket old number
  pub fifos : (number : ℕ) → is_fifo new number ≡ is_fifo old number

-- the node that a target has is held, that of a FIFO too
abbrev pub IsHeldIn : Heap → TreeView → Target → Type 0
IsHeldIn h fs (target.Inode node) = HeldSome h fs node
IsHeldIn h fs (target.Pipe key) = IsPipeAt h key × ((node : ℕ) → node_in h.pipes (target.Pipe key) ≡ Some node → HeldSome h fs node)
IsHeldIn h fs (target.Sock key) = Unit {0}
