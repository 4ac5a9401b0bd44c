-- What heap, table, tree and the table of names stand for: files, whose sockets have names in the tree.
use Rattle.std.specs.Prelude.{ℕ, ◌<◌, ◌≡◌, true, List, length, Option, Some}
use Rattle.proc_files.specs.Holders.{HaveNames}
use Rattle.kheap_slabs.specs.declared.objects.Proc.{Proc}
use Rattle.kheap_slabs.specs.Heap.{Heap}
use Rattle.memfs_ops.specs.FileTree.{TreeView}
use Rattle.open_laws.specs.Placed.{Numbers}
use Rattle.posix_defs.specs.DiskFormat.{table_nodes}
use Rattle.posix_defs.specs.Files.State.{Files}
use Rattle.posix_defs.specs.Tree.{is_directory}
use Rattle.proc_table.specs.Procs.{proc_of}
use Rattle.proc_table.specs.Table.{TableView, processes}
use Rattle.proc_files.specs.Holding.{HoldFiles}
use Rattle.proc_files.specs.Names.{AreBound, name_of}

-- Heap, table and tree stand for these files, and the table of names has a place for each node, with the socket that is bound
-- to it.
pub record HoldNames (numbers : Numbers) (others : ℕ → ℕ) (h : Heap) (kept : TableView) (fs : TreeView) (names : List (Option ℕ)) (files : Files) : Type 0 where
  pub held : HoldFiles numbers others h kept fs files
  pub bound : AreBound (name_of h.socks) names
  pub named : HaveNames files
  pub places : table_nodes files.tree.blocks < length names

-- they stand for some files
pub record HoldSomeNames (h : Heap) (kept : TableView) (fs : TreeView) (names : List (Option ℕ)) : Type 0 where
  pub numbers : Numbers
  pub others : ℕ → ℕ
  pub files : Files
  pub hold : HoldNames numbers others h kept fs names files

-- ---- working directories

-- a process that is there works in this directory
abbrev pub WorksAt : Heap → TableView → ℕ → ℕ → Type 0
WorksAt h kept pid directory = (proc : Proc) → proc_of (processes h kept) pid ≡ Some proc → proc.cwd ≡ directory

-- They stand for some files, in whose tree a process works in a directory.
pub record WorksInSome (h : Heap) (kept : TableView) (fs : TreeView) (names : List (Option ℕ)) (pid : ℕ) : Type 0 where
  pub some : HoldSomeNames h kept fs names
  pub directory : ℕ
  pub works : WorksAt h kept pid directory
  pub is_dir : is_directory some.files.tree directory ≡ true
