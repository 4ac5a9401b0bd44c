-- Heap, table and tree go on standing for files over the steps of a call on names of sockets.
use Rattle.std.proofs.Common.{◌≢◌, ℕ, ◌+◌, refl, sym, ap, ◌∙◌}
use Rattle.kheap_slabs.specs.Heap.{Heap}
use Rattle.memfs_ops.specs.FileTree.{Stands, TreeView}
use Rattle.open_laws.specs.Placed.{Numbers}
use Rattle.posix_defs.specs.Files.State.{Files, with_sockets, with_tree}
use Rattle.posix_defs.specs.Sockets.{Sockets}
use Rattle.posix_defs.specs.Tree.{Tree}
use Rattle.posix_defs.proofs.TreeNodes.{directory_in_use}
use Rattle.proc_numbers.specs.Having.{HaveOpen}
use Rattle.proc_table.specs.Table.{TableView}
use Rattle.usock_core.specs.Standing.{LeavesOthers}
use Rattle.proc_files.specs.Closing.{CachesChange}
use Rattle.proc_files.specs.Holding.{CachesStay, HoldFiles}
use Rattle.proc_files.specs.Holders.{holders, times}
use Rattle.proc_files.proofs.Beside.{have_beside}
use Rattle.proc_files.proofs.Holding.{same_pins, stands_on}
use Rattle.proc_files.proofs.Openings.{all_same, same_node, same_nodes}
use Rattle.proc_files.proofs.Made.{MakesName, used_apart}

module _ (numbers : Numbers) (others : ℕ → ℕ) (old mid : Heap) (kept : TableView) (fs now : TreeView) (files : Files) (caches : CachesChange old mid) (hold : HoldFiles numbers others old kept fs files) where
  -- a path was walked
  pub files_walked : Stands mid now files.tree (holders others files) → HoldFiles numbers others mid kept now files
  files_walked stands = record {
    opened = have_beside old mid caches numbers kept files files refl refl refl refl refl hold.opened;
    tree = stands;
    nodes = hold.nodes;
    beside = hold.beside;
  }

  -- a socket's name was made
  pub files_named : (next : Tree) (made : ℕ) → MakesName files.tree next made → Stands mid now next (holders others files) → HoldFiles numbers others mid kept now (with_tree files next)
  files_named next made makes stands = record {
    opened = have_beside old mid caches numbers kept files (with_tree files next) refl refl refl refl refl hold.opened;
    tree = same_pins mid now next (holders others files) (holders others (with_tree files next))
        (λ n. ap (λ nodes. others n + times n nodes) (same_nodes files (with_tree files next) files.descriptions (all_same files (with_tree files next) files.descriptions refl))) stands;
    nodes = λ place number description there on.
        let it = hold.nodes place number description there (same_node files (with_tree files next) refl description.target ∙ on) in
        let apart : number ≢ made = used_apart files.tree next made makes number it.used in
        record {
          used = makes.used number it.used;
          unnamed = makes.sockets number apart ∙ it.unnamed;
          reads = λ directory. it.reads (sym (makes.directories number apart) ∙ directory);
          between = λ directory. it.between (sym (makes.directories number apart) ∙ directory);
          no_fifo = λ target. makes.fifos number apart ∙ it.no_fifo target;
        };
    beside = record {
      root = hold.beside.root;
      directories = λ number some.
          let was = hold.beside.directories number some in
          makes.directories number (used_apart files.tree next made makes number (directory_in_use files.tree number was)) ∙ was;
      few = hold.beside.few;
    };
  }

-- of the heap nothing but sockets and chunks is other
pub caches_stay : (mid new : Heap) → LeavesOthers mid new → CachesStay mid new
caches_stay mid new others = record {
  vnodes = ap (λ (h : Heap). h.vnodes) others.kept;
  names = ap (λ (h : Heap). h.names) others.kept;
  blocks = ap (λ (h : Heap). h.blocks) others.kept;
  size = ap (λ (h : Heap). h.heap) others.kept;
}

-- sockets are others
pub files_resocketed : (numbers now : Numbers) (others : ℕ → ℕ) (mid new : Heap) (kept : TableView) (fs : TreeView) (files : Files) (sockets : Sockets) → LeavesOthers mid new
    → HaveOpen now new kept (with_sockets files sockets) → HoldFiles numbers others mid kept fs files → HoldFiles now others new kept fs (with_sockets files sockets)
files_resocketed numbers now others mid new kept fs files sockets leaves have hold = record {
  opened = have;
  tree =
      same_pins new fs files.tree (holders others files) (holders others (with_sockets files sockets))
      (λ n. ap (λ nodes. others n + times n nodes) (same_nodes files (with_sockets files sockets) files.descriptions (all_same files (with_sockets files sockets) files.descriptions refl)))
      (stands_on mid new fs files.tree (holders others files) (caches_stay mid new leaves) hold.tree);
  nodes = λ place number description there on. hold.nodes place number description there (same_node files (with_sockets files sockets) refl description.target ∙ on);
  beside = hold.beside;
}
