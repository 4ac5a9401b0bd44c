-- A file that is open is written or gets another size: heap, table and tree go on standing for files.
use Rattle.std.proofs.Common.{◌≡◌, ℕ, ◌+◌, ◌<◌, Bool, true, false, cond, List, Option, None, Some, Result, Ok, Err, is_some, refl, ap, sym, subst, ◌∙◌}
use Rattle.std.specs.Option.{option_map}
use Rattle.std.specs.Prelude.{nat_lt}
use Rattle.kabi_types.specs.declared.errnos.Errno.{Errno}
use Rattle.kabi_types.specs.declared.errnos.Errno.TheVariants.{EFBIG, ENOSPC}
use Rattle.kheap_slabs.specs.Heap.{Heap}
use Rattle.memfs_ops.specs.FileTree.{Stands, TreeView}
use Rattle.open_laws.specs.Placed.{Numbers}
use Rattle.posix_defs.specs.DiskFormat.{blocks_of, greatest_size}
use Rattle.posix_defs.specs.FileBytes.{resized}
use Rattle.posix_defs.specs.Files.State.{Files, with_tree}
use Rattle.posix_defs.specs.PathCalls.{is_fifo_kind, is_socket_kind, kind_in, kind_of_content}
use Rattle.posix_defs.specs.Tree.{Content, Directory, Fifo, File, Node, SocketName, Tree, is_directory_content, is_directory_in, node_at}
use Rattle.posix_defs.specs.TreeChanges.{blocks_for, resize, with_bytes, with_bytes_in, write}
use Rattle.posix_defs.proofs.TreeNodes.{seen_same}
use Rattle.proc_table.specs.Table.{TableView}
use Rattle.tree_laws.proofs.FileKeeps.{wrote}
use Rattle.proc_files.specs.Closing.{CachesChange}
use Rattle.proc_files.specs.Holding.{HasSameKinds, HoldFiles}
use Rattle.proc_files.specs.Holders.{holders, times}
use Rattle.proc_files.proofs.Beside.{have_beside}
use Rattle.proc_files.proofs.Holding.{same_pins}
use Rattle.proc_files.proofs.Openings.{all_same, same_node, same_nodes}

-- ---- a tree in which a file has other bytes

same_directory : (change : List ℕ → List ℕ) (content : Content) → is_directory_content (with_bytes_in change content) ≡ is_directory_content content
same_directory change (File bytes) = refl
same_directory change (Directory parent entries) = refl
same_directory change SocketName = refl
same_directory change Fifo = refl

same_kind : (change : List ℕ → List ℕ) (content : Content) → is_socket_kind (kind_of_content (with_bytes_in change content)) ≡ is_socket_kind (kind_of_content content)
same_kind change (File bytes) = refl
same_kind change (Directory parent entries) = refl
same_kind change SocketName = refl
same_kind change Fifo = refl

same_fifo : (change : List ℕ → List ℕ) (content : Content) → is_fifo_kind (kind_of_content (with_bytes_in change content)) ≡ is_fifo_kind (kind_of_content content)
same_fifo change (File bytes) = refl
same_fifo change (Directory parent entries) = refl
same_fifo change SocketName = refl
same_fifo change Fifo = refl

module _ (tree : Tree) (number : ℕ) (change : List ℕ → List ℕ) where
  abbrev there : Option Node
  there = option_map {T = Node} (λ node. record node { content = with_bytes_in change node.content }) (node_at tree number)

  used_there : (o : Option Node) → is_some (option_map {T = Node} (λ node. record node { content = with_bytes_in change node.content }) o) ≡ is_some o
  used_there None = refl
  used_there (Some node) = refl

  directory_there : (o : Option Node) → is_directory_in (option_map {T = Node} (λ node. record node { content = with_bytes_in change node.content }) o) ≡ is_directory_in o
  directory_there None = refl
  directory_there (Some node) = same_directory change node.content

  socket_there : (o : Option Node) → is_socket_kind (kind_in (option_map {T = Node} (λ node. record node { content = with_bytes_in change node.content }) o)) ≡ is_socket_kind (kind_in o)
  socket_there None = refl
  socket_there (Some node) = same_kind change node.content

  fifo_there : (o : Option Node) → is_fifo_kind (kind_in (option_map {T = Node} (λ node. record node { content = with_bytes_in change node.content }) o)) ≡ is_fifo_kind (kind_in o)
  fifo_there None = refl
  fifo_there (Some node) = same_fifo change node.content

  pub bytes_kinds : HasSameKinds tree (with_bytes tree number change)
  bytes_kinds = record {
    used = seen_same is_some tree number there (used_there (node_at tree number));
    directories = seen_same is_directory_in tree number there (directory_there (node_at tree number));
    sockets = seen_same (λ o. is_socket_kind (kind_in o)) tree number there (socket_there (node_at tree number));
    fifos = seen_same (λ o. is_fifo_kind (kind_in o)) tree number there (fifo_there (node_at tree number));
  }

pub write_kinds : (tree : Tree) (number at : ℕ) (bytes : List ℕ) (count : ℕ) (after : Tree) → write tree number at bytes ≡ Ok (count, after) → HasSameKinds tree after
write_kinds tree number at bytes count after is =
    let it = wrote tree number at bytes count after is in subst (HasSameKinds tree) (sym it.tree_after) (bytes_kinds tree number _)

-- a write ends not far behind the greatest size
pub write_ends : (tree : Tree) (number at : ℕ) (bytes : List ℕ) (count : ℕ) (after : Tree) → write tree number at bytes ≡ Ok (count, after) → at < greatest_size
write_ends tree number at bytes count after is = (wrote tree number at bytes count after is).below

pub resize_kinds : (tree : Tree) (number size : ℕ) (after : Tree) → resize tree number size ≡ Ok after → HasSameKinds tree after
resize_kinds tree number size after is = by_size (nat_lt greatest_size size) (nat_lt (blocks_for tree number) (blocks_of size)) is
  where
    made : (one other : Tree) → ◌≡◌ {A = Result Tree Errno} (Ok one) (Ok other) → one ≡ other
    made one other e = cc

    by_room : (b : Bool) → ◌≡◌ {A = Result Tree Errno} (cond b (Err ENOSPC) (Ok (with_bytes tree number (resized size)))) (Ok after) → HasSameKinds tree after
    by_room true e = cc
    by_room false e = subst (HasSameKinds tree) (made (with_bytes tree number (resized size)) after e) (bytes_kinds tree number (resized size))

    by_size : (a b : Bool) → ◌≡◌ {A = Result Tree Errno} (cond a (Err EFBIG) (cond b (Err ENOSPC) (Ok (with_bytes tree number (resized size))))) (Ok after) → HasSameKinds tree after
    by_size true b e = cc
    by_size false b e = by_room b e

-- ---- what they stand for

pub hold_written : (numbers : Numbers) (others : ℕ → ℕ) (old new : Heap) (kept : TableView) (fs now : TreeView) (files : Files) (tree : Tree) → HoldFiles numbers others old kept fs files
    → CachesChange old new → HasSameKinds files.tree tree → Stands new now tree (holders others files) → HoldFiles numbers others new kept now (with_tree files tree)
hold_written numbers others old new kept fs now files tree hold caches kinds stands = record {
  opened = have_beside old new caches numbers kept files (with_tree files tree) refl refl refl refl refl hold.opened;
  tree = same_pins new now tree (holders others files) (holders others (with_tree files tree))
      (λ n. ap (λ nodes. others n + times n nodes) (same_nodes files (with_tree files tree) files.descriptions (all_same files (with_tree files tree) files.descriptions refl))) stands;
  nodes = λ place number d there on.
      let it = hold.nodes place number d there (same_node files (with_tree files tree) refl d.target ∙ on) in
      record {
        used = kinds.used number ∙ it.used;
        unnamed = kinds.sockets number ∙ it.unnamed;
        reads = λ directory. it.reads (sym (kinds.directories number) ∙ directory);
        between = λ directory. it.between (sym (kinds.directories number) ∙ directory);
        no_fifo = λ target. kinds.fifos number ∙ it.no_fifo target;
      };
  beside = record {
    root = hold.beside.root;
    directories = λ number some. kinds.directories number ∙ hold.beside.directories number some;
    few = hold.beside.few;
  };
}
