-- What is open on a node is a file or a directory, and is held.
use Rattle.std.proofs.Common.{◌≡◌, ℕ, ◌<◌, ◌≤◌, Bool, true, false, Option, None, Some, is_some, refl, ap, sym, ◌∙◌, arith}
use Rattle.kheap_slabs.specs.Objects.{object}
use Rattle.kheap_slabs.specs.declared.objects.Desc.{Desc}
use Rattle.kheap_slabs.specs.declared.objects.Target.TheVariants as target
use Rattle.kheap_slabs.specs.Purse.{Purse}
use Rattle.kheap_slabs.specs.Heap.{Heap}
use Rattle.memfs_ops.specs.Fetching.{IsFile}
use Rattle.memfs_ops.specs.FileTree.{IsUsed, Pays, Stands, TreeView}
use Rattle.posix_defs.specs.Files.Descriptions.{Description, may_write}
use Rattle.posix_defs.specs.PathCalls.{is_fifo, is_fifo_kind, is_socket, is_socket_kind, kind_in}
use Rattle.posix_defs.specs.Tree.{Content, Directory, Fifo, File, Node, SocketName, Tree, is_directory, is_directory_in, is_in_use, node_at}
use Rattle.proc_table.specs.Table.{TableView}
use Rattle.proc_files.specs.Holding.{HoldSome}
use Rattle.proc_files.specs.Holders.{holders, IsOpenNode}
use Rattle.proc_files.specs.Reading.{HoldsDirectory, HoldsFile}
use Rattle.proc_files.proofs.Holding.{on_there, open_held, open_node}

pub is_file : (tree : Tree) (number : ℕ) → is_in_use tree number ≡ true → is_socket tree number ≡ false → is_fifo tree number ≡ false → is_directory tree number ≡ false → IsFile tree number
is_file tree number used unnamed no_fifo file = by_node (node_at tree number) refl
  where
    by_content : (node : Node) (content : Content) → node.content ≡ content → node_at tree number ≡ Some node → IsFile tree number
    by_content node (File bytes) holds there = record { links = node.links; bytes = bytes; there = there ∙ ap (λ c. Some (record { links = node.links; content = c })) holds }
    by_content node (Directory parent entries) holds there = absurd (
        let both : false ≡ true = sym file ∙ ap is_directory_in there ∙ ap (λ c. is_directory_in (Some (record { links = node.links; content = c }))) holds in cc)
    by_content node SocketName holds there = absurd (
        let both : false ≡ true = sym unnamed ∙ ap (λ (o : Option Node). is_socket_kind (kind_in o)) there ∙ ap (λ c. is_socket_kind (kind_in (Some (record { links = node.links; content = c })))) holds in cc)
    by_content node Fifo holds there = absurd (
        let both : false ≡ true = sym no_fifo ∙ ap (λ (o : Option Node). is_fifo_kind (kind_in o)) there ∙ ap (λ c. is_fifo_kind (kind_in (Some (record { links = node.links; content = c })))) holds in cc)

    by_node : (o : Option Node) → node_at tree number ≡ o → IsFile tree number
    by_node None none = absurd (let both : true ≡ false = sym used ∙ ap is_some none in cc)
    by_node (Some node) there = by_content node node.content refl there

module _ (h : Heap) (kept : TableView) (fs now : TreeView) (some : HoldSome h kept fs) (stands : (tree : Tree) (pins : ℕ → ℕ) → Stands h fs tree pins → Stands h now tree pins)
    (key number : ℕ) (desc : Desc) (is : object h.descs key ≡ Some desc) (on : desc.target ≡ target.Inode number) where
  its_tree : Stands h now some.files.tree (holders some.others some.files)
  its_tree = stands some.files.tree (holders some.others some.files) some.hold.tree

  its_held : 0 < holders some.others some.files number
  its_held = open_held some.numbers some.others h kept fs some.files some.hold key number desc is on

  pub holds_file : is_directory some.files.tree number ≡ false → HoldsFile h now number
  holds_file file =
      let it = open_node some.numbers some.others h kept fs some.files some.hold key number desc is on in
      record { tree = some.files.tree; pins = holders some.others some.files; stands = its_tree; held = its_held; is_file = is_file some.files.tree number it.used it.unnamed (it.no_fifo (on_there some.numbers some.others h kept fs some.files some.hold key number desc is on)) file }

  pub holds_directory : is_directory some.files.tree number ≡ true → HoldsDirectory h now number
  holds_directory directory = record { tree = some.files.tree; pins = holders some.others some.files; stands = its_tree; held = its_held; is_dir = directory }

-- an inode was used before
pub used_pays : (old new : Heap) (before after : Purse) (was mid is : TreeView) → IsUsed was mid → Pays old new before after mid is → Pays old new before after was is
used_pays old new before after was mid is used pays = record {
  only = pays.only;
  purse = pays.purse;
  paid = pays.paid;
  fills = pays.fills;
  reads = rw (ap (λ (fs : TreeView). fs.disk.reads) (sym used.same)) pays.reads;
}

pub used_reads : (was is : TreeView) → IsUsed was is → was.disk.reads ≤ is.disk.reads
used_reads was is used = rw (ap (λ (fs : TreeView). fs.disk.reads) used.same) (omega arith)

-- who may write has a file open
pub writes_file : (tree : Tree) (description : Description) (number : ℕ) → IsOpenNode tree description number → may_write description.access ≡ true → is_directory tree number ≡ false
writes_file tree description number it may = by_kind (is_directory tree number) refl
  where
    by_kind : (b : Bool) → is_directory tree number ≡ b → is_directory tree number ≡ false
    by_kind false is = is
    by_kind true is = absurd (let both : true ≡ false = sym may ∙ ap may_write (it.reads is) in cc)
