-- What caches keep where nodes are let go.
use Rattle.std.proofs.Common.{◌≡◌, ◌≢◌, ℕ, true, false, IsSome, Some, None, refl, sym, ap, ◌∙◌, subst, inl, inr, eqb}
use Rattle.std.specs.Prelude.{is_some}
use Rattle.std.proofs.lemmas.Bool.{cond-true, eq-eqb, false≢true}
use Rattle.kheap_slabs.specs.Heap.{Heap}
use Rattle.lru_index.specs.Order.{Order}
use Rattle.disk_layout.specs.Disk.{Disk}
use Rattle.disk_laws.proofs.DiskNodes.{inode_of_node}
use Rattle.memfs_node.proofs.Looking.{shown}
use Rattle.posix_defs.specs.Tree.{Node, Tree, is_in_use, links_at, node_at, with_node}
use Rattle.posix_defs.specs.TreeChanges.{closed}
use Rattle.posix_defs.proofs.TreeNodes.{is_number, node_at-with_node}
use Rattle.tree_laws.proofs.OtherNodes.{closed_nodes}
use Rattle.tree_laws.proofs.TreeSteps.{node_of}
use Rattle.vnode_cache.specs.Nodes.{Nodes, node_slot}
use Rattle.memfs_ops.specs.FileTree.{IsUsed, Stands, TreeView}
use Rattle.memfs_ops.specs.Closing.{IsOnDisk, KeepsCached}
use Rattle.memfs_ops.proofs.CloseLemmas.{used_of}

-- ---- one after the other

pub cached_still : (fs : TreeView) → KeepsCached fs fs
cached_still fs = record { names = refl; there = λ number is. is; nodes = λ number is kept. kept }

pub cached_then : (was mid is : TreeView) → KeepsCached was mid → KeepsCached mid is → KeepsCached was is
cached_then was mid is first second = record {
  names = second.names ∙ first.names;
  there = λ number here. first.there number (second.there number here);
  nodes = λ number here kept. second.nodes number here (first.nodes number (second.there number here) kept);
}

-- where names, disk and the slots of all nodes are the same
pub cached_same : (was is : TreeView) → is.names ≡ was.names → is.disk ≡ was.disk → ((number : ℕ) → node_slot is.vnodes number ≡ node_slot was.vnodes number) → KeepsCached was is
cached_same was is names disk slots = record {
  names = names;
  there = λ number here. subst (λ (d : Disk). IsOnDisk (record was { disk = d }) number) disk here;
  nodes = λ number here kept. subst (λ slot. IsSome slot) (sym (slots number)) kept;
}

-- where an inode was used, and then one less holds a node
pub still_cached : (was mid is : TreeView) → IsUsed was mid → is ≡ record mid { vnodes = is.vnodes } → is.vnodes.order ≡ mid.vnodes.order → KeepsCached was is
still_cached was mid is used rest same =
    cached_same was is (ap (λ (v : TreeView). v.names) rest ∙ ap (λ (v : TreeView). v.names) used.same) (ap (λ (v : TreeView). v.disk) rest ∙ ap (λ (v : TreeView). v.disk) used.same)
    (λ number. ap (λ (order : Order ℕ). node_slot (record is.vnodes { order = order }) number) same ∙ used.nodes number)

-- ---- a node goes

-- what is on the disk is in use
in_use_of : (heap : Heap) (fs : TreeView) (tree : Tree) (pins : ℕ → ℕ) (number : ℕ) → Stands heap fs tree pins → IsOnDisk fs number → is_in_use tree number ≡ true
in_use_of heap fs tree pins number stands here = used_of tree number here.0 (shown fs.disk.blocks tree number here.0 stands.behind here.1)

-- and the other way round
pub on_disk_of : (heap : Heap) (fs : TreeView) (tree : Tree) (pins : ℕ → ℕ) (number : ℕ) → Stands heap fs tree pins → is_in_use tree number ≡ true → IsOnDisk fs number
on_disk_of heap fs tree pins number stands used =
    let node = node_of tree number used in
    let there = inode_of_node fs.disk.blocks tree number node.0 stands.behind node.1 in
    (there.inode, there.has)

-- a node without links is in use no more once it is closed
gone_of : (tree : Tree) (number : ℕ) → links_at tree number ≡ 0 → is_in_use tree number ≡ true → is_in_use (closed tree number) number ≡ false
gone_of tree number none used =
    ap (λ (t : Tree). is_in_use t number) (cond-true (eqb (links_at tree number) 0) (with_node tree number None) tree (eq-eqb (links_at tree number) 0 none))
    ∙ ap is_some (node_at-with_node tree number None (is_number tree number used))

pub cached_freed : (old new : Heap) (was is : TreeView) (tree : Tree) (had has : ℕ → ℕ) (node : ℕ) → Stands old was tree had → Stands new is (closed tree node) has → links_at tree node ≡ 0 → is_in_use tree node ≡ true
    → is.names ≡ was.names → ((other : ℕ) → node ≢ other → node_slot is.vnodes other ≡ node_slot was.vnodes other) → KeepsCached was is
cached_freed old new was is tree had has node before after none used names slots = record {
  names = names;
  there = λ number here.
      on_disk_of old was tree had number before (ap is_some (sym (closed_nodes tree node number (λ same. apart number here (sym same)))) ∙ in_use_of new is (closed tree node) has number after here);
  nodes = λ number here kept. subst (λ slot. IsSome slot) (sym (slots number (apart number here))) kept;
}
  where
    apart : (number : ℕ) → IsOnDisk is number → node ≢ number
    apart number here same =
        false≢true (sym (gone_of tree node none used) ∙ ap (is_in_use (closed tree node)) same ∙ in_use_of new is (closed tree node) has number after here)
