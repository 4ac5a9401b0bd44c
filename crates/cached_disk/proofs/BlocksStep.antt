-- Where blocks are asked for, all that is lent goes on, and the caches of names and inodes stay.
use Rattle.std.proofs.Common.{◌≡◌, ℕ, List, length, Option, refl, sym, ap, ◌∙◌, subst, arith}
use Rattle.kheap_slabs.specs.Purse.{Purse}
use Rattle.kheap_slabs.specs.declared.objects.Name.{Name}
use Rattle.kheap_slabs.specs.declared.objects.Vnode.{Vnode}
use Rattle.kheap_slabs.specs.Heap.{Heap}
use Rattle.lru_index.specs.Order.{Order}
use Rattle.lru_index.specs.declared.keys.NameKey.{NameKey}
use Rattle.disk_layout.specs.Disk.{Disk}
use Rattle.posix_defs.specs.DiskTree.{StandsFor}
use Rattle.posix_defs.specs.SoundDisk.{HasNode}
use Rattle.posix_defs.specs.Tree.{Tree, found}
use Rattle.block_cache.specs.Blocks.{with_blocks}
use Rattle.name_cache.specs.Names.{TrueNames}
use Rattle.vnode_cache.specs.Nodes.{Nodes, TrueNodes}
use Rattle.cached_disk.specs.Lent.{Parts, parts, AreLent, GoesOn}
use Rattle.cached_disk.specs.TreeLent.{TreeParts, tree_parts, NamesLent, NodesLent, AllLent, StandsThrough, HasPins, TreeGoesOn, with_cached}
use Rattle.cached_disk.proofs.Moved.{names_moved, nodes_moved}

module _ (old new : Heap) (before after : Purse) (names : Order NameKey) (vnodes : Nodes) (had has : Order ℕ) (was is : Disk) (on : GoesOn (parts old before had was) (parts new after has is)) (bytes : is.blocks ≡ was.blocks) where
  same_names : new.names ≡ old.names
  same_names = ap (λ (h : Heap). h.names) on.heap

  same_vnodes : new.vnodes ≡ old.vnodes
  same_vnodes = ap (λ (h : Heap). h.vnodes) on.heap

  pub blocks_go_on : TreeGoesOn (tree_parts old before names vnodes had was) (tree_parts new after names vnodes has is)
  blocks_go_on = record {
    heap = on.heap ∙ ap (λ (h : Heap). record old { vnodes = h.vnodes; names = h.names; blocks = new.blocks; high = new.high }) (sym on.heap);
    purse = on.purse ∙ ap (with_cached before) (sym on.purse);
    paid = on.paid;
    capacities = (refl, refl, on.capacity);
    bytes = bytes;
    reads = on.reads;
    pins = λ pins pinned. subst (λ (o : List (Option Vnode)). HasPins pins o) (sym same_vnodes) pinned;
  }

  pub blocks_all_lent : AreLent new after has is → AllLent old before names vnodes had was → AllLent new after names vnodes has is
  blocks_all_lent blocks lent = record {
    of_names = names_moved old new before after names same_names on.paid.heap (ap (λ (p : Purse). p.names) on.purse) (ap (λ (p : Purse). p.left.name) on.purse) on.paid.need lent.of_names;
    of_nodes = nodes_moved old new before after vnodes was is same_vnodes on.paid.heap (ap (λ (p : Purse). p.vnodes) on.purse) (ap (λ (p : Purse). p.left.vnode) on.purse) on.paid.need bytes lent.of_nodes;
    of_blocks = blocks;
  }

  pub blocks_stand : (tree : Tree) → StandsThrough (tree_parts old before names vnodes had was) tree → StandsThrough (tree_parts new after names vnodes has is) tree
  blocks_stand tree stands = record {
    behind = subst (λ (d : List (List ℕ)). StandsFor d tree) (sym bytes) stands.behind;
    is_tree = stands.is_tree;
    names = subst (λ o. TrueNames (found tree) o) (sym same_names) stands.names;
    nodes = subst (λ (o : List (Option Vnode)). TrueNodes (HasNode is.blocks) o) (sym same_vnodes) (subst (λ (d : List (List ℕ)). TrueNodes (HasNode d) old.vnodes) (sym bytes) stands.nodes);
  }
