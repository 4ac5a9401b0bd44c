-- What is lent over a heap without objects, where nothing is cached yet.
use Rattle.std.proofs.Common.{◌≡◌, ℕ, ◌+◌, ◌/◌, ◌<◌, ◌≤◌, List, [], length, min, Option, Some, None, nat_eq, replicate, sym, ap, ◌∙◌, subst, arith}
use Rattle.kabi_types.specs.Class.{size}
use Rattle.kabi_types.specs.declared.classes.Class.TheVariants as class
use Rattle.kheap_slabs.specs.Objects.{object}
use Rattle.kheap_slabs.specs.Purse.{Purse}
use Rattle.kheap_slabs.specs.declared.objects.Block.{Block}
use Rattle.kheap_slabs.proofs.ObjectLemmas.{object-none}
use Rattle.kheap_slabs.specs.Heap.{Heap, empty_heap}
use Rattle.kheap_slabs.specs.Paid.{CanPay, AreFills}
use Rattle.kheap_laws.proofs.FillLemmas.{AreFills-none}
use Rattle.lru_index.specs.Order.{Order, order}
use Rattle.cache_laws.proofs.KeepsLemmas.{keeps_none}
use Rattle.disk_layout.specs.Disk.{Disk}
use Rattle.block_cache.specs.Blocks.{KeepsBlocks}
use Rattle.lru_index.specs.declared.keys.NameKey.{NameKey}
use Rattle.kheap_slabs.specs.declared.objects.Name.{Name}
use Rattle.kheap_slabs.specs.declared.objects.Vnode.{Vnode}
use Rattle.posix_defs.specs.DiskFormat.{table_nodes}
use Rattle.posix_defs.specs.SoundDisk.{HasNode}
use Rattle.posix_defs.specs.Tree.{found}
use Rattle.memfs_node.specs.NodeOnDisk.{HasTree}
use Rattle.name_cache.specs.Names.{KeepsNames, same_key, key_of}
use Rattle.vnode_cache.specs.Nodes.{Nodes, nodes, KeepsNodes, AreLoose}
use Rattle.vnode_cache.proofs.TrueLemmas.{boot_keeps}
use Rattle.cached_disk.specs.Lent.{AreLent}
use Rattle.cached_disk.specs.TreeLent.{NamesLent, NodesLent, LentForSome}

pub lent_at_boot : (heap : Heap) (purse : Purse) (cache : Order ℕ) (disk : Disk) (bytes capacity : ℕ) → heap ≡ empty_heap bytes → cache ≡ order [] capacity → CanPay heap purse → purse.blocks ≡ [] → purse.left ≡ purse.need
    → 0 < purse.need.block → purse.need.block ≤ 4 → min (bytes / size class.Block) (length disk.blocks) ≤ capacity → AreLent heap purse cache disk
lent_at_boot heap purse cache disk bytes capacity empty none pays nothing left some few room =
    let places : ℕ = bytes / size class.Block in
    let objects : heap.blocks ≡ replicate places None = ap (λ (h : Heap). h.blocks) empty in
    let all : purse.left.block ≡ purse.need.block = ap (λ n. n.block) left in
    let total : heap.heap ≡ bytes = ap (λ (h : Heap). h.heap) empty in
    let held : cache.capacity ≡ capacity = ap (λ (o : Order ℕ). o.capacity) none in
    record {
      keeps = subst (λ (o : Order ℕ). KeepsBlocks heap.blocks o) (sym none) (keeps_none nat_eq (λ (b : Block). b.number) places capacity heap.blocks objects);
      true_blocks = λ slot b there. absurd (object-none places slot b (ap (λ (l : List (Option Block)). object l slot) (sym objects) ∙ there));
      pays = pays;
      fills = subst (λ (keys : List ℕ). AreFills heap.blocks keys purse.left.block purse.need.block) (sym nothing) (subst (λ (n : ℕ). AreFills heap.blocks [] n purse.need.block) (sym all) (AreFills-none heap.blocks purse.need.block));
      few = few;
      some = omega (arith, all, some);
      room = rw (total, held) room;
    }

module _ {X : Type 0} (IsTrueOf : X → Type 0) where
  -- there is nothing that could be untrue
  pub none_true : (limit : ℕ) (objects : List (Option X)) → objects ≡ replicate limit None → (slot : ℕ) (x : X) → object objects slot ≡ Some x → IsTrueOf x
  none_true limit objects empty slot x there = absurd (object-none limit slot x (ap (λ (l : List (Option X)). object l slot) (sym empty) ∙ there))

names_at_boot : (heap : Heap) (purse : Purse) (names : Order NameKey) (bytes capacity : ℕ) → heap ≡ empty_heap bytes → names ≡ order [] capacity → purse.names ≡ [] → purse.left ≡ purse.need → 0 < purse.need.name → purse.need.name ≤ 4
    → bytes / size class.Name ≤ capacity → NamesLent heap purse names
names_at_boot heap purse names bytes capacity empty none nothing left some few room =
    let places : ℕ = bytes / size class.Name in
    let objects : heap.names ≡ replicate places None = ap (λ (h : Heap). h.names) empty in
    let all : purse.left.name ≡ purse.need.name = ap (λ n. n.name) left in
    let total : heap.heap ≡ bytes = ap (λ (h : Heap). h.heap) empty in
    let held : names.capacity ≡ capacity = ap (λ (o : Order NameKey). o.capacity) none in
    record {
      keeps = subst (λ (o : Order NameKey). KeepsNames heap.names o) (sym none) (keeps_none same_key key_of places capacity heap.names objects);
      fills = subst (λ (keys : List ℕ). AreFills heap.names keys purse.left.name purse.need.name) (sym nothing) (subst (λ (n : ℕ). AreFills heap.names [] n purse.need.name) (sym all) (AreFills-none heap.names purse.need.name));
      few = few;
      some = omega (arith, all, some);
      room = rw (total, held) room;
    }

nodes_at_boot : (heap : Heap) (purse : Purse) (vnodes : Nodes) (disk : Disk) (bytes capacity : ℕ) → heap ≡ empty_heap bytes → vnodes ≡ nodes [] capacity 0 → purse.vnodes ≡ [] → purse.left ≡ purse.need → 0 < purse.need.vnode → purse.need.vnode ≤ 4
    → min (bytes / size class.Vnode) (table_nodes (length disk.blocks)) ≤ capacity → NodesLent heap purse vnodes disk
nodes_at_boot heap purse vnodes disk bytes capacity empty none nothing left some few room =
    let places : ℕ = bytes / size class.Vnode in
    let objects : heap.vnodes ≡ replicate places None = ap (λ (h : Heap). h.vnodes) empty in
    let all : purse.left.vnode ≡ purse.need.vnode = ap (λ n. n.vnode) left in
    let total : heap.heap ≡ bytes = ap (λ (h : Heap). h.heap) empty in
    let held : vnodes.order.capacity ≡ capacity = ap (λ (n : Nodes). n.order.capacity) none in
    record {
      keeps = subst (λ (l : List (Option Vnode)). KeepsNodes l vnodes) (sym objects) (subst (λ (n : Nodes). KeepsNodes (replicate places None) n) (sym none) (boot_keeps places capacity));
      fills = subst (λ (keys : List ℕ). AreFills heap.vnodes keys purse.left.vnode purse.need.vnode) (sym nothing) (subst (λ (n : ℕ). AreFills heap.vnodes [] n purse.need.vnode) (sym all) (AreFills-none heap.vnodes purse.need.vnode));
      loose = subst (λ (keys : List ℕ). AreLoose heap.vnodes keys) (sym nothing) (λ slot there. absurd (omega (arith, there.1)));
      few = few;
      some = omega (arith, all, some);
      room = rw (total, held) room;
    }

-- a purse that has spent nothing of so many Names, Vnodes and Blocks
pub record IsFresh (purse : Purse) (many : ℕ) : Type 0 where
  pub need : (purse.need.vnode ≡ many) × (purse.need.name ≡ many) × (purse.need.block ≡ many)
  pub left : purse.left ≡ purse.need
  pub fills : (purse.vnodes ≡ []) × (purse.names ≡ []) × (purse.blocks ≡ [])

-- behind empty caches a disk stands for what it stands for without them
pub tree_at_boot : (heap : Heap) (purse : Purse) (names : Order NameKey) (vnodes : Nodes) (blocks : Order ℕ) (disk : Disk) (many : ℕ) → heap ≡ empty_heap 65536 → names ≡ order [] 1024 → vnodes ≡ nodes [] 16 0 → blocks ≡ order [] 16
    → CanPay heap purse → IsFresh purse many → 1 ≤ many → many ≤ 4 → length disk.blocks ≡ 16 → HasTree disk.blocks → LentForSome heap purse names vnodes blocks disk
tree_at_boot heap purse names vnodes blocks disk many empty no_names no_nodes no_blocks pays fresh some few long has =
    let name : purse.need.name ≡ many = fresh.need.1 in
    let vnode : purse.need.vnode ≡ many = fresh.need.0 in
    let block : purse.need.block ≡ many = fresh.need.2 in (
      record {
        of_names = names_at_boot heap purse names 65536 1024 empty no_names fresh.fills.1 fresh.left (omega (arith, name, some)) (omega (arith, name, few)) (omega arith);
        of_nodes = nodes_at_boot heap purse vnodes disk 65536 16 empty no_nodes fresh.fills.0 fresh.left (omega (arith, vnode, some)) (omega (arith, vnode, few)) (rw long (omega arith));
        of_blocks = lent_at_boot heap purse blocks disk 65536 16 empty no_blocks pays fresh.fills.2 fresh.left (omega (arith, block, some)) (omega (arith, block, few)) (rw long (omega arith));
      },
      (
        has.0,
        record {
          behind = has.1;
          is_tree = has.2;
          names = none_true (λ (n : Name). found has.0 n.dir n.name ≡ Some n.node) (65536 / size class.Name) heap.names (ap (λ (h : Heap). h.names) empty);
          nodes = none_true (λ (v : Vnode). HasNode disk.blocks v.number v.inode) (65536 / size class.Vnode) heap.vnodes (ap (λ (h : Heap). h.vnodes) empty);
        },
      ),
    )
