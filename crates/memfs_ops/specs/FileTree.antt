-- The tree of files over three caches: what it stands for, and what a call may use.
use Rattle.std.specs.Prelude.{◌≡◌, ℕ, ◌+◌, ◌/◌, ◌<◌, ◌≤◌, cond, nat_eq, List, None, IsSome, Ok, length, min, replicate}
use Rattle.std.specs.List.{AllByRecursion}
use Rattle.kabi_types.specs.Class.{size}
use Rattle.kabi_types.specs.declared.classes.Class.TheVariants as class
use Rattle.kheap_slabs.specs.Purse.{Purse}
use Rattle.kheap_slabs.specs.Heap.{Heap}
use Rattle.kheap_slabs.specs.Paid.{CanPay, HasFills, IsPaid}
use Rattle.kabi_types.specs.declared.inodes.Inode.{Inode}
use Rattle.kheap_slabs.specs.Objects.{object, put}
use Rattle.lru_index.specs.NameKeys.{name_key}
use Rattle.posix_defs.specs.PathCalls.{node_led}
use Rattle.posix_defs.specs.Paths.{resolve}
use Rattle.posix_defs.specs.Queries.{queries_of}
use Rattle.posix_defs.specs.declared.walked.Walked.{Walked}
use Rattle.posix_defs.specs.declared.walked.Walked.TheVariants as walked
use Rattle.lru_index.specs.Order.{Order}
use Rattle.lru_index.specs.declared.keys.NameKey.{NameKey}
use Rattle.disk_layout.specs.Disk.{Disk}
use Rattle.posix_defs.specs.DiskFormat.{table_nodes}
use Rattle.posix_defs.specs.DiskTree.{StandsFor}
use Rattle.posix_defs.specs.SoundDisk.{HasNode}
use Rattle.posix_defs.specs.Tree.{Tree, root, found}
use Rattle.posix_defs.specs.IsTree.{IsTree}
use Rattle.name_cache.specs.Names.{KeepsNames, TrueNames, name_slot}
use Rattle.block_cache.specs.Blocks.{KeepsBlocks, TrueToDisk}
use Rattle.vnode_cache.specs.Nodes.{Nodes, KeepsNodes, TrueNodes, AreLoose, node_slot}
use Rattle.cached_disk.specs.TreeLent.{TreeParts, tree_parts, HasPins, TreeGoesOn, IsKnown, with_cached}

-- the orders of use of its three caches, and its disk
pub record TreeView : Type 0 where
  pub names : Order NameKey
  pub vnodes : Nodes
  pub blocks : Order ℕ
  pub disk : Disk

-- with the heap and the purse of a call
abbrev pub in_call : Heap → Purse → TreeView → TreeParts
in_call heap purse fs = tree_parts heap purse fs.names fs.vnodes fs.blocks fs.disk

-- each cache has room for as many objects as the heap, or the disk, may have
pub record HasRoom (heap : Heap) (fs : TreeView) : Type 0 where
  pub names : heap.heap / size class.Name ≤ fs.names.capacity
  pub nodes : min (heap.heap / size class.Vnode) (table_nodes (length fs.disk.blocks)) ≤ fs.vnodes.order.capacity
  pub blocks : min (heap.heap / size class.Block) (length fs.disk.blocks) ≤ fs.blocks.capacity

-- It stands for this tree, in which so many hold each node. The disk does; each cache keeps just the objects of its class,
-- and they are true: Names of the tree, Vnodes and Blocks of the disk. Who is held is cached, and the root is held.
pub record Stands (heap : Heap) (fs : TreeView) (tree : Tree) (pins : ℕ → ℕ) : Type 0 where
  pub behind : StandsFor fs.disk.blocks tree
  pub is_tree : IsTree tree
  pub names : KeepsNames heap.names fs.names
  pub nodes : KeepsNodes heap.vnodes fs.vnodes
  pub blocks : KeepsBlocks heap.blocks fs.blocks
  pub true_names : TrueNames (found tree) heap.names
  pub true_nodes : TrueNodes (HasNode fs.disk.blocks) heap.vnodes
  pub true_blocks : TrueToDisk fs.disk.blocks heap.blocks
  pub held : HasPins pins heap.vnodes
  pub root : 0 < pins root
  pub room : HasRoom heap fs

-- A call may walk: the heap has room for what its purse has left, which of each cached class is one at least, or has filled
-- one; and no one holds a Vnode that it filled.
pub record MayWalk (heap : Heap) (purse : Purse) : Type 0 where
  pub pays : CanPay heap purse
  pub fills : HasFills heap purse
  pub loose : AreLoose heap.vnodes purse.vnodes
  pub few : (purse.need.name ≤ 4) × (purse.need.vnode ≤ 4) × (purse.need.block ≤ 4)
  pub some : (0 < purse.left.name + length purse.names) × (0 < purse.left.vnode + length purse.vnodes) × (0 < purse.left.block + length purse.blocks)

-- one more holds a node
abbrev pub one_more : (ℕ → ℕ) → ℕ → ℕ → ℕ
one_more pins number other = cond (nat_eq number other) (pins other + 1) (pins other)

-- A call that looks around has ended: for every tree and every pins that it stood for it goes on to stand; the three classes
-- alone are other in the heap, what was made is paid for, no read is taken back, and a further call may walk.
pub record Looks (old new : Heap) (before after : Purse) (was is : TreeView) : Type 0 where
  pub on : TreeGoesOn (in_call old before was) (in_call new after is)
  pub stands : (tree : Tree) (pins : ℕ → ℕ) → Stands old was tree pins → Stands new is tree pins
  pub may : MayWalk new after

-- all that a walk along the path asks for is cached, and the node that it leads to
abbrev pub KnowsWay : TreeParts → Tree → ℕ → List ℕ → Type 0
KnowsWay p tree cwd path =
    AllByRecursion (IsKnown p) (queries_of tree cwd path) × ((number : ℕ) → node_led (resolve tree cwd path) ≡ Ok number → IsSome (node_slot p.vnodes number))

-- what a path led to, where that is a name, is cached: the name and the node
abbrev pub KeepsLed : TreeView → Walked → Type 0
KeepsLed fs (walked.Named parent name node slashed) = IsSome (name_slot fs.names (name_key parent name)) × IsSome (node_slot fs.vnodes node)
KeepsLed fs _ = Unit {0}

-- the last name of what a path led to is cached, also one that was free
abbrev pub KeepsLast : TreeView → Walked → Type 0
KeepsLast fs (walked.Named parent name node slashed) = IsSome (name_slot fs.names (name_key parent name))
KeepsLast fs (walked.Free parent name slashed) = IsSome (name_slot fs.names (name_key parent name))
KeepsLast fs _ = Unit {0}

-- What a call of a tree of files leaves of all else: of the heap the three classes alone are other, of the purse its counts
-- and fills of them; what was made is paid for, what was filled is there, and no read is taken back.
pub record Pays (old new : Heap) (before after : Purse) (was is : TreeView) : Type 0 where
  pub only : new ≡ record old { vnodes = new.vnodes; names = new.names; blocks = new.blocks; high = new.high }
  pub purse : after ≡ with_cached before after
  pub paid : IsPaid old before new after
  pub fills : HasFills new after
  pub reads : was.disk.reads ≤ is.disk.reads

-- the heap has no object of the three classes, and a place for each that would fill it
pub record HasNoFiles (heap : Heap) : Type 0 where
  pub names : heap.names ≡ replicate (heap.heap / size class.Name) None
  pub vnodes : heap.vnodes ≡ replicate (heap.heap / size class.Vnode) None
  pub blocks : heap.blocks ≡ replicate (heap.heap / size class.Block) None

-- one holds the root, and no one another node
abbrev pub root_alone : ℕ → ℕ
root_alone number = cond (nat_eq root number) 1 0

-- the root's Vnode was made, which one holds, and nothing else
pub record KeepsRoot (inode : Inode) (old new : Heap) : Type 0 where
  pub slot : ℕ
  pub within : slot < length old.vnodes
  pub vacant : object old.vnodes slot ≡ None
  pub heap : new ≡ record old { vnodes = put old.vnodes slot (record { number = root; inode = inode; pins = 1 }); high = new.high }

-- an inode was used: at most the order of the inodes is other
pub record IsUsed (was is : TreeView) : Type 0 where
  pub same : is ≡ record was { vnodes = is.vnodes }
  pub capacity : is.vnodes.order.capacity ≡ was.vnodes.order.capacity
  pub nodes : (number : ℕ) → node_slot is.vnodes number ≡ node_slot was.vnodes number

-- it stands for some tree, and each node may be held once more
abbrev pub StandsForSome : Heap → TreeView → Type 0
StandsForSome heap fs = (tree : Tree) × (pins : ℕ → ℕ) × Stands heap fs tree pins × ((number : ℕ) → pins number < 4294967295)

-- it stands for some tree, in which a node is held
abbrev pub HeldSome : Heap → TreeView → ℕ → Type 0
HeldSome heap fs node = (tree : Tree) × (pins : ℕ → ℕ) × Stands heap fs tree pins × (0 < pins node)
