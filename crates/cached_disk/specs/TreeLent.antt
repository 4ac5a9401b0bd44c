-- What a call lends to look at the directories of a disk through three caches, and what becomes of it.
use Rattle.std.specs.Prelude.{◌≡◌, ℕ, ◌+◌, ◌/◌, ◌<◌, ◌≤◌, List, Option, Some, IsSome, length, min}
use Rattle.kabi_types.specs.Class.{size}
use Rattle.kabi_types.specs.declared.classes.Class.TheVariants as class
use Rattle.kheap_slabs.specs.Objects.{object}
use Rattle.kheap_slabs.specs.Purse.{Purse}
use Rattle.kheap_slabs.specs.declared.objects.Vnode.{Vnode}
use Rattle.kheap_slabs.specs.Heap.{Heap}
use Rattle.kheap_slabs.specs.Paid.{IsPaid}
use Rattle.lru_index.specs.NameKeys.{name_key}
use Rattle.lru_index.specs.Order.{Order}
use Rattle.lru_index.specs.declared.keys.NameKey.{NameKey}
use Rattle.posix_defs.specs.DiskFormat.{table_nodes}
use Rattle.posix_defs.specs.DiskTree.{StandsFor}
use Rattle.posix_defs.specs.SoundDisk.{HasNode}
use Rattle.posix_defs.specs.Tree.{Tree, found}
use Rattle.posix_defs.specs.IsTree.{IsTree}
use Rattle.posix_defs.specs.Queries.{Query, AskNode, AskName, AskParent}
use Rattle.name_cache.specs.Names.{KeepsNames, HasNameFills, TrueNames, name_slot}
use Rattle.block_cache.specs.Blocks.{block_slot}
use Rattle.disk_layout.specs.Disk.{Disk}
use Rattle.vnode_cache.specs.Nodes.{Nodes, KeepsNodes, TrueNodes, AreLoose, node_slot}
use Rattle.vnode_cache.specs.Calls.{HasNodeFills}
use Rattle.cached_disk.specs.Lent.{Parts, parts, AreLent}

-- a heap, a purse, what three caches have in their order of use, and the disk below them
pub record TreeParts : Type 0 where
  pub heap : Heap
  pub purse : Purse
  pub names : Order NameKey
  pub vnodes : Nodes
  pub blocks : Order ℕ
  pub disk : Disk

abbrev pub tree_parts : Heap → Purse → Order NameKey → Nodes → Order ℕ → Disk → TreeParts
tree_parts heap purse names vnodes blocks disk =
    record { heap = heap; purse = purse; names = names; vnodes = vnodes; blocks = blocks; disk = disk }

-- The cache of names keeps just the Names of the heap. The purse has a Name left, or has filled one that may go; and there
-- is room for as many as the heap has.
pub record NamesLent (heap : Heap) (purse : Purse) (names : Order NameKey) : Type 0 where
  pub keeps : KeepsNames heap.names names
  pub fills : HasNameFills heap purse
  pub few : purse.need.name ≤ 4
  pub some : 0 < purse.left.name + length purse.names
  pub room : heap.heap / size class.Name ≤ names.capacity

-- The cache of inodes keeps just the Vnodes of the heap. The purse has a Vnode left, or has filled one that may go, and no
-- one holds one that it filled; and there is room for as many as the heap and the disk have.
pub record NodesLent (heap : Heap) (purse : Purse) (vnodes : Nodes) (disk : Disk) : Type 0 where
  pub keeps : KeepsNodes heap.vnodes vnodes
  pub fills : HasNodeFills heap purse
  pub loose : AreLoose heap.vnodes purse.vnodes
  pub few : purse.need.vnode ≤ 4
  pub some : 0 < purse.left.vnode + length purse.vnodes
  pub room : min (heap.heap / size class.Vnode) (table_nodes (length disk.blocks)) ≤ vnodes.order.capacity

-- all of them belong together
pub record AllLent (heap : Heap) (purse : Purse) (names : Order NameKey) (vnodes : Nodes) (blocks : Order ℕ) (disk : Disk) : Type 0 where
  pub of_names : NamesLent heap purse names
  pub of_nodes : NodesLent heap purse vnodes disk
  pub of_blocks : AreLent heap purse blocks disk

-- The disk stands for the tree. Each Name leads where it leads in the tree, and each Vnode has the inode of its node.
pub record StandsThrough (p : TreeParts) (tree : Tree) : Type 0 where
  pub behind : StandsFor p.disk.blocks tree
  pub is_tree : IsTree tree
  pub names : TrueNames (found tree) p.heap.names
  pub nodes : TrueNodes (HasNode p.disk.blocks) p.heap.vnodes

-- So many hold each node: its Vnode says so, and who is held has one.
pub record HasPins (pins : ℕ → ℕ) (objects : List (Option Vnode)) : Type 0 where
  pub each : (slot : ℕ) (v : Vnode) → object objects slot ≡ Some v → v.pins ≡ pins v.number
  pub held : (number : ℕ) → 0 < pins number → (slot : ℕ) × (v : Vnode) × (object objects slot ≡ Some v) × (v.number ≡ number)

-- a purse with what another has left and has filled of the three classes
abbrev pub with_cached : Purse → Purse → Purse
with_cached purse other = record purse {
  left = record purse.left { vnode = other.left.vnode; name = other.left.name; block = other.left.block };
  vnodes = other.vnodes;
  names = other.names;
  blocks = other.blocks;
}

-- Calls in a row lead from the first to the second: of the heap the three classes alone are other, of the purse its counts
-- and fills of them; what was made is paid for, the disk has the bytes that it had and was read no less often, and who was
-- held is held as often.
pub record TreeGoesOn (before after : TreeParts) : Type 0 where
  pub heap : after.heap ≡ record before.heap { vnodes = after.heap.vnodes; names = after.heap.names; blocks = after.heap.blocks; high = after.heap.high }
  pub purse : after.purse ≡ with_cached before.purse after.purse
  pub paid : IsPaid before.heap before.purse after.heap after.purse
  pub capacities : (after.names.capacity ≡ before.names.capacity) × (after.vnodes.order.capacity ≡ before.vnodes.order.capacity) × (after.blocks.capacity ≡ before.blocks.capacity)
  pub bytes : after.disk.blocks ≡ before.disk.blocks
  pub reads : before.disk.reads ≤ after.disk.reads
  pub pins : (pins : ℕ → ℕ) → HasPins pins before.heap.vnodes → HasPins pins after.heap.vnodes

-- a name of a directory is cached
pub record HasName (p : TreeParts) (dir : ℕ) (name : List ℕ) : Type 0 where
  pub there : IsSome (name_slot p.names (name_key dir name))

-- At most the orders of use are other.
pub record AreReordered (before after : TreeParts) : Type 0 where
  pub heap : after.heap ≡ before.heap
  pub purse : after.purse ≡ before.purse
  pub disk : after.disk ≡ before.disk
  pub names : (key : NameKey) → name_slot after.names key ≡ name_slot before.names key
  pub nodes : (number : ℕ) → node_slot after.vnodes number ≡ node_slot before.vnodes number
  pub blocks : (number : ℕ) → block_slot after.blocks number ≡ block_slot before.blocks number

-- A node was looked at: where it is cached nothing is read, afterwards it is cached, and the names that are cached stay.
pub record NodeAsked (number : ℕ) (before after : TreeParts) : Type 0 where
  pub saved : IsSome (node_slot before.vnodes number) → AreReordered before after
  pub kept : IsSome (node_slot after.vnodes number)
  pub names : (key : NameKey) → name_slot after.names key ≡ name_slot before.names key

-- A name was looked for: where it is cached nothing is read, and a name that is there is cached afterwards.
pub record NameAsked (dir : ℕ) (name : List ℕ) (before after : TreeParts) : Type 0 where
  pub saved : IsSome (name_slot before.names (name_key dir name)) → AreReordered before after
  pub kept : (tree : Tree) (node : ℕ) → StandsThrough before tree → found tree dir name ≡ Some node → IsSome (name_slot after.names (name_key dir name))

-- what a question tells; of `..` nothing is said
abbrev pub Told : TreeParts → Query → TreeParts → Type 0
Told before (AskNode number) after = NodeAsked number before after
Told before (AskName dir name) after = NameAsked dir name before after
Told before (AskParent dir) after = Unit {0}

-- A question was asked: what was true of a tree stays true.
pub record Answered (before : TreeParts) (question : Query) (after : TreeParts) : Type 0 where
  pub stands : (tree : Tree) → StandsThrough before tree → StandsThrough after tree
  pub told : Told before question after

-- what a question asks for is cached; `..` never is
abbrev pub IsKnown : TreeParts → Query → Type 0
IsKnown p (AskNode number) = IsSome (node_slot p.vnodes number)
IsKnown p (AskName dir name) = IsSome (name_slot p.names (name_key dir name))
IsKnown p (AskParent dir) = ⊥

-- all of them belong together, and the disk stands for some tree
abbrev pub LentForSome : Heap → Purse → Order NameKey → Nodes → Order ℕ → Disk → Type 0
LentForSome heap purse names vnodes blocks disk =
    AllLent heap purse names vnodes blocks disk × ((tree : Tree) × StandsThrough (tree_parts heap purse names vnodes blocks disk) tree)
