-- Who holds a node lets it go: what is left of the tree, and who holds what then.
use Rattle.std.specs.Prelude.{◌≡◌, ℕ, ◌-◌, ◌<◌, ◌≤◌, ◌==◌, if◌then◌else◌, cond, nat_eq, IsSome}
use Rattle.kabi_types.specs.declared.inodes.Inode.{Inode}
use Rattle.kheap_slabs.specs.Purse.{Purse}
use Rattle.kheap_slabs.specs.Heap.{Heap}
use Rattle.posix_defs.specs.SoundDisk.{HasNode}
use Rattle.posix_defs.specs.Tree.{Tree, links_at, root}
use Rattle.posix_defs.specs.TreeChanges.{closed}
use Rattle.vnode_cache.specs.Nodes.{node_slot}
use Rattle.memfs_ops.specs.FileTree.{TreeView, Stands}
use Rattle.memfs_ops.specs.Fetching.{MayFetch}

-- one less holds a node
abbrev pub one_less : (ℕ → ℕ) → ℕ → ℕ → ℕ
one_less pins number other = cond (nat_eq number other) (pins other - 1) (pins other)

-- the tree after one less holds a node: without links it goes with the last that holds it
abbrev pub left_tree : Tree → (ℕ → ℕ) → ℕ → Tree
left_tree tree pins number = if pins number == 1 then closed tree number else tree

-- a node goes where one less holds it: only one does, and no name leads to it
pub record GoesThen (tree : Tree) (pins : ℕ → ℕ) (number : ℕ) : Type 0 where
  pub last : pins number ≡ 1
  pub links : links_at tree number ≡ 0

-- a call may free a node: it may ask for blocks, and counts what it filled
pub record MayFree (heap : Heap) (purse : Purse) : Type 0 where
  pub fetch : MayFetch heap purse
  pub few : purse.need.vnode ≤ 4

-- it stands for some tree, in which a node is held that may be let go: the root stays held
pub record HeldToClose (heap : Heap) (purse : Purse) (fs : TreeView) (node : ℕ) : Type 0 where
  pub tree : Tree
  pub pins : ℕ → ℕ
  pub stands : Stands heap fs tree pins
  pub held : 0 < pins node
  pub root_stays : 0 < one_less pins node root
  pub may : GoesThen tree pins node → MayFree heap purse

-- ---- what stays cached

-- the disk has a node of this number
abbrev pub IsOnDisk : TreeView → ℕ → Type 0
IsOnDisk fs number = (inode : Inode) × HasNode fs.disk.blocks number inode

-- Where nodes are let go, the caches keep all names, and of the nodes that they had each that is there still. No node comes that
-- wasn't there.
pub record KeepsCached (was is : TreeView) : Type 0 where
  pub names : is.names ≡ was.names
  pub there : (number : ℕ) → IsOnDisk is number → IsOnDisk was number
  pub nodes : (number : ℕ) → IsOnDisk is number → IsSome (node_slot was.vnodes number) → IsSome (node_slot is.vnodes number)
