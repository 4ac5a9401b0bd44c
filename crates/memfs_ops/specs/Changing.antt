-- A call that changes the tree: what stands in the midst of it, and at its end.
use Rattle.std.specs.Prelude.{◌≡◌, ◌≢◌, ℕ, ◌<◌, Result, Ok, Err}
use Rattle.kabi_types.specs.declared.errnos.Errno.{Errno}
use Rattle.kheap_slabs.specs.Heap.{Heap}
use Rattle.posix_defs.specs.DiskTree.{StandsFor}
use Rattle.posix_defs.specs.SoundDisk.{HasNode}
use Rattle.posix_defs.specs.Tree.{Tree, root, found}
use Rattle.posix_defs.specs.IsTree.{IsTree}
use Rattle.name_cache.specs.Names.{KeepsNames, TrueNames}
use Rattle.block_cache.specs.Blocks.{KeepsBlocks, TrueToDisk}
use Rattle.vnode_cache.specs.Nodes.{KeepsNodes, TrueNodes}
use Rattle.cached_disk.specs.TreeLent.{HasPins}
use Rattle.memfs_ops.specs.FileTree.{TreeView, Stands, HasRoom}

-- In the midst of a change: the disk stands for this tree, of which nothing is said that every tree keeps. The names that are
-- cached lead where they led in the tree that was told; and of one node the disk may have another inode than the one that is
-- cached.
pub record Between (number : ℕ) (heap : Heap) (fs : TreeView) (told tree : Tree) (pins : ℕ → ℕ) : Type 0 where
  pub behind : StandsFor fs.disk.blocks tree
  pub names : KeepsNames heap.names fs.names
  pub nodes : KeepsNodes heap.vnodes fs.vnodes
  pub blocks : KeepsBlocks heap.blocks fs.blocks
  pub true_names : TrueNames (found told) heap.names
  pub true_others : TrueNodes (λ other inode. other ≢ number → HasNode fs.disk.blocks other inode) heap.vnodes
  pub true_blocks : TrueToDisk fs.disk.blocks heap.blocks
  pub held : HasPins pins heap.vnodes
  pub root : 0 < pins root
  pub room : HasRoom heap fs

-- the same where the names lead where they lead in this tree
abbrev pub Lags : ℕ → Heap → TreeView → Tree → (ℕ → ℕ) → Type 0
Lags number heap fs tree pins = Between number heap fs tree tree pins

-- the same where each cached inode is that of the disk
abbrev pub MidWay : Heap → TreeView → Tree → Tree → (ℕ → ℕ) → Type 0
MidWay heap fs told tree pins = (number : ℕ) → Between number heap fs told tree pins

-- The answer is the plain tree's, and it stands for the tree after it but for one node; where the answer is a fault, for
-- the tree as it was.
abbrev pub LagsAs : ℕ → Heap → TreeView → Tree → Result (ℕ × Tree) Errno → (ℕ → ℕ) → Result ℕ Errno → Type 0
LagsAs number heap fs tree (Ok (made, next)) pins answer = (answer ≡ Ok made) × IsTree next × Lags number heap fs next pins
LagsAs number heap fs tree (Err errno) pins answer = (answer ≡ Err errno) × IsTree tree × Lags number heap fs tree pins

-- The answer is the plain tree's, and it stands for the tree after it; where the answer is a fault, for the tree as it was.
abbrev pub LedTo : Heap → TreeView → Tree → Result (ℕ × Tree) Errno → (ℕ → ℕ) → Result ℕ Errno → Type 0
LedTo heap fs tree (Ok (made, next)) pins answer = (answer ≡ Ok made) × Stands heap fs next pins
LedTo heap fs tree (Err errno) pins answer = (answer ≡ Err errno) × Stands heap fs tree pins

-- the same of a call that answers nothing but whether it was done
abbrev pub DoneAs : Heap → TreeView → Tree → Result (ℕ × Tree) Errno → (ℕ → ℕ) → Result (Unit {0}) Errno → Type 0
DoneAs heap fs tree (Ok (made, next)) pins answer = (answer ≡ Ok tt) × Stands heap fs next pins
DoneAs heap fs tree (Err errno) pins answer = (answer ≡ Err errno) × Stands heap fs tree pins

-- The same of a call that answers whether it was done, in the midst of it and at its end.
abbrev pub LagsTo : ℕ → Heap → TreeView → Tree → Result Tree Errno → (ℕ → ℕ) → Result (Unit {0}) Errno → Type 0
LagsTo number heap fs tree (Ok next) pins answer = (answer ≡ Ok tt) × IsTree next × Lags number heap fs next pins
LagsTo number heap fs tree (Err errno) pins answer = (answer ≡ Err errno) × IsTree tree × Lags number heap fs tree pins

abbrev pub ChangedTo : Heap → TreeView → Tree → Result Tree Errno → (ℕ → ℕ) → Result (Unit {0}) Errno → Type 0
ChangedTo heap fs tree (Ok next) pins answer = (answer ≡ Ok tt) × Stands heap fs next pins
ChangedTo heap fs tree (Err errno) pins answer = (answer ≡ Err errno) × Stands heap fs tree pins
