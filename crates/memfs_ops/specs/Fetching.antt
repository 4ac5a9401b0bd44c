-- A call that asks for blocks alone: what it may use, and what it leaves.
use Rattle.std.specs.Prelude.{◌≡◌, ℕ, ◌+◌, ◌<◌, ◌≤◌, List, Some, length}
use Rattle.kheap_slabs.specs.Purse.{Purse}
use Rattle.kheap_slabs.specs.Heap.{Heap}
use Rattle.kheap_slabs.specs.Paid.{CanPay, HasFills}
use Rattle.posix_defs.specs.Tree.{File, Tree, node_at}
use Rattle.cached_disk.specs.Lent.{parts, GoesOn}
use Rattle.memfs_ops.specs.FileTree.{TreeView, Stands}

-- A call may ask for blocks: the heap has room for what its purse has left, which is a Block at least, or has filled one.
pub record MayFetch (heap : Heap) (purse : Purse) : Type 0 where
  pub pays : CanPay heap purse
  pub fills : HasFills heap purse
  pub few : purse.need.block ≤ 4
  pub some : 0 < purse.left.block + length purse.blocks

-- A call that reads bytes of a node has ended: for every tree and every pins that it stood for it goes on to stand; of the
-- heap the Blocks alone are other, what was made is paid for, no read is taken back, and a further call may ask for blocks.
pub record Fetches (old new : Heap) (before after : Purse) (was is : TreeView) : Type 0 where
  pub on : GoesOn (parts old before was.blocks was.disk) (parts new after is.blocks is.disk)
  pub bytes : is.disk.blocks ≡ was.disk.blocks
  pub names : is.names ≡ was.names
  pub stands : (tree : Tree) (pins : ℕ → ℕ) → Stands old was tree pins → Stands new is tree pins
  pub may : MayFetch new after

-- the node is a file
pub record IsFile (tree : Tree) (number : ℕ) : Type 0 where
  pub links : ℕ
  pub bytes : List ℕ
  pub there : node_at tree number ≡ Some (record { links = links; content = File bytes })
