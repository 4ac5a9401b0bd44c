-- What stands between two stats.
use Rattle.std.specs.Prelude.{◌≡◌, ℕ, true}
use Rattle.kheap_slabs.specs.Heap.{Heap}
use Rattle.posix_defs.specs.Tree.{Tree, is_directory}
use Rattle.memfs_ops.specs.FileTree.{TreeView, Stands}

-- it stands for some tree, whose root is a directory
abbrev pub StandsForSome : Heap → TreeView → Type 0
StandsForSome heap fs = (tree : Tree) × (pins : ℕ → ℕ) × Stands heap fs tree pins × (is_directory tree 1 ≡ true)
