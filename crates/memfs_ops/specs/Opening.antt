-- What an open asks of the tree, and what it leads to.
use Rattle.std.specs.Prelude.{◌≡◌, ℕ, Bool, if◌then◌else◌, Option, None, Some, IsSome, Result, Ok, Err}
use Rattle.kabi_types.specs.declared.errnos.Errno.{Errno}
use Rattle.kheap_slabs.specs.Heap.{Heap}
use Rattle.posix_defs.specs.FileBytes.{resized}
use Rattle.posix_defs.specs.PathCalls as calls
use Rattle.posix_defs.specs.Tree.{Tree}
use Rattle.posix_defs.specs.TreeChanges.{with_bytes}
use Rattle.posix_defs.specs.declared.walked.Walked.{Walked}
use Rattle.vnode_cache.specs.Nodes.{node_slot}
use Rattle.memfs_ops.specs.declared.opening.Opening.{Opening}
use Rattle.memfs_ops.specs.FileTree.{TreeView, Stands, KeepsLast, one_more}

-- the same of the plain tree
abbrev pub asks_of : Opening → calls.Opening
asks_of how = record { writes = how.writes; creates = how.creates; excludes = how.excludes; truncates = how.truncates }

-- the tree in which all bytes of a file are taken from it, where that is asked
abbrev pub cut_tree : Tree → ℕ → Bool → Tree
cut_tree tree number asked = if asked then with_bytes tree number (resized 0) else tree

-- a fault, else what follows
abbrev pub unless_fault : Option Errno → Result (ℕ × Tree) Errno → Result (ℕ × Tree) Errno
unless_fault None led = led
unless_fault (Some errno) led = Err errno

-- The answer is the plain tree's node, which one more holds, and it stands for the tree after it; where the answer is a
-- fault, for the tree as it was.
abbrev pub OpenedAs : Heap → TreeView → Tree → Result (ℕ × Tree) Errno → (ℕ → ℕ) → Result ℕ Errno → Type 0
OpenedAs heap fs tree (Ok (number, next)) pins answer = (answer ≡ Ok number) × Stands heap fs next (one_more pins number)
OpenedAs heap fs tree (Err errno) pins answer = (answer ≡ Err errno) × Stands heap fs tree pins

-- what was opened is cached: the last name of its path, also one that was made, and the node
abbrev pub KeepsOpened : TreeView → Walked → Result ℕ Errno → Type 0
KeepsOpened fs led (Ok number) = KeepsLast fs led × IsSome (node_slot fs.vnodes number)
KeepsOpened fs led (Err errno) = Unit {0}
