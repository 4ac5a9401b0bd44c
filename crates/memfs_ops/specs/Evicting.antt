-- What of the caches may go, and what has gone.
use Rattle.std.specs.Prelude.{◌≡◌, ℕ, ◌<◌}
use Rattle.kabi_types.specs.declared.entries.Cached.{Cached}
use Rattle.kabi_types.specs.declared.entries.Cached.TheVariants as cached
use Rattle.kheap_slabs.specs.Objects.{count}
use Rattle.kheap_slabs.specs.Heap.{Heap}
use Rattle.name_cache.specs.Names as names
use Rattle.block_cache.specs.Blocks as blocks
use Rattle.vnode_cache.specs.Nodes.{loose_count}
use Rattle.vnode_cache.specs.Calls as nodes
use Rattle.memfs_ops.specs.FileTree.{TreeView}

-- an object of the class is there, and if it is a Vnode no one holds it
abbrev pub MayGo : Heap → Cached → Type 0
MayGo heap cached.Name = 0 < count heap.names
MayGo heap cached.Block = 0 < count heap.blocks
MayGo heap cached.Vnode = 0 < loose_count heap.vnodes

-- of those that may go the one that was used longest ago has gone, from the heap and from its cache; all else stays
abbrev pub HasGone : Cached → Heap → Heap → TreeView → TreeView → Type 0
HasGone cached.Name old new was is = (slot : ℕ) × names.ColdestGone slot old new was.names is.names × (is ≡ record was { names = is.names })
HasGone cached.Block old new was is = (slot : ℕ) × blocks.ColdestGone slot old new was.blocks is.blocks × (is ≡ record was { blocks = is.blocks })
HasGone cached.Vnode old new was is = (slot : ℕ) × nodes.ColdestGone slot old new was.vnodes is.vnodes × (is ≡ record was { vnodes = is.vnodes })
