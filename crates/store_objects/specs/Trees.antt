-- The tree of files beside the heap: who holds its nodes, what its caches keep, and for which part of a world it stands.
use Rattle.std.specs.Prelude.{ℕ, ◌≡◌, ◌==◌, if◌then◌else◌, List, [], ◌∷◌, ◌++◌, count_by, map, take}
use Rattle.std.specs.Map.{keys_of}
use Rattle.kheap_slabs.specs.Heap.{Heap}
use Rattle.lru_index.specs.declared.keys.NameKey.{NameKey}
use Rattle.memfs_ops.specs.FileTree.{TreeView, Stands}
use Rattle.posix_defs.specs.Files.State.{opened_nodes}
use Rattle.posix_defs.specs.Plain.{Plain, root}
use Rattle.posix_defs.specs.Tree.{Tree}
use Rattle.posix_defs.specs.World.{Kept, World, directories_of}
use Rattle.store_objects.specs.declared.objects.Objects.{Objects}

-- ---- who holds nodes

-- the nodes of these that aren't the root
abbrev pub but_root : List ℕ → List ℕ
but_root [] = []
but_root (node ∷ nodes) = if node == root then but_root nodes else node ∷ but_root nodes

-- Each node as often as it is held: the root by itself, those that descriptions open, and the working directories of live
-- processes. Who works in the root holds nothing more, since the root stays cached anyway.
abbrev pub held_nodes : Plain → List ℕ
held_nodes plain = root ∷ opened_nodes plain.files ++ but_root (directories_of plain.table)

-- how many hold a node beside descriptions: the root by itself, and each that works in another directory
abbrev pub others_in : Plain → ℕ → ℕ
others_in plain number = count_by (λ node. node == number) (root ∷ but_root (directories_of plain.table))

-- how many hold a node
abbrev pub pins_in : Plain → ℕ → ℕ
pins_in plain number = count_by (λ node. node == number) (held_nodes plain)

-- ---- what is kept

-- the directory and the name that a key says
abbrev pub name_in : NameKey → ℕ × List ℕ
name_in key = (key.dir, take key.len key.name)

-- what the caches keep, in the order of its last use, the coldest first
abbrev pub kept_by : TreeView → Kept
kept_by fs = record {
  names = map name_in (keys_of fs.names.pairs);
  blocks = keys_of fs.blocks.pairs;
  vnodes = keys_of fs.vnodes.order.pairs;
}

-- ---- what the tree stands for

-- with this heap it stands for some tree, of which some nodes are held
abbrev pub KeepsTree : Heap → TreeView → Type 0
KeepsTree h fs = (tree : Tree) × (pins : ℕ → ℕ) × Stands h fs tree pins

-- It stands for a world's tree, whose nodes are held as the machine holds them; its caches keep what is kept in the world, and its
-- disk was read as often as the world says.
pub record HasTree (objects : Objects) (world : World) : Type 0 where
  pub stands : Stands objects.heap objects.tree world.plain.files.tree (pins_in world.plain)
  pub kept : world.kept ≡ kept_by objects.tree
  pub reads : world.reads ≡ objects.tree.disk.reads

-- ---- what leaves it

-- the caches keep the same, in the order of its last use, and nothing was read
pub record KeptStays (old new : TreeView) : Type 0 where
  pub kept : kept_by new ≡ kept_by old
  pub reads : new.disk.reads ≡ old.disk.reads

-- the heap has the same objects of the three caches, and is as large
pub record CachesStay (old new : Heap) : Type 0 where
  pub vnodes : new.vnodes ≡ old.vnodes
  pub names : new.names ≡ old.names
  pub blocks : new.blocks ≡ old.blocks
  pub size : new.heap ≡ old.heap

-- the tree is the same with the table of names, and so is what its caches have in the heap
pub record TreeStays (old new : Objects) : Type 0 where
  pub tree : new.tree ≡ old.tree
  pub names : new.names ≡ old.names
  pub caches : CachesStay old.heap new.heap
