-- The tree of files goes on where its caches have the same in the heap, and the machine has the same tree, whose nodes are held as
-- before.
use Rattle.std.proofs.Common.{◌≡◌, ℕ, ◌+◌, ◌<◌, ◌==◌, List, ◌∷◌, ◌++◌, ap, sym, ◌∙◌, subst}
use Rattle.std.specs.Prelude.{count_by}
use Rattle.kabi_types.specs.declared.scripts.Script.{Script}
use Rattle.kheap_slabs.specs.Heap.{Heap}
use Rattle.block_cache.specs.Blocks.{KeepsBlocks, TrueToDisk}
use Rattle.name_cache.specs.Names.{KeepsNames, TrueNames}
use Rattle.vnode_cache.specs.Nodes.{KeepsNodes, TrueNodes}
use Rattle.cached_disk.specs.TreeLent.{HasPins}
use Rattle.memfs_ops.specs.FileTree.{HasRoom, Stands, TreeView}
use Rattle.posix_defs.specs.Files.State.{opened_nodes}
use Rattle.posix_defs.specs.Plain.{Plain, root}
use Rattle.posix_defs.specs.SoundDisk.{HasNode}
use Rattle.posix_defs.specs.Tree.{Tree, found}
use Rattle.posix_defs.specs.Process.{Table}
use Rattle.posix_defs.specs.World.{World, directories_of}
use Rattle.proc_files.specs.Holders.{holders, openings}
use Rattle.proc_table.specs.Standing.{IsTable}
use Rattle.store_objects.specs.declared.objects.Objects.{Objects}
use Rattle.store_objects.specs.Objects.{procs_of}
use Rattle.store_objects.specs.Standing.{StandsFor}
use Rattle.store_objects.specs.Trees.{CachesStay, HasTree, KeepsTree, TreeStays, but_root, held_nodes, kept_by, others_in, pins_in}
use Rattle.store_objects.specs.Working.{AreDirectories, directories_in}
use Rattle.store_objects.proofs.HeldNodes.{pins_split}
use Rattle.store_objects.proofs.WorkPlaces.{directories_from, others_by}

-- over a heap that is as large, and has the same of the three classes
pub stands_on : (old new : Heap) (fs : TreeView) (tree : Tree) (pins : ℕ → ℕ) → CachesStay old new → Stands old fs tree pins → Stands new fs tree pins
stands_on old new fs tree pins stay stands = record {
  behind = stands.behind;
  is_tree = stands.is_tree;
  names = subst (λ objects. KeepsNames objects fs.names) (sym stay.names) stands.names;
  nodes = subst (λ objects. KeepsNodes objects fs.vnodes) (sym stay.vnodes) stands.nodes;
  blocks = subst (λ objects. KeepsBlocks objects fs.blocks) (sym stay.blocks) stands.blocks;
  true_names = subst (TrueNames (found tree)) (sym stay.names) stands.true_names;
  true_nodes = subst (TrueNodes (HasNode fs.disk.blocks)) (sym stay.vnodes) stands.true_nodes;
  true_blocks = subst (TrueToDisk fs.disk.blocks) (sym stay.blocks) stands.true_blocks;
  held = subst (HasPins pins) (sym stay.vnodes) stands.held;
  root = stands.root;
  room = room_on old new fs stay.size stands.room;
}
  where
    room_on : (old new : Heap) (fs : TreeView) → new.heap ≡ old.heap → HasRoom old fs → HasRoom new fs
    room_on old new fs size room = record { names = rw size room.names; nodes = rw size room.nodes; blocks = rw size room.blocks }

-- where as many hold each node
pub same_pins : (h : Heap) (fs : TreeView) (tree : Tree) (pins now : ℕ → ℕ) → ((number : ℕ) → pins number ≡ now number) → Stands h fs tree pins → Stands h fs tree now
same_pins h fs tree pins now same stands = record {
  behind = stands.behind;
  is_tree = stands.is_tree;
  names = stands.names;
  nodes = stands.nodes;
  blocks = stands.blocks;
  true_names = stands.true_names;
  true_nodes = stands.true_nodes;
  true_blocks = stands.true_blocks;
  held = record {
    each = λ slot v there. stands.held.each slot v there ∙ same v.number;
    held = λ number some. stands.held.held number (subst (λ n. 0 < n) (sym (same number)) some);
  };
  root = subst (λ n. 0 < n) (same root) stands.root;
  room = stands.room;
}

-- it is kept for some tree
pub caches_on : (old new : Heap) (fs now : TreeView) → now ≡ fs → CachesStay old new → KeepsTree old fs → KeepsTree new now
caches_on old new fs now same stay keeps =
    subst (KeepsTree new) (sym same) (keeps.0, keeps.1, stands_on old new fs keeps.0 keeps.1 stay keeps.2)

pub tree_kept : (old new : Objects) → TreeStays old new → KeepsTree old.heap old.tree → KeepsTree new.heap new.tree
tree_kept old new stays keeps = caches_on old.heap new.heap old.tree new.tree stays.tree stays.caches keeps

abbrev counted : ℕ → List ℕ → ℕ
counted number nodes = count_by (λ node. node == number) nodes

-- The tree of a world, where another world has the same of it.
pub tree_on : (old new : Objects) (world next : World) → TreeStays old new → next.plain.files.tree ≡ world.plain.files.tree
    → held_nodes next.plain ≡ held_nodes world.plain → next.kept ≡ world.kept → next.reads ≡ world.reads → HasTree old world → HasTree new next
tree_on old new world next stays tree held kept reads has = record {
  stands =
      subst (λ (fs : TreeView). Stands new.heap fs next.plain.files.tree (pins_in next.plain)) (sym stays.tree)
      (subst (λ (t : Tree). Stands new.heap old.tree t (pins_in next.plain)) (sym tree)
      (same_pins new.heap old.tree world.plain.files.tree (pins_in world.plain) (pins_in next.plain) (λ number. ap (counted number) (sym held))
      (stands_on old.heap new.heap old.tree world.plain.files.tree (pins_in world.plain) stays.caches has.stands)));
  kept = kept ∙ has.kept ∙ ap kept_by (sym stays.tree);
  reads = reads ∙ has.reads ∙ ap (λ (fs : TreeView). fs.disk.reads) (sym stays.tree);
}

-- what goes on is transitive
pub caches_then : (old mid new : Heap) → CachesStay old mid → CachesStay mid new → CachesStay old new
caches_then old mid new first then = record {
  vnodes = then.vnodes ∙ first.vnodes;
  names = then.names ∙ first.names;
  blocks = then.blocks ∙ first.blocks;
  size = then.size ∙ first.size;
}

pub tree_then : (old mid new : Objects) → TreeStays old mid → TreeStays mid new → TreeStays old new
tree_then old mid new first then = record { tree = then.tree ∙ first.tree; names = then.names ∙ first.names; caches = caches_then old.heap mid.heap new.heap first.caches then.caches }

-- ---- who works where

-- others than descriptions hold nodes as the machine says
pub others_held : (objects : Objects) (plain : Plain) → IsTable objects.heap objects.procs plain.table → (number : ℕ) → others_in plain number ≡ others_by (procs_of objects) number
others_held objects plain is number = ap (λ nodes. counted number (root ∷ but_root nodes)) (directories_from is.present)

-- so each node is held by descriptions that open it, and by who works in it
pub held_by_procs : (objects : Objects) (plain : Plain) → IsTable objects.heap objects.procs plain.table → (number : ℕ)
    → pins_in plain number ≡ holders (others_by (procs_of objects)) plain.files number
held_by_procs objects plain is number = pins_split plain number ∙ ap (λ others. others + openings plain.files number) (others_held objects plain is number)

-- the processes in the heap work in directories as the machine's do
pub works_in : (objects : Objects) (tree : Tree) (table : Table) → IsTable objects.heap objects.procs table → AreDirectories tree (directories_of table) → AreDirectories tree (directories_in (procs_of objects))
works_in objects tree table is works = subst (AreDirectories tree) (directories_from is.present) works

-- and the other way round
pub works_worked : (objects : Objects) (tree : Tree) (table : Table) → IsTable objects.heap objects.procs table → AreDirectories tree (directories_in (procs_of objects)) → AreDirectories tree (directories_of table)
works_worked objects tree table is works = subst (AreDirectories tree) (sym (directories_from is.present)) works

-- so the tree goes on with each step that leaves it, which nodes are open, who works where, what is kept and the reads
pub tree_goes_on : (script : Script) (old new : Objects) (world next : World) → StandsFor script old world → opened_nodes next.plain.files ≡ opened_nodes world.plain.files
    → directories_of next.plain.table ≡ directories_of world.plain.table → TreeStays old new → next.plain.files.tree ≡ world.plain.files.tree → next.kept ≡ world.kept → next.reads ≡ world.reads
    → HasTree new next
tree_goes_on script old new world next stands opens works stays tree same reads =
    tree_on old new world next stays tree
    (ap (λ opened. root ∷ opened ++ but_root (directories_of next.plain.table)) opens ∙ ap (λ nodes. root ∷ opened_nodes world.plain.files ++ but_root nodes) works)
    same reads stands.tree

-- and everybody works in a directory of it still
pub works_on : (plain next : Plain) → next.files.tree ≡ plain.files.tree → directories_of next.table ≡ directories_of plain.table
    → AreDirectories plain.files.tree (directories_of plain.table) → AreDirectories next.files.tree (directories_of next.table)
works_on plain next tree same works =
    subst (λ (t : Tree). AreDirectories t (directories_of next.table)) (sym tree) (subst (AreDirectories plain.files.tree) (sym same) works)
