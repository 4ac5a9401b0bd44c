-- The tree goes on to stand where an object of a cache has gone.
use Rattle.std.proofs.Common.{◌≡◌, ℕ, ◌<◌, [], length, Option, Some, None, sym, ap, ◌∙◌, subst, arith}
use Rattle.std.specs.Prelude.{MatchOption}
use Rattle.std.specs.Option.{option_and_then}
use Rattle.kheap_slabs.specs.Objects.{object, count}
use Rattle.kheap_slabs.specs.declared.objects.Block.{Block}
use Rattle.kheap_slabs.specs.declared.objects.Name.{Name}
use Rattle.kheap_slabs.specs.declared.objects.Vnode.{Vnode}
use Rattle.kheap_slabs.specs.Heap.{Heap}
use Rattle.lru_index.specs.Order.{Order}
use Rattle.lru_index.specs.declared.keys.NameKey.{NameKey}
use Rattle.cache_laws.proofs.KeepsLemmas.{true_without}
use Rattle.posix_defs.specs.SoundDisk.{HasNode}
use Rattle.posix_defs.specs.Tree.{Tree, found}
use Rattle.name_cache.specs.Names as names
use Rattle.name_cache.specs.Names.{KeepsNames}
use Rattle.block_cache.specs.Blocks as blocks
use Rattle.block_cache.specs.Blocks.{KeepsBlocks}
use Rattle.vnode_cache.specs.Nodes.{Nodes, KeepsNodes, IsLoose, is_loose, loose_count}
use Rattle.vnode_cache.specs.Calls as calls
use Rattle.cached_disk.proofs.NodesStep.{pins_without}
use Rattle.std.specs.Prelude.{slice_get}
use Rattle.memfs_ops.specs.FileTree.{TreeView, Stands}

-- where something is there, something has gone
pub name_gone : (old new : Heap) (had has : Order NameKey) (r : Option ℕ) → KeepsNames old.names had → 0 < count old.names → MatchOption r (names.Unchanged old new had has × (had.pairs ≡ [])) (λ slot. names.ColdestGone slot old new had has) → (slot : ℕ) × names.ColdestGone slot old new had has
name_gone old new had has None keeps some gone = let none : length had.pairs ≡ 0 = ap length gone.1 in absurd (omega (arith, none, keeps.many))
name_gone old new had has (Some slot) keeps some gone = (slot, gone)

pub block_gone : (old new : Heap) (had has : Order ℕ) (r : Option ℕ) → KeepsBlocks old.blocks had → 0 < count old.blocks → MatchOption r (blocks.Unchanged old new had has × (had.pairs ≡ [])) (λ slot. blocks.ColdestGone slot old new had has) → (slot : ℕ) × blocks.ColdestGone slot old new had has
block_gone old new had has None keeps some gone = let none : length had.pairs ≡ 0 = ap length gone.1 in absurd (omega (arith, none, keeps.many))
block_gone old new had has (Some slot) keeps some gone = (slot, gone)

pub node_gone : (old new : Heap) (had has : Nodes) (r : Option ℕ) → 0 < loose_count old.vnodes → MatchOption r (calls.Unchanged old new had has × (loose_count old.vnodes ≡ 0)) (λ slot. calls.ColdestGone slot old new had has) → (slot : ℕ) × calls.ColdestGone slot old new had has
node_gone old new had has None some gone = absurd (omega (arith, gone.1, some))
node_gone old new had has (Some slot) some gone = (slot, gone)

module _ (old new : Heap) (fs : TreeView) (tree : Tree) (pins : ℕ → ℕ) (stands : Stands old fs tree pins) where
  pub without_name : (slot : ℕ) (has : Order NameKey) → names.ColdestGone slot old new fs.names has → KeepsNames new.names has → Stands new (record fs { names = has }) tree pins
  without_name slot has gone keeps = subst (λ (h : Heap). Stands h (record fs { names = has }) tree pins) (sym gone.heap) (record {
    behind = stands.behind;
    is_tree = stands.is_tree;
    names = subst (λ (h : Heap). KeepsNames h.names has) gone.heap keeps;
    nodes = stands.nodes;
    blocks = stands.blocks;
    true_names = true_without (λ (n : Name). found tree n.dir n.name ≡ Some n.node) old.names slot stands.true_names;
    true_nodes = stands.true_nodes;
    true_blocks = stands.true_blocks;
    held = stands.held;
    root = stands.root;
    room = record { names = rw gone.capacity stands.room.names; nodes = stands.room.nodes; blocks = stands.room.blocks };
  })

  pub without_block : (slot : ℕ) (has : Order ℕ) → blocks.ColdestGone slot old new fs.blocks has → KeepsBlocks new.blocks has → Stands new (record fs { blocks = has }) tree pins
  without_block slot has gone keeps = subst (λ (h : Heap). Stands h (record fs { blocks = has }) tree pins) (sym gone.heap) (record {
    behind = stands.behind;
    is_tree = stands.is_tree;
    names = stands.names;
    nodes = stands.nodes;
    blocks = subst (λ (h : Heap). KeepsBlocks h.blocks has) gone.heap keeps;
    true_names = stands.true_names;
    true_nodes = stands.true_nodes;
    true_blocks = true_without (λ (b : Block). slice_get fs.disk.blocks b.number ≡ Some b.bytes) old.blocks slot stands.true_blocks;
    held = stands.held;
    root = stands.root;
    room = record { names = stands.room.names; nodes = stands.room.nodes; blocks = rw gone.capacity stands.room.blocks };
  })

  pub without_node : (slot : ℕ) (has : Nodes) → calls.ColdestGone slot old new fs.vnodes has → KeepsNodes new.vnodes has → Stands new (record fs { vnodes = has }) tree pins
  without_node slot has cold keeps =
      let gone = cold.gone in
      let capacity : has.order.capacity ≡ fs.vnodes.order.capacity = ap (λ (n : Nodes). n.order.capacity) gone.cache in
      let loose : IsLoose old.vnodes slot = ap (λ o. is_loose (option_and_then (object old.vnodes) o)) (sym gone.there) ∙ cold.coldest.loose in
      subst (λ (h : Heap). Stands h (record fs { vnodes = has }) tree pins) (sym gone.heap) (record {
        behind = stands.behind;
        is_tree = stands.is_tree;
        names = stands.names;
        nodes = subst (λ (h : Heap). KeepsNodes h.vnodes has) gone.heap keeps;
        blocks = stands.blocks;
        true_names = stands.true_names;
        true_nodes = true_without (λ (v : Vnode). HasNode fs.disk.blocks v.number v.inode) old.vnodes slot stands.true_nodes;
        true_blocks = stands.true_blocks;
        held = pins_without pins old.vnodes slot loose stands.held;
        root = stands.root;
        room = record { names = stands.room.names; nodes = rw capacity stands.room.nodes; blocks = stands.room.blocks };
      })
