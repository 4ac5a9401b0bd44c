-- What is lent of one class stays so where the others change.
use Rattle.std.proofs.Common.{◌≡◌, ℕ, ◌+◌, ◌/◌, ◌<◌, ◌≤◌, List, length, min, Option, refl, sym, ap, ◌∙◌, subst, arith}
use Rattle.kabi_types.specs.Class.{size}
use Rattle.kabi_types.specs.declared.classes.Class.TheVariants as class
use Rattle.kheap_slabs.specs.Purse.{Purse}
use Rattle.kheap_slabs.specs.declared.objects.Name.{Name}
use Rattle.kheap_slabs.specs.declared.objects.Vnode.{Vnode}
use Rattle.kheap_slabs.specs.declared.objects.Block.{Block}
use Rattle.kheap_slabs.specs.Heap.{Heap}
use Rattle.kheap_slabs.specs.Paid.{AreFills, CanPay}
use Rattle.lru_index.specs.Order.{Order}
use Rattle.lru_index.specs.declared.keys.NameKey.{NameKey}
use Rattle.disk_layout.specs.Disk.{Disk}
use Rattle.posix_defs.specs.DiskFormat.{table_nodes}
use Rattle.name_cache.specs.Names.{KeepsNames}
use Rattle.block_cache.specs.Blocks.{KeepsBlocks, TrueToDisk}
use Rattle.vnode_cache.specs.Nodes.{Nodes, KeepsNodes, AreLoose}
use Rattle.cached_disk.specs.Lent.{AreLent}
use Rattle.cached_disk.specs.TreeLent.{NamesLent, NodesLent}

fills_same : {X : Type 0} (old new : List (Option X)) (had has : List ℕ) (left now need most : ℕ) → new ≡ old → has ≡ had → now ≡ left → most ≡ need → AreFills old had left need → AreFills new has now most
fills_same old new had has left now need most objects keys count whole fills =
    subst (λ o. AreFills o has now most) (sym objects) (subst (λ (k : List ℕ). AreFills old k now most) (sym keys) (subst (λ (n : ℕ). AreFills old had n most) (sym count) (subst (λ (n : ℕ). AreFills old had left n) (sym whole) fills)))

pub names_moved : (old new : Heap) (before after : Purse) (names : Order NameKey) → new.names ≡ old.names → new.heap ≡ old.heap → after.names ≡ before.names → after.left.name ≡ before.left.name → after.need ≡ before.need → NamesLent old before names → NamesLent new after names
names_moved old new before after names objects bytes fills left need lent =
    let whole : after.need.name ≡ before.need.name = ap (λ n. n.name) need in
    let long : length after.names ≡ length before.names = ap length fills in
    record {
      keeps = subst (λ (o : List (Option Name)). KeepsNames o names) (sym objects) lent.keeps;
      fills = fills_same old.names new.names before.names after.names before.left.name after.left.name before.need.name after.need.name objects fills left whole lent.fills;
      few = rw whole lent.few;
      some = omega (arith, lent.some);
      room = rw bytes lent.room;
    }

pub nodes_moved : (old new : Heap) (before after : Purse) (vnodes : Nodes) (was is : Disk) → new.vnodes ≡ old.vnodes → new.heap ≡ old.heap → after.vnodes ≡ before.vnodes → after.left.vnode ≡ before.left.vnode → after.need ≡ before.need → is.blocks ≡ was.blocks → NodesLent old before vnodes was → NodesLent new after vnodes is
nodes_moved old new before after vnodes was is objects bytes fills left need same lent =
    let whole : after.need.vnode ≡ before.need.vnode = ap (λ n. n.vnode) need in
    let long : length after.vnodes ≡ length before.vnodes = ap length fills in
    let blocks : length is.blocks ≡ length was.blocks = ap length same in
    record {
      keeps = subst (λ (o : List (Option Vnode)). KeepsNodes o vnodes) (sym objects) lent.keeps;
      fills = fills_same old.vnodes new.vnodes before.vnodes after.vnodes before.left.vnode after.left.vnode before.need.vnode after.need.vnode objects fills left whole lent.fills;
      loose = subst (λ (o : List (Option Vnode)). AreLoose o after.vnodes) (sym objects) (subst (λ (k : List ℕ). AreLoose old.vnodes k) (sym fills) lent.loose);
      few = rw whole lent.few;
      some = omega (arith, lent.some);
      room = rw (bytes, blocks) lent.room;
    }

pub blocks_moved : (old new : Heap) (before after : Purse) (cache : Order ℕ) (disk : Disk) → new.blocks ≡ old.blocks → new.heap ≡ old.heap → after.blocks ≡ before.blocks → after.left.block ≡ before.left.block → after.need ≡ before.need → CanPay new after → AreLent old before cache disk → AreLent new after cache disk
blocks_moved old new before after cache disk objects bytes fills left need pays lent =
    let whole : after.need.block ≡ before.need.block = ap (λ n. n.block) need in
    let long : length after.blocks ≡ length before.blocks = ap length fills in
    record {
      keeps = subst (λ (o : List (Option Block)). KeepsBlocks o cache) (sym objects) lent.keeps;
      true_blocks = subst (λ (o : List (Option Block)). TrueToDisk disk.blocks o) (sym objects) lent.true_blocks;
      pays = pays;
      fills = fills_same old.blocks new.blocks before.blocks after.blocks before.left.block after.left.block before.need.block after.need.block objects fills left whole lent.fills;
      few = rw whole lent.few;
      some = omega (arith, lent.some);
      room = rw bytes lent.room;
    }
