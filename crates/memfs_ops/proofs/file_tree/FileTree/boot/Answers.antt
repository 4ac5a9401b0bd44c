use Rattle.std.proofs.Common.{◌≡◌, ℕ, length, ap, ◌∙◌, subst, arith}
use Rattle.kabi_types.specs.declared.inodes.Inode.{Inode}
use Rattle.lru_index.specs.Order.{Order}
use Rattle.lru_index.specs.declared.keys.NameKey.{NameKey}
use Rattle.vnode_cache.specs.Nodes.{Nodes}
use Rattle.memfs_ops.specs.FileTree.{TreeView, HasRoom, KeepsRoot}
use Rattle.memfs_ops.proofs.BootLemmas.{boot_stands}
use Rattle.memfs_ops.proofs.file_tree.FileTree.boot.Goals as goal

pub returns-clause-stands : goal.returns-clause-stands
returns-clause-stands c =
    let old = c.args.heap.now in
    let disk = c.in_ok-disk.disk in
    let fs : TreeView = record { names = c.in_ok-names.names; vnodes = c.hold_root.new.vnodes; blocks = c.in_ok-cache.cache; disk = disk } in
    let names : c.in_ok-names.names.capacity ≡ c.room_for-name_count.result = ap (λ (o : Order NameKey). o.capacity) c.in_ok-names.ensures.empty in
    let nodes : c.hold_root.new.vnodes.order.capacity ≡ c.room_for-node_count.result = c.hold_root.ensures.capacity ∙ ap (λ (n : Nodes). n.order.capacity) c.in_ok-vnodes.ensures.empty in
    let blocks : c.in_ok-cache.cache.capacity ≡ c.room_for-block_count.result = ap (λ (o : Order ℕ). o.capacity) c.in_ok-cache.ensures.empty in
    let long : length disk.blocks ≡ c.args.blocks = c.in_ok-disk.ensures.formatted.count in
    let room : HasRoom old fs = record {
      names = omega (arith, names, c.room_for-name_count.ensures.count, c.room_for-name_count.ensures.limit);
      nodes = omega (arith, nodes, c.room_for-node_count.ensures.count, long);
      blocks = omega (arith, blocks, c.room_for-block_count.ensures.count, long);
    } in
    let keeps = subst (λ (i : Inode). KeepsRoot i old c.hold_root.new.heap) c.root_of-root.ensures c.hold_root.ensures.root in
    boot_stands c.args.blocks old c.hold_root.new.heap fs c.room_for-name_count.result c.room_for-block_count.result c.requires.blocks.0 c.requires.blocks.1 c.requires.empty keeps
    c.in_ok-disk.ensures.formatted c.in_ok-disk.ensures.root c.in_ok-disk.ensures.tree c.in_ok-names.ensures.empty c.hold_root.ensures.keeps c.in_ok-cache.ensures.empty room

pub returns-clause-root : goal.returns-clause-root
returns-clause-root c = subst (λ (i : Inode). KeepsRoot i c.args.heap.now c.hold_root.new.heap) c.root_of-root.ensures c.hold_root.ensures.root
