use Rattle.std.proofs.Common.{refl, sym, ap, subst}
use Rattle.posix_defs.specs.SoundDisk.{HasNode}
use Rattle.memfs_node.proofs.Looking.{shown}
use Rattle.vnode_cache.proofs.TrueLemmas.{read_true}
use Rattle.memfs_ops.specs.FileTree.{TreeView, Stands, IsUsed}
use Rattle.memfs_ops.specs.declared.file_tree.FileTree.TheInside.{Inside}
use Rattle.memfs_ops.proofs.PinLemmas.{held_cached, inode_cached, stands_used}
use Rattle.memfs_ops.proofs.file_tree.FileTree.held_inode.Goals as goal

abbrev view : Inside → TreeView
view fs = record { names = fs.names; vnodes = fs.vnodes; blocks = fs.blocks; disk = fs.disk }

pub get-requires : goal.get-requires
get-requires c =
    let r = c.requires in
    record { keeps = (subst (λ (v : TreeView). Stands c.args.heap.now v r.0 r.1) (sym c.self.view_is) r.2).nodes }

pub returns-clause-value : goal.returns-clause-value
returns-clause-value c = λ tree pins stands.
    let s = subst (λ (v : TreeView). Stands c.args.heap.now v tree pins) (sym c.self.view_is) stands in
    shown c.self.inside.disk.blocks tree c.args.node c.in-Some.inode s.behind (read_true (HasNode c.self.inside.disk.blocks) c.args.heap.now.vnodes c.self.inside.vnodes c.args.node c.in-Some.inode s.true_nodes s.nodes (sym c.in-Some.ensures.value))

pub returns-clause-has : goal.returns-clause-has
returns-clause-has c =
    let r = c.requires in
    let s = subst (λ (v : TreeView). Stands c.args.heap.now v r.0 r.1) (sym c.self.view_is) r.2 in
    subst (λ (v : TreeView). HasNode v.disk.blocks c.args.node c.in-Some.inode) c.self.view_is (read_true (HasNode c.self.inside.disk.blocks) c.args.heap.now.vnodes c.self.inside.vnodes c.args.node c.in-Some.inode s.true_nodes s.nodes (sym c.in-Some.ensures.value))

pub returns-clause-used : goal.returns-clause-used
returns-clause-used c =
    let new : TreeView = record (view c.self.inside) { vnodes = c.get.new.self } in
    subst (λ (v : TreeView). IsUsed v new) c.self.view_is (record { same = refl; capacity = ap (λ n. n.order.capacity) c.get.ensures.used; nodes = c.get.ensures.same })

pub returns-clause-stands : goal.returns-clause-stands
returns-clause-stands c = λ tree pins stands.
    let s = subst (λ (v : TreeView). Stands c.args.heap.now v tree pins) (sym c.self.view_is) stands in
    stands_used c.args.heap.now (view c.self.inside) c.get.new.self tree pins s c.get.ensures.keeps (ap (λ n. n.order.capacity) c.get.ensures.used)

pub unreachable-requires : goal.unreachable-requires
unreachable-requires c =
    let r = c.requires in
    let s = subst (λ (v : TreeView). Stands c.args.heap.now v r.0 r.1) (sym c.self.view_is) r.2 in
    inode_cached c.args.heap.now.vnodes c.self.inside.vnodes c.args.node s.nodes (held_cached r.1 c.args.heap.now.vnodes c.self.inside.vnodes c.args.node s.nodes s.held r.3) (sym c.in-None.ensures.value)
