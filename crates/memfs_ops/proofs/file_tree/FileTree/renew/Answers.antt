use Rattle.std.proofs.Common.{◌≡◌, None, sym, ap, ◌∙◌, subst}
use Rattle.posix_defs.specs.SoundDisk.{HasNode}
use Rattle.vnode_cache.specs.Nodes.{Nodes, node_slot}
use Rattle.cached_disk.proofs.Filled.{no_slot}
use Rattle.memfs_ops.specs.FileTree.{TreeView}
use Rattle.memfs_ops.specs.Changing.{Between}
use Rattle.memfs_ops.specs.declared.file_tree.FileTree.TheInside.{Inside}
use Rattle.memfs_ops.proofs.ChangeLemmas.{renewed, not_cached, only_renewed, used_renewed, loose_renewed}
use Rattle.memfs_ops.proofs.file_tree.FileTree.renew.Goals as goal

abbrev view : Inside → TreeView
view fs = record { names = fs.names; vnodes = fs.vnodes; blocks = fs.blocks; disk = fs.disk }

pub set-requires-clause-keeps : goal.set-requires-clause-keeps
set-requires-clause-keeps c =
    let r = c.requires.lags in
    (subst (λ (v : TreeView). Between c.args.number c.args.heap.now v r.0 r.1 r.2) (sym c.self.view_is) r.3).nodes

pub set-requires-clause-there : goal.set-requires-clause-there
set-requires-clause-there c = c.has.ensures.0 c.if-has.true

pub returns-then-has-clause-stands : goal.returns-then-has-clause-stands
returns-then-has-clause-stands c = λ told tree pins lags.
    let l = subst (λ (v : TreeView). Between c.args.number c.args.heap.now v told tree pins) (sym c.self.view_is) lags in
    let has = subst (λ (v : TreeView). HasNode v.disk.blocks c.args.number c.args.inode.now) (sym c.self.view_is) c.requires.has in
    renewed c.args.heap.now c.set.new.heap (view c.self.inside) told tree pins c.args.number c.args.inode.now l has c.set.new.self (c.has.ensures.0 c.if-has.true) c.set.ensures.stored c.set.ensures.keeps c.set.ensures.same

pub returns-then-has-clause-only : goal.returns-then-has-clause-only
returns-then-has-clause-only c =
    let r = c.requires.lags in
    let l = subst (λ (v : TreeView). Between c.args.number c.args.heap.now v r.0 r.1 r.2) (sym c.self.view_is) r.3 in
    only_renewed c.args.heap.now c.set.new.heap c.self.inside.vnodes c.set.new.self c.args.number c.args.inode.now l.nodes (c.has.ensures.0 c.if-has.true) c.set.ensures.stored

pub returns-then-has-clause-used : goal.returns-then-has-clause-used
returns-then-has-clause-used c =
    let r = c.requires.lags in
    let l = subst (λ (v : TreeView). Between c.args.number c.args.heap.now v r.0 r.1 r.2) (sym c.self.view_is) r.3 in
    used_renewed c.args.heap.now c.set.new.heap c.self.inside.vnodes c.set.new.self c.args.number c.args.inode.now l.nodes (c.has.ensures.0 c.if-has.true) c.set.ensures.stored

pub returns-then-has-clause-loose : goal.returns-then-has-clause-loose
returns-then-has-clause-loose c =
    let r = c.requires.lags in
    let l = subst (λ (v : TreeView). Between c.args.number c.args.heap.now v r.0 r.1 r.2) (sym c.self.view_is) r.3 in
    loose_renewed c.args.heap.now c.set.new.heap c.self.inside.vnodes c.set.new.self c.args.number c.args.inode.now l.nodes (c.has.ensures.0 c.if-has.true) c.set.ensures.stored

pub returns-then-has-clause-same : goal.returns-then-has-clause-same
returns-then-has-clause-same c = ap (λ (n : Nodes). record (view c.self.inside) { vnodes = n }) c.set.ensures.same ∙ c.self.view_is

pub returns-else-has-clause-stands : goal.returns-else-has-clause-stands
returns-else-has-clause-stands c = λ told tree pins lags other.
    let l = subst (λ (v : TreeView). Between c.args.number c.args.heap.now v told tree pins) (sym c.self.view_is) lags in
    let has = subst (λ (v : TreeView). HasNode v.disk.blocks c.args.number c.args.inode.now) (sym c.self.view_is) c.requires.has in
    let none : node_slot c.self.inside.vnodes c.args.number ≡ None = no_slot (node_slot c.self.inside.vnodes c.args.number) (λ some. let is = c.has.ensures.1 some in let not = c.if-has.false in cc) in
    subst (λ (v : TreeView). Between other c.args.heap.now v told tree pins) c.self.view_is (not_cached c.args.heap.now c.args.heap.now (view c.self.inside) told tree pins c.args.number c.args.inode.now l has none other)
