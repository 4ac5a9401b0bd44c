use Rattle.std.proofs.Common.{sym, ap, subst}
use Rattle.posix_defs.specs.DiskTree.{ChangesNode}
use Rattle.posix_defs.specs.SoundDisk.{HasNode}
use Rattle.memfs_node.specs.NodeOnDisk.{KeepsOthers}
use Rattle.cached_disk.specs.Lent.{parts, GoesOn}
use Rattle.memfs_ops.specs.FileTree.{TreeView}
use Rattle.memfs_ops.specs.Changing.{MidWay}
use Rattle.memfs_ops.specs.declared.file_tree.FileTree.TheInside.{Inside}
use Rattle.memfs_node.proofs.Named.{changed_others}
use Rattle.memfs_ops.specs.Entries.{edited, MayEdit, TakesFor}
use Rattle.memfs_ops.proofs.FetchLemmas.{still_may_fetch}
use Rattle.memfs_ops.proofs.StepLemmas.{lent_between, moved_between}
use Rattle.memfs_ops.proofs.file_tree.FileTree.edit_in.Goals as goal

abbrev view : Inside → TreeView
view fs = record { names = fs.names; vnodes = fs.vnodes; blocks = fs.blocks; disk = fs.disk }

pub edit_through-requires-clause-lent : goal.edit_through-requires-clause-lent
edit_through-requires-clause-lent c =
    let r = c.requires.mid in
    let mid = subst (λ (v : TreeView). MidWay c.args.heap.now v r.0 r.1 r.2) (sym c.self.view_is) r.3 in
    lent_between 0 c.args.heap.now c.args.purse.now (view c.self.inside) r.0 r.1 r.2 (mid 0) c.requires.may

pub returns-clause-names : goal.returns-clause-names
returns-clause-names c = ap (λ (v : TreeView). v.names) c.self.view_is

pub returns-clause-goes_on : goal.returns-clause-goes_on
returns-clause-goes_on c =
    let t = c.edit_through in
    subst (λ (v : TreeView). GoesOn (parts c.args.heap.now c.args.purse.now v.blocks v.disk) (parts t.new.heap t.new.purse t.new.cache t.new.disk)) c.self.view_is t.ensures.goes_on

pub returns-clause-may : goal.returns-clause-may
returns-clause-may c =
    let t = c.edit_through in
    still_may_fetch c.args.heap.now t.new.heap c.args.purse.now t.new.purse (view c.self.inside) t.new.cache t.new.disk t.ensures.goes_on t.ensures.lent c.requires.may

pub edit_through-requires-clause-stands : goal.edit_through-requires-clause-stands
edit_through-requires-clause-stands c =
    let r = c.requires.mid in
    let mid = subst (λ (v : TreeView). MidWay c.args.heap.now v r.0 r.1 r.2) (sym c.self.view_is) r.3 in
    (r.1, (mid 0).behind, r.4, subst (λ (v : TreeView). MayEdit c.args.edit.now v.disk.blocks r.1 c.args.dir c.args.inode.now) (sym c.self.view_is) r.5)

pub edit_through-requires-clause-node : goal.edit_through-requires-clause-node
edit_through-requires-clause-node c = subst (λ (v : TreeView). HasNode v.disk.blocks c.args.dir c.args.inode.now) (sym c.self.view_is) c.requires.node

pub returns-clause-between : goal.returns-clause-between
returns-clause-between c = λ told tree pins mid.
    let t = c.edit_through in
    let m = subst (λ (v : TreeView). MidWay c.args.heap.now v told tree pins) (sym c.self.view_is) mid in
    moved_between c.args.heap.now t.new.heap c.args.purse.now t.new.purse (view c.self.inside) t.new.cache t.new.disk t.ensures.goes_on t.ensures.lent c.args.dir told tree (edited c.args.edit.now tree c.args.dir) pins m
    (changed_others c.args.dir c.self.inside.disk.blocks t.new.disk.blocks t.ensures.changes) (t.ensures.stands tree (m 0).behind)

pub returns-clause-others : goal.returns-clause-others
returns-clause-others c =
    let t = c.edit_through in
    subst (λ (v : TreeView). KeepsOthers c.args.dir v.disk.blocks t.new.disk.blocks) c.self.view_is (changed_others c.args.dir c.self.inside.disk.blocks t.new.disk.blocks t.ensures.changes)

pub returns-clause-takes : goal.returns-clause-takes
returns-clause-takes c = subst (λ (v : TreeView). TakesFor c.args.edit.now v.disk.blocks c.edit_through.new.disk.blocks) c.self.view_is c.edit_through.ensures.takes

pub returns-clause-changes : goal.returns-clause-changes
returns-clause-changes c = subst (λ (v : TreeView). ChangesNode v.disk.blocks c.edit_through.new.disk.blocks c.args.dir) c.self.view_is c.edit_through.ensures.changes
