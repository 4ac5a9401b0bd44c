use Rattle.std.proofs.Common.{◌+◌, sym, ap, ◌∙◌, subst}
use Rattle.posix_defs.specs.SoundDisk.{HasNode}
use Rattle.memfs_node.specs.NodeOnDisk.{KeepsOthers}
use Rattle.cached_disk.specs.Lent.{parts, GoesOn}
use Rattle.memfs_ops.specs.FileTree.{TreeView}
use Rattle.memfs_ops.specs.Changing.{MidWay}
use Rattle.memfs_ops.specs.declared.file_tree.FileTree.TheInside.{Inside}
use Rattle.posix_defs.specs.SoundDisk.{free_in_map}
use Rattle.posix_defs.specs.TreeChanges.{link_added}
use Rattle.memfs_node.proofs.Named.{changed_others}
use Rattle.memfs_node.proofs.OnTree.{added_in_tree}
use Rattle.memfs_ops.proofs.FetchLemmas.{still_may_fetch}
use Rattle.memfs_ops.proofs.StepLemmas.{lent_between, moved_between, retagged_node}
use Rattle.blk_map.specs.Named.{TakesNone}
use Rattle.blk_map.proofs.Taken.{same_takes_none}
use Rattle.memfs_ops.proofs.file_tree.FileTree.add_in.Goals as goal

abbrev view : Inside → TreeView
view fs = record { names = fs.names; vnodes = fs.vnodes; blocks = fs.blocks; disk = fs.disk }

pub add_through-requires-clause-lent : goal.add_through-requires-clause-lent
add_through-requires-clause-lent c =
    let r = c.requires.mid in
    let mid = subst (λ (v : TreeView). MidWay c.args.heap.now v r.0 r.1 r.2) (sym c.self.view_is) r.3 in
    lent_between 0 c.args.heap.now c.args.purse.now (view c.self.inside) r.0 r.1 r.2 (mid 0) c.requires.may

pub returns-clause-names : goal.returns-clause-names
returns-clause-names c = ap (λ (v : TreeView). v.names) c.self.view_is

pub returns-clause-goes_on : goal.returns-clause-goes_on
returns-clause-goes_on c =
    let t = c.add_through in
    subst (λ (v : TreeView). GoesOn (parts c.args.heap.now c.args.purse.now v.blocks v.disk) (parts t.new.heap t.new.purse t.new.cache t.new.disk)) c.self.view_is t.ensures.goes_on

pub returns-clause-may : goal.returns-clause-may
returns-clause-may c =
    let t = c.add_through in
    still_may_fetch c.args.heap.now t.new.heap c.args.purse.now t.new.purse (view c.self.inside) t.new.cache t.new.disk t.ensures.goes_on t.ensures.lent c.requires.may

pub add_through-requires-clause-sound : goal.add_through-requires-clause-sound
add_through-requires-clause-sound c =
    let r = c.requires.mid in
    (subst (λ (v : TreeView). MidWay c.args.heap.now v r.0 r.1 r.2) (sym c.self.view_is) r.3 0).behind.sound

pub add_through-requires-clause-node : goal.add_through-requires-clause-node
add_through-requires-clause-node c = subst (λ (v : TreeView). HasNode v.disk.blocks c.args.number c.args.inode.now) (sym c.self.view_is) c.requires.node

pub returns-clause-between : goal.returns-clause-between
returns-clause-between c = λ told tree pins mid.
    let t = c.add_through in
    let m = subst (λ (v : TreeView). MidWay c.args.heap.now v told tree pins) (sym c.self.view_is) mid in
    let has = subst (λ (v : TreeView). HasNode v.disk.blocks c.args.number c.args.inode.now) (sym c.self.view_is) c.requires.node in
    moved_between c.args.heap.now t.new.heap c.args.purse.now t.new.purse (view c.self.inside) t.new.cache t.new.disk t.ensures.goes_on t.ensures.lent c.args.number told tree (link_added tree c.args.number) pins m
    (changed_others c.args.number c.self.inside.disk.blocks t.new.disk.blocks t.ensures.links.changes)
    (added_in_tree c.self.inside.disk.blocks t.new.disk.blocks tree c.args.number c.args.inode.now t.new.inode (m 0).behind has t.ensures.links)

pub returns-clause-node : goal.returns-clause-node
returns-clause-node c =
    let t = c.add_through in
    let has = subst (λ (v : TreeView). HasNode v.disk.blocks c.args.number c.args.inode.now) (sym c.self.view_is) c.requires.node in
    retagged_node c.args.number (c.args.inode.now.nlink + 1) c.self.inside.disk.blocks t.new.disk.blocks c.args.inode.now t.new.inode has t.ensures.links

pub returns-clause-others : goal.returns-clause-others
returns-clause-others c =
    let t = c.add_through in
    subst (λ (v : TreeView). KeepsOthers c.args.number v.disk.blocks t.new.disk.blocks) c.self.view_is (changed_others c.args.number c.self.inside.disk.blocks t.new.disk.blocks t.ensures.links.changes)

pub returns-clause-free : goal.returns-clause-free
returns-clause-free c = c.add_through.ensures.links.free ∙ ap (λ (v : TreeView). free_in_map v.disk.blocks) c.self.view_is

pub returns-clause-takes_none : goal.returns-clause-takes_none
returns-clause-takes_none c =
    let t = c.add_through in
    subst (λ (v : TreeView). TakesNone v.disk.blocks t.new.disk.blocks) c.self.view_is (same_takes_none c.self.inside.disk.blocks t.new.disk.blocks t.ensures.links.map)
