use Rattle.std.proofs.Common.{IsSome, sym, ap, subst}
use Rattle.posix_defs.specs.SoundDisk.{HasNode}
use Rattle.memfs_node.proofs.Looking.{shown}
use Rattle.vnode_cache.specs.Nodes.{node_slot}
use Rattle.cached_disk.specs.TreeLent.{AreReordered}
use Rattle.memfs_ops.specs.FileTree.{TreeView, in_call, Stands, Looks}
use Rattle.memfs_ops.specs.declared.file_tree.FileTree.TheInside.{Inside}
use Rattle.memfs_ops.proofs.LookLemmas.{lent_of, stands_of, looks_of}
use Rattle.memfs_ops.proofs.file_tree.FileTree.inode.Goals as goal

abbrev view : Inside → TreeView
view fs = record { names = fs.names; vnodes = fs.vnodes; blocks = fs.blocks; disk = fs.disk }

pub find_inode-requires-clause-lent : goal.find_inode-requires-clause-lent
find_inode-requires-clause-lent c =
    let s = c.requires.stands in
    (c.self.inside.names, lent_of c.args.heap.now c.args.purse.now (view c.self.inside) s.0 s.1 (subst (λ (v : TreeView). Stands c.args.heap.now v s.0 s.1) (sym c.self.view_is) s.2) c.requires.may)

pub find_inode-requires-clause-stands : goal.find_inode-requires-clause-stands
find_inode-requires-clause-stands c =
    let s = c.requires.stands in
    (c.self.inside.names, s.0, stands_of c.args.heap.now c.args.purse.now (view c.self.inside) s.0 s.1 (subst (λ (v : TreeView). Stands c.args.heap.now v s.0 s.1) (sym c.self.view_is) s.2), s.3)

pub returns-clause-value : goal.returns-clause-value
returns-clause-value c = λ tree pins stands.
    let s = subst (λ (v : TreeView). Stands c.args.heap.now v tree pins) (sym c.self.view_is) stands in
    shown c.self.inside.disk.blocks tree c.args.number c.find_inode.result s.behind c.find_inode.ensures.has

pub returns-clause-has : goal.returns-clause-has
returns-clause-has c = subst (λ (v : TreeView). HasNode v.disk.blocks c.args.number c.find_inode.result) c.self.view_is c.find_inode.ensures.has

pub returns-clause-looks : goal.returns-clause-looks
returns-clause-looks c =
    let t = c.find_inode in
    let s = c.requires.stands in
    let names = c.self.inside.names in
    let new : TreeView = record { names = names; vnodes = t.new.vnodes; blocks = t.new.blocks; disk = t.new.disk } in
    let lent = lent_of c.args.heap.now c.args.purse.now (view c.self.inside) s.0 s.1 (subst (λ (v : TreeView). Stands c.args.heap.now v s.0 s.1) (sym c.self.view_is) s.2) c.requires.may in
    subst (λ (v : TreeView). Looks c.args.heap.now t.new.heap c.args.purse.now t.new.purse v new) c.self.view_is
    (looks_of c.args.heap.now t.new.heap c.args.purse.now t.new.purse (view c.self.inside) new (t.ensures.lent names lent) (t.ensures.goes_on names) (t.ensures.stands names))

pub returns-clause-saved : goal.returns-clause-saved
returns-clause-saved c = λ some.
    let t = c.find_inode in
    let names = c.self.inside.names in
    let new : TreeView = record { names = names; vnodes = t.new.vnodes; blocks = t.new.blocks; disk = t.new.disk } in
    let there = subst (λ (v : TreeView). IsSome (node_slot v.vnodes c.args.number)) (sym c.self.view_is) some in
    subst (λ (v : TreeView). AreReordered (in_call c.args.heap.now c.args.purse.now v) (in_call t.new.heap t.new.purse new)) c.self.view_is ((t.ensures.asked names).saved there)

pub returns-clause-kept : goal.returns-clause-kept
returns-clause-kept c = (c.find_inode.ensures.asked c.self.inside.names).kept

pub returns-clause-names : goal.returns-clause-names
returns-clause-names c = ap (λ (v : TreeView). v.names) c.self.view_is
