use Rattle.std.proofs.Common.{sym, subst}
use Rattle.memfs_ops.specs.FileTree.{TreeView, Stands, Looks}
use Rattle.memfs_ops.specs.declared.file_tree.FileTree.TheInside.{Inside}
use Rattle.memfs_ops.proofs.LookLemmas.{lent_of, stands_of, looks_of}
use Rattle.memfs_ops.proofs.file_tree.FileTree.parent.Goals as goal

abbrev view : Inside → TreeView
view fs = record { names = fs.names; vnodes = fs.vnodes; blocks = fs.blocks; disk = fs.disk }

pub find_parent-requires-clause-lent : goal.find_parent-requires-clause-lent
find_parent-requires-clause-lent c =
    let s = c.requires.stands in
    (c.self.inside.names, lent_of c.args.heap.now c.args.purse.now (view c.self.inside) s.0 s.1 (subst (λ (v : TreeView). Stands c.args.heap.now v s.0 s.1) (sym c.self.view_is) s.2) c.requires.may)

pub find_parent-requires-clause-stands : goal.find_parent-requires-clause-stands
find_parent-requires-clause-stands c =
    let s = c.requires.stands in
    (c.self.inside.names, s.0, stands_of c.args.heap.now c.args.purse.now (view c.self.inside) s.0 s.1 (subst (λ (v : TreeView). Stands c.args.heap.now v s.0 s.1) (sym c.self.view_is) s.2), s.3)

pub returns-clause-value : goal.returns-clause-value
returns-clause-value c = λ tree pins stands.
    c.find_parent.ensures.value c.self.inside.names tree (stands_of c.args.heap.now c.args.purse.now (view c.self.inside) tree pins (subst (λ (v : TreeView). Stands c.args.heap.now v tree pins) (sym c.self.view_is) stands))

pub returns-clause-looks : goal.returns-clause-looks
returns-clause-looks c =
    let t = c.find_parent in
    let s = c.requires.stands in
    let names = c.self.inside.names in
    let new : TreeView = record { names = names; vnodes = t.new.vnodes; blocks = t.new.blocks; disk = t.new.disk } in
    let lent = lent_of c.args.heap.now c.args.purse.now (view c.self.inside) s.0 s.1 (subst (λ (v : TreeView). Stands c.args.heap.now v s.0 s.1) (sym c.self.view_is) s.2) c.requires.may in
    subst (λ (v : TreeView). Looks c.args.heap.now t.new.heap c.args.purse.now t.new.purse v new) c.self.view_is
    (looks_of c.args.heap.now t.new.heap c.args.purse.now t.new.purse (view c.self.inside) new (t.ensures.lent names lent) (t.ensures.goes_on names) (t.ensures.stands names))
