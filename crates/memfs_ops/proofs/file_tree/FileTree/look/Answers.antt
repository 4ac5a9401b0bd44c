use Rattle.std.proofs.Common.{sym, subst}
use Rattle.memfs_ops.specs.FileTree.{TreeView, Stands, Looks}
use Rattle.memfs_ops.specs.declared.file_tree.FileTree.TheInside.{Inside}
use Rattle.memfs_ops.proofs.LookLemmas.{lent_of, stands_of, looks_of}
use Rattle.memfs_ops.proofs.file_tree.FileTree.look.Goals as goal

abbrev view : Inside → TreeView
view fs = record { names = fs.names; vnodes = fs.vnodes; blocks = fs.blocks; disk = fs.disk }

pub find_name-requires-clause-lent : goal.find_name-requires-clause-lent
find_name-requires-clause-lent c =
    let s = c.requires.stands in
    lent_of c.args.heap.now c.args.purse.now (view c.self.inside) s.0 s.1 (subst (λ (v : TreeView). Stands c.args.heap.now v s.0 s.1) (sym c.self.view_is) s.2) c.requires.may

pub find_name-requires-clause-stands : goal.find_name-requires-clause-stands
find_name-requires-clause-stands c =
    let s = c.requires.stands in
    (s.0, stands_of c.args.heap.now c.args.purse.now (view c.self.inside) s.0 s.1 (subst (λ (v : TreeView). Stands c.args.heap.now v s.0 s.1) (sym c.self.view_is) s.2), s.3)

pub returns-clause-value : goal.returns-clause-value
returns-clause-value c = λ tree pins stands.
    c.find_name.ensures.value tree (stands_of c.args.heap.now c.args.purse.now (view c.self.inside) tree pins (subst (λ (v : TreeView). Stands c.args.heap.now v tree pins) (sym c.self.view_is) stands))

pub returns-clause-looks : goal.returns-clause-looks
returns-clause-looks c =
    let t = c.find_name in
    let new : TreeView = record { names = t.new.names; vnodes = t.new.vnodes; blocks = t.new.blocks; disk = t.new.disk } in
    subst (λ (v : TreeView). Looks c.args.heap.now t.new.heap c.args.purse.now t.new.purse v new) c.self.view_is
    (looks_of c.args.heap.now t.new.heap c.args.purse.now t.new.purse (view c.self.inside) new t.ensures.lent t.ensures.goes_on t.ensures.stands)

pub returns-clause-kept : goal.returns-clause-kept
returns-clause-kept c = λ tree pins node stands is.
    c.find_name.ensures.asked.kept tree node (stands_of c.args.heap.now c.args.purse.now (view c.self.inside) tree pins (subst (λ (v : TreeView). Stands c.args.heap.now v tree pins) (sym c.self.view_is) stands)) is
