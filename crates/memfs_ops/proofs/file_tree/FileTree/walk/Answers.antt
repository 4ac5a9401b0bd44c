use Rattle.std.proofs.Common.{sym, subst}
use Rattle.std.specs.List.{AllByRecursion}
use Rattle.posix_defs.specs.Queries.{queries_of}
use Rattle.cached_disk.specs.TreeLent.{AreReordered, IsKnown}
use Rattle.memfs_ops.specs.FileTree.{TreeView, in_call, Stands, Looks}
use Rattle.memfs_ops.specs.declared.file_tree.FileTree.TheInside.{Inside}
use Rattle.memfs_ops.proofs.LookLemmas.{lent_of, stands_of, looks_of}
use Rattle.memfs_ops.proofs.file_tree.FileTree.walk.Goals as goal

abbrev view : Inside → TreeView
view fs = record { names = fs.names; vnodes = fs.vnodes; blocks = fs.blocks; disk = fs.disk }

pub walk_through-requires-clause-lent : goal.walk_through-requires-clause-lent
walk_through-requires-clause-lent c =
    let s = c.requires.stands in
    lent_of c.args.heap.now c.args.purse.now (view c.self.inside) s.0 s.1 (subst (λ (v : TreeView). Stands c.args.heap.now v s.0 s.1) (sym c.self.view_is) s.2) c.requires.may

pub walk_through-requires-clause-directory : goal.walk_through-requires-clause-directory
walk_through-requires-clause-directory c =
    let s = c.requires.stands in
    (s.0, stands_of c.args.heap.now c.args.purse.now (view c.self.inside) s.0 s.1 (subst (λ (v : TreeView). Stands c.args.heap.now v s.0 s.1) (sym c.self.view_is) s.2), s.3)

pub returns-clause-resolved : goal.returns-clause-resolved
returns-clause-resolved c = λ tree pins stands.
    c.walk_through.ensures.resolved tree (stands_of c.args.heap.now c.args.purse.now (view c.self.inside) tree pins (subst (λ (v : TreeView). Stands c.args.heap.now v tree pins) (sym c.self.view_is) stands))

pub returns-clause-looks : goal.returns-clause-looks
returns-clause-looks c =
    let t = c.walk_through in
    let new : TreeView = record { names = t.new.names; vnodes = t.new.vnodes; blocks = t.new.blocks; disk = t.new.disk } in
    subst (λ (v : TreeView). Looks c.args.heap.now t.new.heap c.args.purse.now t.new.purse v new) c.self.view_is
    (looks_of c.args.heap.now t.new.heap c.args.purse.now t.new.purse (view c.self.inside) new t.ensures.lent t.ensures.goes_on t.ensures.stands)

pub returns-clause-saved : goal.returns-clause-saved
returns-clause-saved c = λ tree pins stands all.
    let t = c.walk_through in
    let new : TreeView = record { names = t.new.names; vnodes = t.new.vnodes; blocks = t.new.blocks; disk = t.new.disk } in
    let known = subst (λ (v : TreeView). AllByRecursion (IsKnown (in_call c.args.heap.now c.args.purse.now v)) (queries_of tree c.args.cwd c.args.path.now)) (sym c.self.view_is) all in
    let s = stands_of c.args.heap.now c.args.purse.now (view c.self.inside) tree pins (subst (λ (v : TreeView). Stands c.args.heap.now v tree pins) (sym c.self.view_is) stands) in
    subst (λ (v : TreeView). AreReordered (in_call c.args.heap.now c.args.purse.now v) (in_call t.new.heap t.new.purse new)) c.self.view_is (t.ensures.saved tree s known)

pub returns-clause-kept : goal.returns-clause-kept
returns-clause-kept c = λ tree pins parent name node slashed stands is.
    (c.walk_through.ensures.kept tree parent name node slashed (stands_of c.args.heap.now c.args.purse.now (view c.self.inside) tree pins (subst (λ (v : TreeView). Stands c.args.heap.now v tree pins) (sym c.self.view_is) stands)) is).there
