use Rattle.std.proofs.Common.{ap, sym, subst}
use Rattle.memfs_ops.specs.FileTree.{TreeView, Stands, Pays}
use Rattle.memfs_ops.specs.declared.file_tree.FileTree.TheInside.{Inside}
use Rattle.memfs_ops.proofs.ForgetLemmas.{dropped_stands, dropped_pays}
use Rattle.memfs_ops.proofs.file_tree.FileTree.drop_blocks.Goals as goal

abbrev view : Inside → TreeView
view fs = record { names = fs.names; vnodes = fs.vnodes; blocks = fs.blocks; disk = fs.disk }

pub drop_fills-requires-clause-keeps : goal.drop_fills-requires-clause-keeps
drop_fills-requires-clause-keeps c =
    let r = c.requires.stands in
    (subst (λ (v : TreeView). Stands c.args.heap.now v r.0 r.1) (sym c.self.view_is) r.2).blocks

pub drop_fills-requires-clause-fills : goal.drop_fills-requires-clause-fills
drop_fills-requires-clause-fills c = c.requires.fills.blocks

pub returns-clause-stands : goal.returns-clause-stands
returns-clause-stands c = λ tree pins stands.
    let d = c.drop_fills in
    dropped_stands c.args.heap.now d.new.heap c.args.purse.now d.new.purse (view c.self.inside) d.new.self d.ensures.dropped d.ensures.keeps tree pins (subst (λ (v : TreeView). Stands c.args.heap.now v tree pins) (sym c.self.view_is) stands)

pub returns-clause-pays : goal.returns-clause-pays
returns-clause-pays c =
    let d = c.drop_fills in
    subst (λ (v : TreeView). Pays c.args.heap.now d.new.heap c.args.purse.now d.new.purse v (record (view c.self.inside) { blocks = d.new.self })) c.self.view_is
    (dropped_pays c.args.heap.now d.new.heap c.args.purse.now d.new.purse (view c.self.inside) d.new.self d.ensures.dropped c.requires.fills d.ensures.fills d.ensures.paid)

pub returns-clause-dropped : goal.returns-clause-dropped
returns-clause-dropped c = c.drop_fills.ensures.dropped.purse

pub returns-clause-rest : goal.returns-clause-rest
returns-clause-rest c = ap (λ (v : TreeView). record v { blocks = c.drop_fills.new.self }) c.self.view_is
