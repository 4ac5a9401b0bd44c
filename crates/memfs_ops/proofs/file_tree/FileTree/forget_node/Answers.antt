use Rattle.std.proofs.Common.{◌∙◌, cond, None, sym, ap, subst}
use Rattle.std.proofs.lemmas.Bool.{ne_eqb}
use Rattle.vnode_cache.specs.Nodes.{node_slot}
use Rattle.memfs_ops.specs.FileTree.{TreeView, Pays}
use Rattle.memfs_ops.specs.Changing.{Between}
use Rattle.memfs_ops.specs.declared.file_tree.FileTree.TheInside.{Inside}
use Rattle.memfs_ops.proofs.ForgetLemmas.{no_count, forgotten, forgotten_pays, taken_none, taken_purse}
use Rattle.memfs_ops.proofs.file_tree.FileTree.forget_node.Goals as goal

abbrev view : Inside → TreeView
view fs = record { names = fs.names; vnodes = fs.vnodes; blocks = fs.blocks; disk = fs.disk }

pub let_go-requires-clause-keeps : goal.let_go-requires-clause-keeps
let_go-requires-clause-keeps c =
    let r = c.requires.lags in
    (subst (λ (v : TreeView). Between c.args.number c.args.heap.now v r.0 r.1 r.2) (sym c.self.view_is) r.3).nodes

pub let_go-requires-clause-unpinned : goal.let_go-requires-clause-unpinned
let_go-requires-clause-unpinned c = λ pins cached.
    let r = c.requires.lags in
    let b = subst (λ (v : TreeView). Between c.args.number c.args.heap.now v r.0 r.1 r.2) (sym c.self.view_is) r.3 in
    no_count r.2 c.args.heap.now.vnodes c.self.inside.vnodes c.args.number pins b.nodes b.held r.4 cached

pub let_go-requires-clause-fills : goal.let_go-requires-clause-fills
let_go-requires-clause-fills c = c.requires.fills.vnodes

pub returns-clause-stands : goal.returns-clause-stands
returns-clause-stands c = λ told tree pins between.
    let r = c.requires.lags in
    let l = c.let_go in
    let b = subst (λ (v : TreeView). Between c.args.number c.args.heap.now v told tree pins) (sym c.self.view_is) between in
    forgotten c.args.heap.now l.new.heap c.args.purse.now l.new.purse (view c.self.inside) l.new.self c.args.number l.ensures.gone l.ensures.slots l.ensures.keeps r.2 r.3.held r.4 told tree pins b

pub returns-clause-pays : goal.returns-clause-pays
returns-clause-pays c =
    let l = c.let_go in
    subst (λ (v : TreeView). Pays c.args.heap.now l.new.heap c.args.purse.now l.new.purse v (record (view c.self.inside) { vnodes = l.new.self })) c.self.view_is
    (forgotten_pays c.args.heap.now l.new.heap c.args.purse.now l.new.purse (view c.self.inside) l.new.self c.args.number l.ensures.gone l.ensures.slots l.ensures.keeps c.requires.fills l.ensures.fills l.ensures.paid)

pub returns-clause-rest : goal.returns-clause-rest
returns-clause-rest c = ap (λ (v : TreeView). record v { vnodes = c.let_go.new.self }) c.self.view_is

pub returns-clause-purse : goal.returns-clause-purse
returns-clause-purse c =
    let l = c.let_go in
    taken_purse c.args.heap.now l.new.heap c.args.purse.now l.new.purse (view c.self.inside) l.new.self c.args.number l.ensures.gone l.ensures.slots l.ensures.keeps

pub returns-clause-same : goal.returns-clause-same
returns-clause-same c = λ none.
    let l = c.let_go in
    taken_none c.args.heap.now l.new.heap c.args.purse.now l.new.purse (view c.self.inside) l.new.self c.args.number l.ensures.gone l.ensures.slots l.ensures.keeps none

pub returns-clause-others : goal.returns-clause-others
returns-clause-others c = λ other apart.
    c.let_go.ensures.slots other ∙ ap (λ b. cond b None (node_slot c.self.inside.vnodes other)) (ne_eqb c.args.number other apart) ∙ ap (λ (v : TreeView). node_slot v.vnodes other) c.self.view_is
