use Rattle.std.proofs.Common.{◌≡◌, None, ap, sym, ◌∙◌, subst}
use Rattle.lru_index.specs.declared.keys.NameKey.{NameKey}
use Rattle.name_cache.specs.Names.{name_slot}
use Rattle.name_cache.proofs.KeyLemmas.{key_itself}
use Rattle.memfs_ops.specs.FileTree.{TreeView, Stands, Looks}
use Rattle.memfs_ops.specs.declared.file_tree.FileTree.TheInside.{Inside}
use Rattle.memfs_ops.proofs.ForgetLemmas.{name_gone, still_none, name_looks}
use Rattle.memfs_ops.proofs.file_tree.FileTree.forget_name.Goals as goal

abbrev view : Inside → TreeView
view fs = record { names = fs.names; vnodes = fs.vnodes; blocks = fs.blocks; disk = fs.disk }

pub let_go-requires-clause-keeps : goal.let_go-requires-clause-keeps
let_go-requires-clause-keeps c =
    let r = c.requires.stands in
    (subst (λ (v : TreeView). Stands c.args.heap.now v r.0 r.1) (sym c.self.view_is) r.2).names

pub let_go-requires-clause-fills : goal.let_go-requires-clause-fills
let_go-requires-clause-fills c = c.requires.may.fills.names

pub let_go-requires-clause-few : goal.let_go-requires-clause-few
let_go-requires-clause-few c = c.requires.may.few.0

pub returns-clause-looks : goal.returns-clause-looks
returns-clause-looks c =
    let l = c.let_go in
    subst (λ (v : TreeView). Looks c.args.heap.now l.new.heap c.args.purse.now l.new.purse v (record (view c.self.inside) { names = l.new.self })) c.self.view_is
    (name_looks c.args.heap.now l.new.heap c.args.purse.now l.new.purse (view c.self.inside) l.new.self c.of.result l.ensures.gone l.ensures.slots l.ensures.keeps l.ensures.fills l.ensures.paid c.requires.may)

pub returns-clause-gone : goal.returns-clause-gone
returns-clause-gone c =
    let l = c.let_go in
    subst (λ (k : NameKey). name_slot l.new.self k ≡ None) c.of.ensures
    (name_gone c.args.heap.now l.new.heap c.args.purse.now l.new.purse (view c.self.inside) l.new.self c.of.result l.ensures.gone l.ensures.slots (key_itself c.of.result))

pub returns-clause-others : goal.returns-clause-others
returns-clause-others c = λ key none.
    let l = c.let_go in
    still_none c.args.heap.now l.new.heap c.args.purse.now l.new.purse (view c.self.inside) l.new.self c.of.result l.ensures.gone l.ensures.slots key (ap (λ (v : TreeView). name_slot v.names key) c.self.view_is ∙ none)
