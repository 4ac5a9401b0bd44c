use Rattle.std.proofs.Common.{refl, sym, ap, ◌∙◌, subst}
use Rattle.kheap_laws.proofs.PaidLemmas.{IsPaid-nothing}
use Rattle.blk_map.specs.Named.{TakesNone}
use Rattle.memfs_node.specs.NodeOnDisk.{KeepsOthers}
use Rattle.memfs_ops.specs.FileTree.{TreeView}
use Rattle.memfs_ops.proofs.ChangeLemmas.{pays_changed}
use Rattle.memfs_ops.proofs.StepLemmas.{free_kept, free_on}
use Rattle.posix_defs.specs.TreeChanges.{link_dropped}
use Rattle.memfs_ops.proofs.PaysLemmas.{pays_on}
use Rattle.memfs_ops.proofs.CloseLemmas.{pays_fetched}
use Rattle.memfs_ops.proofs.file_tree.FileTree.unlink_node.Goals as goal

pub drop_in-requires-clause-may : goal.drop_in-requires-clause-may
drop_in-requires-clause-may c = c.requires.may.fetch

pub returns-else-drop_in-clause-pays : goal.returns-else-drop_in-clause-pays
returns-else-drop_in-clause-pays c =
    let m = c.drop_in in
    let r = c.renew in
    pays_changed c.args.heap.now m.new.heap r.new.heap c.args.purse.now m.new.purse c.args.self.now m.new.self r.new.self m.ensures.goes_on m.ensures.may r.ensures.only r.ensures.used r.ensures.takes r.ensures.same

pub returns-else-drop_in-clause-may : goal.returns-else-drop_in-clause-may
returns-else-drop_in-clause-may c =
    let m = c.drop_in in
    let r = c.renew in
    let pays = pays_changed c.args.heap.now m.new.heap r.new.heap c.args.purse.now m.new.purse c.args.self.now m.new.self r.new.self m.ensures.goes_on m.ensures.may r.ensures.only r.ensures.used r.ensures.takes r.ensures.same in
    free_kept m.new.heap r.new.heap m.new.purse m.new.purse (free_on c.args.heap.now m.new.heap c.args.purse.now m.new.purse c.args.self.now m.new.self c.requires.may m.ensures.goes_on m.ensures.may) (IsPaid-nothing m.new.heap r.new.heap m.new.purse m.new.purse r.ensures.takes refl refl) pays.fills refl refl

pub returns-else-drop_in-clause-others : goal.returns-else-drop_in-clause-others
returns-else-drop_in-clause-others c = subst (λ (v : TreeView). KeepsOthers c.args.number c.args.self.now.disk.blocks v.disk.blocks) (sym c.renew.ensures.same) c.drop_in.ensures.others

pub returns-else-drop_in-clause-names : goal.returns-else-drop_in-clause-names
returns-else-drop_in-clause-names c = ap (λ (v : TreeView). v.names) c.renew.ensures.same ∙ c.drop_in.ensures.names

pub renew-requires-clause-lags : goal.renew-requires-clause-lags
renew-requires-clause-lags c =
    let r = c.requires.mid in
    (r.0, link_dropped r.1 c.args.number c.args.opened, r.2, c.drop_in.ensures.between r.0 r.1 r.2 r.3)

pub returns-else-drop_in-clause-mid : goal.returns-else-drop_in-clause-mid
returns-else-drop_in-clause-mid c = λ told tree pins mid. c.renew.ensures.stands told (link_dropped tree c.args.number c.args.opened) pins (c.drop_in.ensures.between told tree pins mid)

pub renew-requires-clause-has : goal.renew-requires-clause-has
renew-requires-clause-has c = c.drop_in.ensures.node c.if-drop_in.false

pub forget_node-requires-clause-lags : goal.forget_node-requires-clause-lags
forget_node-requires-clause-lags c =
    let r = c.requires.mid in
    (r.0, link_dropped r.1 c.args.number c.args.opened, r.2, c.drop_in.ensures.between r.0 r.1 r.2 r.3, r.4 (c.drop_in.ensures.freed c.if-drop_in.true))

pub forget_node-requires-clause-fills : goal.forget_node-requires-clause-fills
forget_node-requires-clause-fills c = c.drop_in.ensures.may.fills

pub forget_node-requires-clause-few : goal.forget_node-requires-clause-few
forget_node-requires-clause-few c = rw (ap (λ n. n.vnode) c.drop_in.ensures.goes_on.paid.need) c.requires.may.few

pub returns-then-drop_in-clause-mid : goal.returns-then-drop_in-clause-mid
returns-then-drop_in-clause-mid c = λ told tree pins mid. c.forget_node.ensures.stands told (link_dropped tree c.args.number c.args.opened) pins (c.drop_in.ensures.between told tree pins mid)

pub returns-then-drop_in-clause-pays : goal.returns-then-drop_in-clause-pays
returns-then-drop_in-clause-pays c =
    let m = c.drop_in in
    let f = c.forget_node in
    pays_on c.args.heap.now m.new.heap f.new.heap c.args.purse.now m.new.purse f.new.purse c.args.self.now m.new.self f.new.self
    (pays_fetched c.args.heap.now m.new.heap c.args.purse.now m.new.purse c.args.self.now m.new.self m.ensures.goes_on m.ensures.may) f.ensures.pays

pub returns-then-drop_in-clause-may : goal.returns-then-drop_in-clause-may
returns-then-drop_in-clause-may c =
    let m = c.drop_in in
    let f = c.forget_node in
    free_kept m.new.heap f.new.heap m.new.purse f.new.purse (free_on c.args.heap.now m.new.heap c.args.purse.now m.new.purse c.args.self.now m.new.self c.requires.may m.ensures.goes_on m.ensures.may) f.ensures.pays.paid f.ensures.pays.fills
    (ap (λ p. p.left.block) f.ensures.purse) (ap (λ p. p.blocks) f.ensures.purse)

pub returns-then-drop_in-clause-others : goal.returns-then-drop_in-clause-others
returns-then-drop_in-clause-others c = subst (λ (v : TreeView). KeepsOthers c.args.number c.args.self.now.disk.blocks v.disk.blocks) (sym c.forget_node.ensures.rest) c.drop_in.ensures.others

pub returns-then-drop_in-clause-names : goal.returns-then-drop_in-clause-names
returns-then-drop_in-clause-names c = ap (λ (v : TreeView). v.names) c.forget_node.ensures.rest ∙ c.drop_in.ensures.names

pub returns-else-drop_in-clause-takes_none : goal.returns-else-drop_in-clause-takes_none
returns-else-drop_in-clause-takes_none c = subst (λ (v : TreeView). TakesNone c.args.self.now.disk.blocks v.disk.blocks) (sym c.renew.ensures.same) c.drop_in.ensures.takes_none

pub returns-then-drop_in-clause-takes_none : goal.returns-then-drop_in-clause-takes_none
returns-then-drop_in-clause-takes_none c = subst (λ (v : TreeView). TakesNone c.args.self.now.disk.blocks v.disk.blocks) (sym c.forget_node.ensures.rest) c.drop_in.ensures.takes_none
