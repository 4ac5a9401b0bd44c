use Rattle.std.proofs.Common.{refl, sym, ap, ◌∙◌, subst}
use Rattle.posix_defs.specs.SoundDisk.{free_in_map}
use Rattle.kheap_laws.proofs.PaidLemmas.{IsPaid-nothing}
use Rattle.memfs_node.specs.NodeOnDisk.{KeepsOthers}
use Rattle.memfs_ops.specs.FileTree.{TreeView}
use Rattle.memfs_ops.proofs.ChangeLemmas.{pays_changed}
use Rattle.memfs_ops.proofs.StepLemmas.{free_kept, free_on}
use Rattle.posix_defs.specs.TreeChanges.{link_added}
use Rattle.blk_map.specs.Named.{TakesNone}
use Rattle.memfs_ops.proofs.file_tree.FileTree.link_node.Goals as goal

pub add_in-requires-clause-may : goal.add_in-requires-clause-may
add_in-requires-clause-may c = c.requires.may.fetch

pub returns-clause-pays : goal.returns-clause-pays
returns-clause-pays c =
    let m = c.add_in in
    let r = c.renew in
    pays_changed c.args.heap.now m.new.heap r.new.heap c.args.purse.now m.new.purse c.args.self.now m.new.self r.new.self m.ensures.goes_on m.ensures.may r.ensures.only r.ensures.used r.ensures.takes r.ensures.same

pub returns-clause-may : goal.returns-clause-may
returns-clause-may c =
    let m = c.add_in in
    let r = c.renew in
    let pays = pays_changed c.args.heap.now m.new.heap r.new.heap c.args.purse.now m.new.purse c.args.self.now m.new.self r.new.self m.ensures.goes_on m.ensures.may r.ensures.only r.ensures.used r.ensures.takes r.ensures.same in
    free_kept m.new.heap r.new.heap m.new.purse m.new.purse (free_on c.args.heap.now m.new.heap c.args.purse.now m.new.purse c.args.self.now m.new.self c.requires.may m.ensures.goes_on m.ensures.may) (IsPaid-nothing m.new.heap r.new.heap m.new.purse m.new.purse r.ensures.takes refl refl) pays.fills refl refl

pub returns-clause-others : goal.returns-clause-others
returns-clause-others c = subst (λ (v : TreeView). KeepsOthers c.args.number c.args.self.now.disk.blocks v.disk.blocks) (sym c.renew.ensures.same) c.add_in.ensures.others

pub returns-clause-names : goal.returns-clause-names
returns-clause-names c = ap (λ (v : TreeView). v.names) c.renew.ensures.same ∙ c.add_in.ensures.names

pub renew-requires-clause-lags : goal.renew-requires-clause-lags
renew-requires-clause-lags c =
    let r = c.requires.mid in
    (r.0, link_added r.1 c.args.number, r.2, c.add_in.ensures.between r.0 r.1 r.2 r.3)

pub returns-clause-mid : goal.returns-clause-mid
returns-clause-mid c = λ told tree pins mid. c.renew.ensures.stands told (link_added tree c.args.number) pins (c.add_in.ensures.between told tree pins mid)

pub returns-clause-free : goal.returns-clause-free
returns-clause-free c = ap (λ (v : TreeView). free_in_map v.disk.blocks) c.renew.ensures.same ∙ c.add_in.ensures.free

pub returns-clause-takes_none : goal.returns-clause-takes_none
returns-clause-takes_none c = subst (λ (v : TreeView). TakesNone c.args.self.now.disk.blocks v.disk.blocks) (sym c.renew.ensures.same) c.add_in.ensures.takes_none
