use Rattle.std.proofs.Common.{sym, subst, ap}
use Rattle.posix_defs.specs.SoundDisk.{HasNode}
use Rattle.posix_defs.specs.TreeChanges.{make}
use Rattle.posix_defs.proofs.TreeNodes.{directory_in_use}
use Rattle.memfs_node.specs.NodeOnDisk.{content_of}
use Rattle.memfs_ops.proofs.LookLemmas.{pays_trans}
use Rattle.memfs_ops.proofs.ChangeLemmas.{fetch_of, lags_led, some_lags, pays_changed, walk_still}
use Rattle.blk_map.proofs.Taken.{lowest_then, lowest_until}
use Rattle.memfs_ops.specs.FileTree.{TreeView}
use Rattle.memfs_ops.proofs.file_tree.FileTree.make_new.Goals as goal

pub inode-dir-requires-clause-stands : goal.inode-dir-requires-clause-stands
inode-dir-requires-clause-stands c =
    let r = c.requires.stands in
    (r.0, r.1, r.2, directory_in_use r.0 c.args.parent r.3)

pub make_in-made-requires-clause-stands : goal.make_in-made-requires-clause-stands
make_in-made-requires-clause-stands c =
    let r = c.requires.stands in
    (r.0, r.1, c.inode-dir.ensures.looks.stands r.0 r.1 r.2, r.3, r.4)

pub make_in-made-requires-clause-node : goal.make_in-made-requires-clause-node
make_in-made-requires-clause-node c =
    let i = c.inode-dir in
    subst (λ d. HasNode d c.args.parent i.result) (sym i.ensures.looks.on.bytes) i.ensures.has

pub make_in-made-requires-clause-may : goal.make_in-made-requires-clause-may
make_in-made-requires-clause-may c = fetch_of c.inode-dir.new.heap c.inode-dir.new.purse c.inode-dir.ensures.looks.may

pub renew-requires-clause-lags : goal.renew-requires-clause-lags
renew-requires-clause-lags c =
    let r = c.requires.stands in
    let m = c.make_in-made in
    some_lags c.args.parent m.new.heap m.new.self r.0 (make r.0 c.args.parent c.args.name (content_of c.args.new)) r.1 m.result (m.ensures.answer r.0 r.1 (c.inode-dir.ensures.looks.stands r.0 r.1 r.2))

pub returns-clause-answer : goal.returns-clause-answer
returns-clause-answer c = λ tree pins stands.
    let m = c.make_in-made in
    lags_led c.args.parent m.new.heap c.renew.new.heap m.new.self c.renew.new.self tree (make tree c.args.parent c.args.name (content_of c.args.new)) pins m.result (m.ensures.answer tree pins (c.inode-dir.ensures.looks.stands tree pins stands))
    (λ t lags. c.renew.ensures.stands t t pins lags)

pub returns-clause-pays : goal.returns-clause-pays
returns-clause-pays c =
    let i = c.inode-dir in
    let m = c.make_in-made in
    pays_trans c.args.heap.now i.new.heap c.renew.new.heap c.args.purse.now i.new.purse m.new.purse c.args.self.now i.new.self c.renew.new.self i.ensures.looks
    (pays_changed i.new.heap m.new.heap c.renew.new.heap i.new.purse m.new.purse i.new.self m.new.self c.renew.new.self m.ensures.goes_on m.ensures.may c.renew.ensures.only c.renew.ensures.used c.renew.ensures.takes c.renew.ensures.same)

pub returns-clause-may : goal.returns-clause-may
returns-clause-may c =
    let i = c.inode-dir in
    let m = c.make_in-made in
    walk_still i.new.heap m.new.heap c.renew.new.heap i.new.purse m.new.purse i.new.self m.new.self i.ensures.looks.may m.ensures.goes_on m.ensures.may c.renew.ensures.only c.renew.ensures.used c.renew.ensures.loose c.renew.ensures.takes

pub returns-clause-lowest : goal.returns-clause-lowest
returns-clause-lowest c =
    let i = c.inode-dir in
    let m = c.make_in-made in
    lowest_then c.args.self.now.disk.blocks i.new.self.disk.blocks c.renew.new.self.disk.blocks i.ensures.looks.on.bytes
    (lowest_until i.new.self.disk.blocks m.new.self.disk.blocks c.renew.new.self.disk.blocks (ap (λ (v : TreeView). v.disk.blocks) c.renew.ensures.same) m.ensures.lowest)
