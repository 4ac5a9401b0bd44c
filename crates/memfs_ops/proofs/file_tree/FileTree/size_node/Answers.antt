use Rattle.std.proofs.Common.{Result, sym, ap, ◌∙◌, subst}
use Rattle.kabi_types.specs.declared.errnos.Errno.{Errno}
use Rattle.posix_defs.specs.SoundDisk.{HasNode}
use Rattle.posix_defs.specs.Tree.{Tree}
use Rattle.posix_defs.specs.TreeChanges.{resize}
use Rattle.memfs_ops.specs.FileTree.{TreeView}
use Rattle.memfs_ops.specs.Changing.{ChangedTo}
use Rattle.memfs_ops.proofs.ChangeLemmas.{pays_changed}
use Rattle.memfs_ops.proofs.PaysLemmas.{pays_used}
use Rattle.memfs_ops.proofs.WriteLemmas.{same_resize, lags_to, some_to}
use Rattle.blk_map.proofs.Taken.{lowest_then, lowest_until}
use Rattle.memfs_ops.proofs.file_tree.FileTree.size_node.Goals as goal

pub held_inode-inode-requires : goal.held_inode-inode-requires
held_inode-inode-requires c =
    let r = c.requires.stands in
    (r.0, r.1, r.2, r.3)

pub size_in-answer-requires-clause-stands : goal.size_in-answer-requires-clause-stands
size_in-answer-requires-clause-stands c =
    let r = c.requires.stands in
    (r.0, r.1, c.held_inode-inode.ensures.stands r.0 r.1 r.2, r.4)

pub size_in-answer-requires-clause-node : goal.size_in-answer-requires-clause-node
size_in-answer-requires-clause-node c =
    let h = c.held_inode-inode in
    subst (λ (v : TreeView). HasNode v.disk.blocks c.args.node h.result) (sym h.ensures.used.same) h.ensures.has

pub renew-requires-clause-lags : goal.renew-requires-clause-lags
renew-requires-clause-lags c =
    let r = c.requires.stands in
    let m = c.size_in-answer in
    some_to c.args.node m.new.heap m.new.self r.0 (resize r.0 c.args.node c.place_of.result) r.1 m.result (m.ensures.answer r.0 r.1 (c.held_inode-inode.ensures.stands r.0 r.1 r.2))

pub returns-clause-answer : goal.returns-clause-answer
returns-clause-answer c = λ tree pins stands.
    let m = c.size_in-answer in
    let same = ap (λ n. resize tree c.args.node n) c.place_of.ensures ∙ same_resize tree c.args.node c.args.size in
    subst (λ (led : Result Tree Errno). ChangedTo c.renew.new.heap c.renew.new.self tree led pins m.result) same
    (lags_to c.args.node m.new.heap c.renew.new.heap m.new.self c.renew.new.self tree (resize tree c.args.node c.place_of.result) pins m.result (m.ensures.answer tree pins (c.held_inode-inode.ensures.stands tree pins stands))
    (λ t lags. c.renew.ensures.stands t t pins lags))

pub returns-clause-pays : goal.returns-clause-pays
returns-clause-pays c =
    let h = c.held_inode-inode in
    let m = c.size_in-answer in
    pays_used c.args.heap.now c.renew.new.heap c.args.purse.now m.new.purse c.args.self.now h.new.self c.renew.new.self h.ensures.used
    (pays_changed c.args.heap.now m.new.heap c.renew.new.heap c.args.purse.now m.new.purse h.new.self m.new.self c.renew.new.self m.ensures.goes_on m.ensures.may c.renew.ensures.only c.renew.ensures.used c.renew.ensures.takes c.renew.ensures.same)

pub returns-clause-lowest : goal.returns-clause-lowest
returns-clause-lowest c =
    let h = c.held_inode-inode in
    let m = c.size_in-answer in
    lowest_then c.args.self.now.disk.blocks h.new.self.disk.blocks c.renew.new.self.disk.blocks (ap (λ (v : TreeView). v.disk.blocks) h.ensures.used.same)
    (lowest_until h.new.self.disk.blocks m.new.self.disk.blocks c.renew.new.self.disk.blocks (ap (λ (v : TreeView). v.disk.blocks) c.renew.ensures.same) m.ensures.lowest)
