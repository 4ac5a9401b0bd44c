use Rattle.std.proofs.Common.{◌-◌, ap, ◌∙◌}
use Rattle.posix_defs.specs.Tree.{Tree, is_directory}
use Rattle.disk_laws.proofs.DiskNodes.{one_tree}
use Rattle.memfs_ops.proofs.RenameLemmas.{climbs_none, climbs_more, climbed_directory, is_met, not_met, decided}
use Rattle.memfs_ops.proofs.file_tree.FileTree.is_above.Goals as goal

pub loop-left-init : goal.loop-left-init
loop-left-init c = climbs_none c.args.heap.now c.args.purse.now c.args.self.now c.args.dir c.args.other c.node_bound-left.result c.requires.may

pub parent-at-requires-clause-stands : goal.parent-at-requires-clause-stands
parent-at-requires-clause-stands c =
    let r = c.requires.stands in
    let so = c.loop-left.invariant in
    let way = so.way r.0 r.1 r.2 in
    (r.0, r.1, so.looks.stands r.0 r.1 r.2, ap (is_directory r.0) way.way ∙ climbed_directory r.0 (c.node_bound-left.result - c.loop-left.left) c.args.other r.2.is_tree r.3)

pub parent-at-requires-clause-may : goal.parent-at-requires-clause-may
parent-at-requires-clause-may c = c.loop-left.invariant.looks.may

pub loop-left-preserved : goal.loop-left-preserved
loop-left-preserved c =
    let p = c.parent-at in
    let l = c.loop-left in
    climbs_more c.args.heap.now l.heap p.new.heap c.args.purse.now l.purse p.new.purse c.args.self.now l.self p.new.self c.args.dir c.args.other c.node_bound-left.result l.left l.at p.result l.invariant c.if-at-dir.false c.if-at-eq-ROOT.false c.loop-left-test.true p.ensures.looks p.ensures.value

pub returns-then-at-dir-clause-value : goal.returns-then-at-dir-clause-value
returns-then-at-dir-clause-value c = λ tree pins stands.
    let r = c.requires.stands in
    let l = c.loop-left in
    let is_other = ap (λ (t : Tree). is_directory t c.args.other) (one_tree c.args.self.now.disk.blocks tree r.0 stands.behind r.2.behind) ∙ r.3 in
    is_met tree c.args.dir c.args.other (c.node_bound-left.result - l.left) l.at stands.is_tree is_other (l.invariant.way tree pins stands) c.if-at-dir.true

pub returns-then-at-dir-clause-looks : goal.returns-then-at-dir-clause-looks
returns-then-at-dir-clause-looks c = c.loop-left.invariant.looks

pub returns-then-at-eq-ROOT-clause-value : goal.returns-then-at-eq-ROOT-clause-value
returns-then-at-eq-ROOT-clause-value c = λ tree pins stands.
    let r = c.requires.stands in
    let l = c.loop-left in
    let is_other = ap (λ (t : Tree). is_directory t c.args.other) (one_tree c.args.self.now.disk.blocks tree r.0 stands.behind r.2.behind) ∙ r.3 in
    not_met tree c.args.dir c.args.other (c.node_bound-left.result - l.left) l.at stands.is_tree is_other (l.invariant.way tree pins stands) c.if-at-dir.false c.if-at-eq-ROOT.true

pub returns-then-at-eq-ROOT-clause-looks : goal.returns-then-at-eq-ROOT-clause-looks
returns-then-at-eq-ROOT-clause-looks c = c.loop-left.invariant.looks

pub returns-clause-value : goal.returns-clause-value
returns-clause-value c = λ tree pins stands.
    let r = c.requires.stands in
    let l = c.loop-left in
    let is_other = ap (λ (t : Tree). is_directory t c.args.other) (one_tree c.args.self.now.disk.blocks tree r.0 stands.behind r.2.behind) ∙ r.3 in
    decided c.args.self.now.disk.blocks tree c.args.dir c.args.other c.node_bound-left.result l.left l.at stands.behind stands.is_tree is_other c.node_bound-left.ensures c.loop-left-test.false (l.invariant.way tree pins stands)

pub returns-clause-looks : goal.returns-clause-looks
returns-clause-looks c = c.loop-left.invariant.looks
