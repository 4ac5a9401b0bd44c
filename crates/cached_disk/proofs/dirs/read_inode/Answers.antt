use Rattle.std.proofs.Common.{refl}
use Rattle.memfs_node.proofs.Looking.{in_range, in_use}
use Rattle.cached_disk.specs.TreeLent.{tree_parts}
use Rattle.cached_disk.proofs.BlocksStep.{blocks_all_lent, blocks_stand}
use Rattle.cached_disk.proofs.NodesStep.{node_may_fill}
use Rattle.cached_disk.proofs.Asking.{missed_goes_on, missed_lent, missed_stands, missed_asked}
use Rattle.cached_disk.proofs.dirs.read_inode.Goals as goal

pub inode_through-inode-requires-clause-number : goal.inode_through-inode-requires-clause-number
inode_through-inode-requires-clause-number c = in_range c.args.disk.now.blocks c.requires.stands.1 c.args.number c.requires.stands.2.behind c.requires.stands.3

pub fill-requires-clause-may : goal.fill-requires-clause-may
fill-requires-clause-may c =
    let h = c.args.heap.now in let p = c.args.purse.now in let v = c.args.vnodes.now in let b = c.args.blocks.now in let d = c.args.disk.now in
    let t = c.inode_through-inode in
    let s = c.requires.stands in
    let l = c.requires.lent in
    let all = blocks_all_lent h t.new.heap p t.new.purse l.0 v b t.new.cache d t.new.disk t.ensures.goes_on t.ensures.kept t.ensures.lent l.1 in
    let stands = blocks_stand h t.new.heap p t.new.purse s.0 v b t.new.cache d t.new.disk t.ensures.goes_on t.ensures.kept s.1 s.2 in
    let range = in_range t.new.disk.blocks s.1 c.args.number stands.behind s.3 in
    node_may_fill t.new.heap t.new.purse v t.new.disk c.args.number all.of_blocks.pays all.of_nodes stands.nodes range.0 range.1 c.requires.absent

pub returns-clause-has : goal.returns-clause-has
returns-clause-has c = in_use c.args.disk.now.blocks c.requires.stands.1 c.args.number c.inode_through-inode.result c.requires.stands.2.behind c.requires.stands.3 c.inode_through-inode.ensures.has

pub returns-clause-lent : goal.returns-clause-lent
returns-clause-lent c = λ names all.
    let h = c.args.heap.now in let p = c.args.purse.now in let v = c.args.vnodes.now in let b = c.args.blocks.now in let d = c.args.disk.now in
    let t = c.inode_through-inode in
    missed_lent c.args.number t.result h t.new.heap c.fill.new.heap p t.new.purse c.fill.new.purse names v c.fill.new.self b t.new.cache d t.new.disk t.ensures.goes_on t.ensures.kept t.ensures.lent c.fill.ensures.filled c.fill.ensures.paid c.requires.absent c.requires.lent.1.of_nodes.keeps c.fill.ensures.keeps c.fill.ensures.fills all

pub returns-clause-stands : goal.returns-clause-stands
returns-clause-stands c = λ names tree stands.
    let h = c.args.heap.now in let p = c.args.purse.now in let v = c.args.vnodes.now in let b = c.args.blocks.now in let d = c.args.disk.now in
    let t = c.inode_through-inode in
    let has = in_use d.blocks c.requires.stands.1 c.args.number t.result c.requires.stands.2.behind c.requires.stands.3 t.ensures.has in
    missed_stands c.args.number t.result h t.new.heap c.fill.new.heap p t.new.purse c.fill.new.purse names v c.fill.new.self b t.new.cache d t.new.disk t.ensures.goes_on t.ensures.kept t.ensures.lent c.fill.ensures.filled c.fill.ensures.paid c.requires.absent c.requires.lent.1.of_nodes.keeps tree has stands

pub returns-clause-goes_on : goal.returns-clause-goes_on
returns-clause-goes_on c = λ names.
    let h = c.args.heap.now in let p = c.args.purse.now in let v = c.args.vnodes.now in let b = c.args.blocks.now in let d = c.args.disk.now in
    let t = c.inode_through-inode in
    missed_goes_on c.args.number t.result h t.new.heap c.fill.new.heap p t.new.purse c.fill.new.purse names v c.fill.new.self b t.new.cache d t.new.disk t.ensures.goes_on t.ensures.kept t.ensures.lent c.fill.ensures.filled c.fill.ensures.paid c.requires.absent c.requires.lent.1.of_nodes.keeps

pub returns-clause-asked : goal.returns-clause-asked
returns-clause-asked c = λ names.
    let h = c.args.heap.now in let p = c.args.purse.now in let v = c.args.vnodes.now in let b = c.args.blocks.now in let d = c.args.disk.now in
    let t = c.inode_through-inode in
    missed_asked c.args.number t.result (tree_parts h p names v b d) (tree_parts c.fill.new.heap c.fill.new.purse names c.fill.new.self t.new.cache t.new.disk) c.requires.absent c.fill.ensures.value refl
