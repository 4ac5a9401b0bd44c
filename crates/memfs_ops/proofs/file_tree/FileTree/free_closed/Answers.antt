use Rattle.std.proofs.Common.{◌∙◌, ap}
use Rattle.vnode_cache.specs.Nodes.{node_slot}
use Rattle.memfs_ops.specs.FileTree.{TreeView}
use Rattle.posix_defs.specs.TreeChanges.{closed}
use Rattle.memfs_ops.proofs.ChangeLemmas.{stands_all}
use Rattle.memfs_ops.proofs.PaysLemmas.{pays_on}
use Rattle.memfs_ops.proofs.CloseLemmas.{pays_fetched, purse_back}
use Rattle.memfs_ops.proofs.file_tree.FileTree.free_closed.Goals as goal

pub free_in-requires-clause-stands : goal.free_in-requires-clause-stands
free_in-requires-clause-stands c =
    let r = c.requires.stands in
    (r.0, r.1, r.2)

pub free_in-requires-clause-may : goal.free_in-requires-clause-may
free_in-requires-clause-may c = c.requires.may.fetch

pub forget_node-requires-clause-lags : goal.forget_node-requires-clause-lags
forget_node-requires-clause-lags c =
    let r = c.requires.stands in
    (closed r.0 c.args.node, closed r.0 c.args.node, r.1, (c.free_in.ensures.lags r.0 r.1 r.2).1, r.3)

pub forget_node-requires-clause-fills : goal.forget_node-requires-clause-fills
forget_node-requires-clause-fills c = c.free_in.ensures.may.fills

pub forget_node-requires-clause-few : goal.forget_node-requires-clause-few
forget_node-requires-clause-few c = rw (ap (λ n. n.vnode) c.free_in.ensures.goes_on.paid.need) c.requires.may.few

pub drop_blocks-requires-clause-stands : goal.drop_blocks-requires-clause-stands
drop_blocks-requires-clause-stands c =
    let r = c.requires.stands in
    let gone = closed r.0 c.args.node in
    let l = c.free_in.ensures.lags r.0 r.1 r.2 in
    (gone, r.1, stands_all c.forget_node.new.heap c.forget_node.new.self gone r.1 l.0 (c.forget_node.ensures.stands gone gone r.1 l.1))

pub drop_blocks-requires-clause-fills : goal.drop_blocks-requires-clause-fills
drop_blocks-requires-clause-fills c = c.forget_node.ensures.pays.fills

pub returns-clause-stands : goal.returns-clause-stands
returns-clause-stands c = λ tree pins stands.
    let gone = closed tree c.args.node in
    let l = c.free_in.ensures.lags tree pins stands in
    c.drop_blocks.ensures.stands gone pins (stands_all c.forget_node.new.heap c.forget_node.new.self gone pins l.0 (c.forget_node.ensures.stands gone gone pins l.1))

pub returns-clause-pays : goal.returns-clause-pays
returns-clause-pays c =
    let f = c.free_in in
    let g = c.forget_node in
    let d = c.drop_blocks in
    pays_on c.args.heap.now g.new.heap d.new.heap c.args.purse.now g.new.purse d.new.purse c.args.self.now g.new.self d.new.self
    (pays_on c.args.heap.now f.new.heap g.new.heap c.args.purse.now f.new.purse g.new.purse c.args.self.now f.new.self g.new.self
    (pays_fetched c.args.heap.now f.new.heap c.args.purse.now f.new.purse c.args.self.now f.new.self f.ensures.goes_on f.ensures.may) g.ensures.pays) d.ensures.pays

pub returns-clause-dropped : goal.returns-clause-dropped
returns-clause-dropped c = λ no_nodes no_blocks.
    purse_back c.args.purse.now c.free_in.new.purse c.forget_node.new.purse c.drop_blocks.new.purse c.free_in.ensures.goes_on.purse c.free_in.ensures.goes_on.filled c.forget_node.ensures.same c.drop_blocks.ensures.dropped no_nodes no_blocks

pub returns-clause-names : goal.returns-clause-names
returns-clause-names c =
    ap (λ (v : TreeView). v.names) c.drop_blocks.ensures.rest ∙ ap (λ (v : TreeView). v.names) c.forget_node.ensures.rest ∙ ap (λ (v : TreeView). v.names) c.free_in.ensures.rest

pub returns-clause-others : goal.returns-clause-others
returns-clause-others c = λ other apart.
    ap (λ (v : TreeView). node_slot v.vnodes other) c.drop_blocks.ensures.rest ∙ c.forget_node.ensures.others other apart ∙ ap (λ (v : TreeView). node_slot v.vnodes other) c.free_in.ensures.rest
