use Rattle.std.proofs.Common.{ℕ, nat_eq, IsSome, sym, ap, ◌∙◌, subst}
use Rattle.lru_index.specs.Order.{Order}
use Rattle.cache_laws.specs.Caches.{slot_of}
use Rattle.vnode_cache.specs.Nodes.{Nodes, node_slot}
use Rattle.memfs_ops.specs.FileTree.{TreeView}
use Rattle.memfs_ops.specs.Opening.{cut_tree}
use Rattle.memfs_ops.proofs.PaysLemmas.{pays_held}
use Rattle.blk_map.proofs.Taken.{lowest_until}
use Rattle.memfs_ops.proofs.file_tree.FileTree.hold_cut.Goals as goal

pub cut-requires-clause-stands : goal.cut-requires-clause-stands
cut-requires-clause-stands c =
    let r = c.requires.stands in
    (r.0, r.1, r.2, r.3)

pub hold-requires-clause-stands : goal.hold-requires-clause-stands
hold-requires-clause-stands c =
    let r = c.requires.stands in
    (cut_tree r.0 c.args.node c.args.asked, r.1, c.cut.ensures.stands r.0 r.1 r.2, r.4)

pub hold-requires-clause-there : goal.hold-requires-clause-there
hold-requires-clause-there c = subst (λ (n : Nodes). IsSome (node_slot n c.args.node)) (sym c.cut.ensures.nodes) c.requires.there

pub returns-clause-stands : goal.returns-clause-stands
returns-clause-stands c = λ tree pins stands. c.hold.ensures.stands (cut_tree tree c.args.node c.args.asked) pins (c.cut.ensures.stands tree pins stands)

pub returns-clause-pays : goal.returns-clause-pays
returns-clause-pays c =
    let r = c.requires.stands in
    let there = subst (λ (n : Nodes). IsSome (node_slot n c.args.node)) (sym c.cut.ensures.nodes) c.requires.there in
    pays_held c.args.heap.now c.cut.new.heap c.hold.new.heap c.args.purse.now c.cut.new.purse c.args.self.now c.cut.new.self c.hold.new.self c.args.node c.cut.ensures.pays (c.cut.ensures.stands r.0 r.1 r.2).nodes there c.hold.ensures.set c.hold.ensures.takes (ap (λ (v : TreeView). v.disk.reads) c.hold.ensures.rest)

pub returns-clause-saved : goal.returns-clause-saved
returns-clause-saved c = λ none. ap (λ (v : TreeView). v.disk) c.hold.ensures.rest ∙ c.cut.ensures.saved none

pub returns-clause-kept : goal.returns-clause-kept
returns-clause-kept c =
    subst (λ (o : Order ℕ). IsSome (slot_of nat_eq o c.args.node)) (sym c.hold.ensures.same) (subst (λ (n : Nodes). IsSome (node_slot n c.args.node)) (sym c.cut.ensures.nodes) c.requires.there)

pub returns-clause-names : goal.returns-clause-names
returns-clause-names c = ap (λ (v : TreeView). v.names) c.hold.ensures.rest ∙ c.cut.ensures.names

pub returns-clause-lowest : goal.returns-clause-lowest
returns-clause-lowest c = lowest_until c.args.self.now.disk.blocks c.cut.new.self.disk.blocks c.hold.new.self.disk.blocks (ap (λ (v : TreeView). v.disk.blocks) c.hold.ensures.rest) c.cut.ensures.lowest
