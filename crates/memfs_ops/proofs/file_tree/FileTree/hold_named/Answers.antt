use Rattle.std.proofs.Common.{ℕ, IsSome, nat_eq, sym, ap, ◌∙◌, subst}
use Rattle.lru_index.specs.NameKeys.{name_key}
use Rattle.lru_index.specs.Order.{Order}
use Rattle.lru_index.specs.declared.keys.NameKey.{NameKey}
use Rattle.posix_defs.specs.Tree.{found}
use Rattle.name_cache.specs.Names.{name_slot}
use Rattle.tree_laws.proofs.TreeFacts.{found_in_use}
use Rattle.cache_laws.specs.Caches.{slot_of}
use Rattle.memfs_ops.specs.FileTree.{TreeView}
use Rattle.memfs_ops.proofs.LookLemmas.{pays_trans}
use Rattle.memfs_ops.proofs.PinLemmas.{pays_pinned}
use Rattle.memfs_ops.proofs.file_tree.FileTree.hold_named.Goals as goal

pub look-found-requires-clause-stands : goal.look-found-requires-clause-stands
look-found-requires-clause-stands c =
    let r = c.requires.stands in
    (r.0, r.1, r.2, r.3)

pub inode-inode-requires-clause-stands : goal.inode-inode-requires-clause-stands
inode-inode-requires-clause-stands c =
    let r = c.requires.stands in
    (r.0, r.1, c.look-found.ensures.looks.stands r.0 r.1 r.2, found_in_use r.0 c.args.parent c.args.name.now c.args.node r.2.is_tree r.4)

pub hold-requires-clause-stands : goal.hold-requires-clause-stands
hold-requires-clause-stands c =
    let r = c.requires.stands in
    (r.0, r.1, c.inode-inode.ensures.looks.stands r.0 r.1 (c.look-found.ensures.looks.stands r.0 r.1 r.2), r.5)

pub returns-clause-stands : goal.returns-clause-stands
returns-clause-stands c = λ tree pins stands.
    c.hold.ensures.stands tree pins (c.inode-inode.ensures.looks.stands tree pins (c.look-found.ensures.looks.stands tree pins stands))

pub returns-clause-pays : goal.returns-clause-pays
returns-clause-pays c =
    let r = c.requires.stands in
    let l = c.look-found in
    let i = c.inode-inode in
    pays_trans c.args.heap.now l.new.heap c.hold.new.heap c.args.purse.now l.new.purse i.new.purse c.args.self.now l.new.self c.hold.new.self l.ensures.looks
    (pays_pinned l.new.heap i.new.heap c.hold.new.heap l.new.purse i.new.purse l.new.self i.new.self c.hold.new.self c.args.node i.ensures.looks (i.ensures.looks.stands r.0 r.1 (l.ensures.looks.stands r.0 r.1 r.2)).nodes i.ensures.kept c.hold.ensures.set c.hold.ensures.takes (ap (λ (v : TreeView). v.disk.reads) c.hold.ensures.rest))

pub returns-clause-named : goal.returns-clause-named
returns-clause-named c =
    let r = c.requires.stands in
    let there = c.look-found.ensures.kept r.0 r.1 c.args.node r.2 (ap (found r.0 c.args.parent) c.items.ensures.same ∙ r.4) in
    let names = ap (λ (v : TreeView). v.names) c.hold.ensures.rest ∙ c.inode-inode.ensures.names in
    subst (λ (o : Order NameKey). IsSome (name_slot o (name_key c.args.parent c.args.name.now))) (sym names) (subst (λ n. IsSome (name_slot c.look-found.new.self.names (name_key c.args.parent n))) c.items.ensures.same there)

pub returns-clause-kept : goal.returns-clause-kept
returns-clause-kept c = subst (λ (o : Order ℕ). IsSome (slot_of nat_eq o c.args.node)) (sym c.hold.ensures.same) c.inode-inode.ensures.kept

pub returns-clause-bytes : goal.returns-clause-bytes
returns-clause-bytes c = ap (λ (v : TreeView). v.disk.blocks) c.hold.ensures.rest ∙ c.inode-inode.ensures.looks.on.bytes ∙ c.look-found.ensures.looks.on.bytes
