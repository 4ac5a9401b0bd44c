use Rattle.std.proofs.Common.{◌≡◌, ℕ, List, None, sym, ap, ◌∙◌, subst}
use Rattle.lru_index.specs.NameKeys.{name_key}
use Rattle.name_cache.specs.Names.{name_slot}
use Rattle.posix_defs.specs.SoundDisk.{HasNode}
use Rattle.posix_defs.specs.TreeChanges.{with_entries, entry_taken, link_dropped}
use Rattle.posix_defs.proofs.TreeNodes.{directory_in_use, found_in_directory}
use Rattle.tree_laws.proofs.TreeFacts.{found_in_use}
use Rattle.memfs_ops.specs.Changing.{MidWay}
use Rattle.memfs_ops.specs.Entries.{HasEntry}
use Rattle.memfs_ops.proofs.LookLemmas.{looks_trans, pays_trans}
use Rattle.memfs_ops.proofs.PaysLemmas.{pays_on}
use Rattle.memfs_ops.proofs.StepLemmas.{mid_of}
use Rattle.memfs_ops.proofs.RemoveLemmas.{free_of, has_entry, node_apart, some_links, unlinked_stands, same_may, held_alike}
use Rattle.memfs_ops.proofs.file_tree.FileTree.take_name.Goals as goal

pub forget_name-requires-clause-stands : goal.forget_name-requires-clause-stands
forget_name-requires-clause-stands c =
    let r = c.requires.stands in
    (r.0, r.1, r.2)

pub inode-dir-requires-clause-stands : goal.inode-dir-requires-clause-stands
inode-dir-requires-clause-stands c =
    let r = c.requires.stands in
    (r.0, r.1, c.forget_name.ensures.looks.stands r.0 r.1 r.2, directory_in_use r.0 c.args.parent (found_in_directory r.0 c.args.parent c.args.name.now c.args.node r.3.there))

pub inode-dir-requires-clause-may : goal.inode-dir-requires-clause-may
inode-dir-requires-clause-may c = c.forget_name.ensures.looks.may

pub inode-inode-requires-clause-stands : goal.inode-inode-requires-clause-stands
inode-inode-requires-clause-stands c =
    let r = c.requires.stands in
    (r.0, r.1, c.inode-dir.ensures.looks.stands r.0 r.1 (c.forget_name.ensures.looks.stands r.0 r.1 r.2), found_in_use r.0 c.args.parent c.args.name.now c.args.node r.2.is_tree r.3.there)

pub inode-inode-requires-clause-may : goal.inode-inode-requires-clause-may
inode-inode-requires-clause-may c = c.inode-dir.ensures.looks.may

pub edit_dir-requires-clause-mid : goal.edit_dir-requires-clause-mid
edit_dir-requires-clause-mid c =
    let r = c.requires.stands in
    let s = c.inode-inode.ensures.looks.stands r.0 r.1 (c.inode-dir.ensures.looks.stands r.0 r.1 (c.forget_name.ensures.looks.stands r.0 r.1 r.2)) in (
      r.0,
      r.0,
      r.1,
      mid_of c.inode-inode.new.heap c.inode-inode.new.self r.0 r.1 s,
      found_in_directory r.0 c.args.parent c.args.name.now c.args.node r.3.there,
      subst (λ (n : List ℕ). HasEntry r.0 c.args.parent n) (sym c.copy.ensures) (has_entry r.0 c.args.parent c.args.name.now c.args.node r.2.is_tree r.3.there),
    )

pub edit_dir-requires-clause-node : goal.edit_dir-requires-clause-node
edit_dir-requires-clause-node c =
    let d = c.inode-dir in
    subst (λ disk. HasNode disk c.args.parent d.result) (sym (c.inode-inode.ensures.looks.on.bytes ∙ d.ensures.looks.on.bytes)) d.ensures.has

pub edit_dir-requires-clause-may : goal.edit_dir-requires-clause-may
edit_dir-requires-clause-may c = free_of c.inode-inode.new.heap c.inode-inode.new.purse c.inode-inode.ensures.looks.may

pub unlink_node-requires-clause-mid : goal.unlink_node-requires-clause-mid
unlink_node-requires-clause-mid c =
    let r = c.requires.stands in
    let s = c.inode-inode.ensures.looks.stands r.0 r.1 (c.inode-dir.ensures.looks.stands r.0 r.1 (c.forget_name.ensures.looks.stands r.0 r.1 r.2)) in
    (r.0, with_entries r.0 c.args.parent (entry_taken c.copy.result), r.1, c.edit_dir.ensures.mid r.0 r.0 r.1 (mid_of c.inode-inode.new.heap c.inode-inode.new.self r.0 r.1 s), r.3.held)

pub unlink_node-requires-clause-node : goal.unlink_node-requires-clause-node
unlink_node-requires-clause-node c =
    let r = c.requires.stands in
    let i = c.inode-inode in
    c.edit_dir.ensures.others.nodes c.args.node i.result (node_apart r.0 r.1 c.args.parent c.args.name.now c.args.node c.args.opened r.3) (subst (λ disk. HasNode disk c.args.node i.result) (sym i.ensures.looks.on.bytes) i.ensures.has)

pub unlink_node-requires-clause-some : goal.unlink_node-requires-clause-some
unlink_node-requires-clause-some c =
    let r = c.requires.stands in
    let s = c.inode-dir.ensures.looks.stands r.0 r.1 (c.forget_name.ensures.looks.stands r.0 r.1 r.2) in
    some_links r.0 c.args.parent c.args.name.now c.args.node c.inode-inode.result r.2.is_tree r.3.there (c.inode-inode.ensures.value r.0 r.1 s)

pub returns-clause-stands : goal.returns-clause-stands
returns-clause-stands c = λ tree pins stands.
    let r = c.requires.stands in
    let u = c.unlink_node in
    let s = c.inode-inode.ensures.looks.stands tree pins (c.inode-dir.ensures.looks.stands tree pins (c.forget_name.ensures.looks.stands tree pins stands)) in
    let may = same_may c.args.heap.now c.args.self.now r.0 tree r.1 pins c.args.parent c.args.name.now c.args.node c.args.opened r.2 stands (λ no. held_alike c.args.heap.now c.args.self.now r.0 tree r.1 pins c.args.node r.2 stands (r.3.held no)) r.3 in
    let first = c.edit_dir.ensures.mid tree tree pins (mid_of c.inode-inode.new.heap c.inode-inode.new.self tree pins s) in
    let last = u.ensures.mid tree (with_entries tree c.args.parent (entry_taken c.copy.result)) pins first in
    let named = subst (λ (n : List ℕ). MidWay u.new.heap u.new.self tree (link_dropped (with_entries tree c.args.parent (entry_taken n)) c.args.node c.args.opened) pins) c.copy.ensures last in
    let none : name_slot u.new.self.names (name_key c.args.parent c.args.name.now) ≡ None = ap (λ o. name_slot o (name_key c.args.parent c.args.name.now)) (u.ensures.names ∙ c.edit_dir.ensures.names ∙ c.inode-inode.ensures.names ∙ c.inode-dir.ensures.names) ∙ c.forget_name.ensures.gone in
    unlinked_stands u.new.heap u.new.self tree pins c.args.parent c.args.name.now c.args.node c.args.opened stands.is_tree may none named

pub returns-clause-pays : goal.returns-clause-pays
returns-clause-pays c =
    let f = c.forget_name in
    let d = c.inode-dir in
    let i = c.inode-inode in
    let e = c.edit_dir in
    let u = c.unlink_node in
    pays_trans c.args.heap.now i.new.heap u.new.heap c.args.purse.now i.new.purse u.new.purse c.args.self.now i.new.self u.new.self
    (looks_trans c.args.heap.now f.new.heap i.new.heap c.args.purse.now f.new.purse i.new.purse c.args.self.now f.new.self i.new.self f.ensures.looks
    (looks_trans f.new.heap d.new.heap i.new.heap f.new.purse d.new.purse i.new.purse f.new.self d.new.self i.new.self d.ensures.looks i.ensures.looks))
    (pays_on i.new.heap e.new.heap u.new.heap i.new.purse e.new.purse u.new.purse i.new.self e.new.self u.new.self e.ensures.pays u.ensures.pays)
