use Rattle.std.proofs.Common.{◌≡◌, ℕ, None, eqb, eqb-true, List, sym, ap, ◌∙◌, subst}
use Rattle.std.proofs.lemmas.Bool.{eqb-false}
use Rattle.lru_index.specs.NameKeys.{name_key}
use Rattle.name_cache.specs.Names.{name_slot}
use Rattle.posix_defs.specs.DiskFormat.{IsName}
use Rattle.posix_defs.specs.SoundDisk.{HasNode}
use Rattle.posix_defs.specs.Tree.{Tree}
use Rattle.posix_defs.specs.TreeChanges.{with_entries, entry_taken, entry_aimed, link_dropped, hung_if_directory}
use Rattle.posix_defs.proofs.TreeNodes.{directory_in_use, found_in_directory}
use Rattle.tree_laws.proofs.TreeFacts.{found_in_use}
use Rattle.tree_laws.proofs.RenameSteps.{over_steps}
use Rattle.blk_map.proofs.Taken.{none_preferred, none_then_none, preferred_then}
use Rattle.memfs_ops.specs.Changing.{MidWay}
use Rattle.memfs_ops.specs.Entries.{HasEntry}
use Rattle.memfs_ops.proofs.LookLemmas.{looks_trans, pays_trans}
use Rattle.memfs_ops.proofs.PaysLemmas.{pays_on}
use Rattle.memfs_ops.proofs.StepLemmas.{mid_of}
use Rattle.memfs_ops.proofs.RemoveLemmas.{free_of, has_entry, entry_name, held_alike, in_use_above, some_links}
use Rattle.memfs_ops.proofs.RenameLemmas.{replaced_stands, same_replace, not_in_itself, file_or_apart, dir_stays, aimed_mid, one_of_has}
use Rattle.memfs_ops.proofs.file_tree.FileTree.move_over.Goals as goal

pub forget_names-requires-clause-stands : goal.forget_names-requires-clause-stands
forget_names-requires-clause-stands c =
    let r = c.requires.stands in
    (r.0, r.1, r.2)

pub inode-from-requires-clause-stands : goal.inode-from-requires-clause-stands
inode-from-requires-clause-stands c =
    let r = c.requires.stands in
    (r.0, r.1, c.forget_names.ensures.looks.stands r.0 r.1 r.2, directory_in_use r.0 c.args.dir (found_in_directory r.0 c.args.dir c.args.name.now c.args.number r.3.there))

pub inode-from-requires-clause-may : goal.inode-from-requires-clause-may
inode-from-requires-clause-may c = c.forget_names.ensures.looks.may

pub inode-into-requires-clause-stands : goal.inode-into-requires-clause-stands
inode-into-requires-clause-stands c =
    let r = c.requires.stands in
    (r.0, r.1, c.inode-from.ensures.looks.stands r.0 r.1 (c.forget_names.ensures.looks.stands r.0 r.1 r.2), directory_in_use r.0 c.args.to (found_in_directory r.0 c.args.to c.args.new.now c.args.replaced r.3.target))

pub inode-into-requires-clause-may : goal.inode-into-requires-clause-may
inode-into-requires-clause-may c = c.inode-from.ensures.looks.may

pub inode-moved-requires-clause-stands : goal.inode-moved-requires-clause-stands
inode-moved-requires-clause-stands c =
    let r = c.requires.stands in
    (r.0, r.1, c.inode-into.ensures.looks.stands r.0 r.1 (c.inode-from.ensures.looks.stands r.0 r.1 (c.forget_names.ensures.looks.stands r.0 r.1 r.2)), found_in_use r.0 c.args.dir c.args.name.now c.args.number r.2.is_tree r.3.there)

pub inode-moved-requires-clause-may : goal.inode-moved-requires-clause-may
inode-moved-requires-clause-may c = c.inode-into.ensures.looks.may

pub inode-gone-requires-clause-stands : goal.inode-gone-requires-clause-stands
inode-gone-requires-clause-stands c =
    let r = c.requires.stands in
    (r.0, r.1, c.inode-moved.ensures.looks.stands r.0 r.1 (c.inode-into.ensures.looks.stands r.0 r.1 (c.inode-from.ensures.looks.stands r.0 r.1 (c.forget_names.ensures.looks.stands r.0 r.1 r.2))), found_in_use r.0 c.args.to c.args.new.now c.args.replaced r.2.is_tree r.3.target)

pub inode-gone-requires-clause-may : goal.inode-gone-requires-clause-may
inode-gone-requires-clause-may c = c.inode-moved.ensures.looks.may

pub edit_dir-requires-clause-mid : goal.edit_dir-requires-clause-mid
edit_dir-requires-clause-mid c =
    let r = c.requires.stands in
    let own = has_entry r.0 c.args.to c.args.new.now c.args.replaced r.2.is_tree r.3.target in (
      r.0,
      r.0,
      r.1,
      mid_of c.inode-gone.new.heap c.inode-gone.new.self r.0 r.1 (c.inode-gone.ensures.looks.stands r.0 r.1 (c.inode-moved.ensures.looks.stands r.0 r.1 (c.inode-into.ensures.looks.stands r.0 r.1 (c.inode-from.ensures.looks.stands r.0 r.1 (c.forget_names.ensures.looks.stands r.0 r.1 r.2))))),
      found_in_directory r.0 c.args.to c.args.new.now c.args.replaced r.3.target,
      (subst (λ (n : List ℕ). HasEntry r.0 c.args.to n) (sym c.copy.ensures) own, subst (λ (n : List ℕ). IsName n) (sym c.copy-2.ensures) (entry_name r.0 c.args.to c.args.new.now c.args.replaced r.2.is_tree r.3.target), in_use_above r.0 c.args.number (found_in_use r.0 c.args.dir c.args.name.now c.args.number r.2.is_tree r.3.there)),
    )

pub edit_dir-requires-clause-node : goal.edit_dir-requires-clause-node
edit_dir-requires-clause-node c =
    let b = c.inode-into in
    subst (λ disk. HasNode disk c.args.to b.result) (sym (c.inode-gone.ensures.looks.on.bytes ∙ c.inode-moved.ensures.looks.on.bytes ∙ b.ensures.looks.on.bytes)) b.ensures.has

pub edit_dir-requires-clause-may : goal.edit_dir-requires-clause-may
edit_dir-requires-clause-may c = free_of c.inode-gone.new.heap c.inode-gone.new.purse c.inode-gone.ensures.looks.may

pub unlink_node-requires-clause-mid : goal.unlink_node-requires-clause-mid
unlink_node-requires-clause-mid c =
    let r = c.requires.stands in
    let first = aimed_mid c.edit_dir.new.heap c.edit_dir.new.self r.0 r.0 r.1 c.args.to c.args.number c.copy.result c.copy-2.result c.args.new.now c.copy.ensures c.copy-2.ensures (c.edit_dir.ensures.mid r.0 r.0 r.1 (mid_of c.inode-gone.new.heap c.inode-gone.new.self r.0 r.1 (c.inode-gone.ensures.looks.stands r.0 r.1 (c.inode-moved.ensures.looks.stands r.0 r.1 (c.inode-into.ensures.looks.stands r.0 r.1 (c.inode-from.ensures.looks.stands r.0 r.1 (c.forget_names.ensures.looks.stands r.0 r.1 r.2))))))) in
    (r.0, with_entries r.0 c.args.to (entry_aimed c.args.new.now c.args.number), r.1, first, r.3.held)

pub unlink_node-requires-clause-node : goal.unlink_node-requires-clause-node
unlink_node-requires-clause-node c =
    let r = c.requires.stands in
    let g = c.inode-gone in
    c.edit_dir.ensures.others.nodes c.args.replaced g.result (not_in_itself r.0 c.args.to c.args.new.now c.args.replaced r.2.is_tree r.3.target) (subst (λ disk. HasNode disk c.args.replaced g.result) (sym g.ensures.looks.on.bytes) g.ensures.has)

pub unlink_node-requires-clause-some : goal.unlink_node-requires-clause-some
unlink_node-requires-clause-some c =
    let r = c.requires.stands in
    some_links r.0 c.args.to c.args.new.now c.args.replaced c.inode-gone.result r.2.is_tree r.3.target (c.inode-gone.ensures.value r.0 r.1 (c.inode-moved.ensures.looks.stands r.0 r.1 (c.inode-into.ensures.looks.stands r.0 r.1 (c.inode-from.ensures.looks.stands r.0 r.1 (c.forget_names.ensures.looks.stands r.0 r.1 r.2)))))

pub unlink_node-requires-clause-may : goal.unlink_node-requires-clause-may
unlink_node-requires-clause-may c = c.edit_dir.ensures.may

pub edit_dir-requires-2-clause-mid : goal.edit_dir-requires-2-clause-mid
edit_dir-requires-2-clause-mid c =
    let r = c.requires.stands in
    let first = aimed_mid c.edit_dir.new.heap c.edit_dir.new.self r.0 r.0 r.1 c.args.to c.args.number c.copy.result c.copy-2.result c.args.new.now c.copy.ensures c.copy-2.ensures (c.edit_dir.ensures.mid r.0 r.0 r.1 (mid_of c.inode-gone.new.heap c.inode-gone.new.self r.0 r.1 (c.inode-gone.ensures.looks.stands r.0 r.1 (c.inode-moved.ensures.looks.stands r.0 r.1 (c.inode-into.ensures.looks.stands r.0 r.1 (c.inode-from.ensures.looks.stands r.0 r.1 (c.forget_names.ensures.looks.stands r.0 r.1 r.2))))))) in
    let t1 : Tree = with_entries r.0 c.args.to (entry_aimed c.args.new.now c.args.number) in
    let t2 : Tree = link_dropped t1 c.args.replaced c.args.opened in
    let over = over_steps r.0 c.args.dir c.args.name.now c.args.number c.args.to c.args.new.now c.args.replaced c.args.opened r.2.is_tree r.3.there r.3.target r.3.other r.3.directory in
    let own = has_entry r.0 c.args.dir c.args.name.now c.args.number r.2.is_tree r.3.there in (
      r.0,
      t2,
      r.1,
      c.unlink_node.ensures.mid r.0 t1 r.1 first,
      over.1,
      subst (λ (n : List ℕ). HasEntry t2 c.args.dir n) (sym c.copy-3.ensures) (record { node = c.args.number; there = over.2; own = own.own; parent = own.parent }),
    )

pub edit_dir-requires-2-clause-node : goal.edit_dir-requires-2-clause-node
edit_dir-requires-2-clause-node c =
    let r = c.requires.stands in
    let a = c.inode-from in
    let stays = dir_stays r.0 r.1 c.args.dir c.args.name.now c.args.number c.args.to c.args.new.now c.args.replaced c.args.opened r.3 in
    let to_stays = λ (e : c.args.to ≡ c.args.replaced). not_in_itself r.0 c.args.to c.args.new.now c.args.replaced r.2.is_tree r.3.target (sym e) in
    let has = subst (λ disk. HasNode disk c.args.dir a.result) (sym (c.inode-gone.ensures.looks.on.bytes ∙ c.inode-moved.ensures.looks.on.bytes ∙ c.inode-into.ensures.looks.on.bytes ∙ a.ensures.looks.on.bytes)) a.ensures.has in
    one_of_has (eqb c.args.dir c.args.to) c.one_of-left.result c.edit_dir.new.inode a.result (λ i. HasNode c.unlink_node.new.self.disk.blocks c.args.dir i) c.one_of-left.ensures
    (λ yes. subst (λ n. HasNode c.unlink_node.new.self.disk.blocks n c.edit_dir.new.inode) (sym (eqb-true c.args.dir c.args.to yes)) (c.unlink_node.ensures.others.nodes c.args.to c.edit_dir.new.inode to_stays c.edit_dir.ensures.node))
    (λ no. c.unlink_node.ensures.others.nodes c.args.dir a.result stays (c.edit_dir.ensures.others.nodes c.args.dir a.result (eqb-false c.args.dir c.args.to no) has))

pub edit_dir-requires-2-clause-may : goal.edit_dir-requires-2-clause-may
edit_dir-requires-2-clause-may c = c.unlink_node.ensures.may

pub hang_moved-requires-clause-mid : goal.hang_moved-requires-clause-mid
hang_moved-requires-clause-mid c =
    let r = c.requires.stands in
    let first = aimed_mid c.edit_dir.new.heap c.edit_dir.new.self r.0 r.0 r.1 c.args.to c.args.number c.copy.result c.copy-2.result c.args.new.now c.copy.ensures c.copy-2.ensures (c.edit_dir.ensures.mid r.0 r.0 r.1 (mid_of c.inode-gone.new.heap c.inode-gone.new.self r.0 r.1 (c.inode-gone.ensures.looks.stands r.0 r.1 (c.inode-moved.ensures.looks.stands r.0 r.1 (c.inode-into.ensures.looks.stands r.0 r.1 (c.inode-from.ensures.looks.stands r.0 r.1 (c.forget_names.ensures.looks.stands r.0 r.1 r.2))))))) in
    let t1 : Tree = with_entries r.0 c.args.to (entry_aimed c.args.new.now c.args.number) in
    let t2 : Tree = link_dropped t1 c.args.replaced c.args.opened in
    (r.0, with_entries t2 c.args.dir (entry_taken c.copy-3.result), r.1, c.edit_dir-2.ensures.mid r.0 t2 r.1 (c.unlink_node.ensures.mid r.0 t1 r.1 first))

pub hang_moved-requires-clause-node : goal.hang_moved-requires-clause-node
hang_moved-requires-clause-node c =
    let r = c.requires.stands in
    let m = c.inode-moved in
    let has = subst (λ disk. HasNode disk c.args.number m.result) (sym (c.inode-gone.ensures.looks.on.bytes ∙ m.ensures.looks.on.bytes)) m.ensures.has in
    let not_dir = not_in_itself r.0 c.args.dir c.args.name.now c.args.number r.2.is_tree r.3.there in
    let not_to = file_or_apart r.0 c.args.number c.args.to (found_in_directory r.0 c.args.to c.args.new.now c.args.replaced r.3.target) r.3.off in
    c.edit_dir-2.ensures.others.nodes c.args.number m.result not_dir (c.unlink_node.ensures.others.nodes c.args.number m.result r.3.other (c.edit_dir.ensures.others.nodes c.args.number m.result not_to has))

pub hang_moved-requires-clause-parent : goal.hang_moved-requires-clause-parent
hang_moved-requires-clause-parent c = c.inode-into.ensures.has.0.number.0

pub hang_moved-requires-clause-may : goal.hang_moved-requires-clause-may
hang_moved-requires-clause-may c = c.edit_dir-2.ensures.may

pub returns-clause-stands : goal.returns-clause-stands
returns-clause-stands c = λ tree pins stands.
    let r = c.requires.stands in
    let l = c.hang_moved in
    let may = same_replace c.args.heap.now c.args.self.now r.0 tree r.1 pins c.args.dir c.args.name.now c.args.number c.args.to c.args.new.now c.args.replaced c.args.opened r.2 stands (λ no. held_alike c.args.heap.now c.args.self.now r.0 tree r.1 pins c.args.replaced r.2 stands (r.3.held no)) r.3 in
    let first = aimed_mid c.edit_dir.new.heap c.edit_dir.new.self tree tree pins c.args.to c.args.number c.copy.result c.copy-2.result c.args.new.now c.copy.ensures c.copy-2.ensures (c.edit_dir.ensures.mid tree tree pins (mid_of c.inode-gone.new.heap c.inode-gone.new.self tree pins (c.inode-gone.ensures.looks.stands tree pins (c.inode-moved.ensures.looks.stands tree pins (c.inode-into.ensures.looks.stands tree pins (c.inode-from.ensures.looks.stands tree pins (c.forget_names.ensures.looks.stands tree pins stands))))))) in
    let t1 : Tree = with_entries tree c.args.to (entry_aimed c.args.new.now c.args.number) in
    let t2 : Tree = link_dropped t1 c.args.replaced c.args.opened in
    let last = l.ensures.mid tree (with_entries t2 c.args.dir (entry_taken c.copy-3.result)) pins (c.edit_dir-2.ensures.mid tree t2 pins (c.unlink_node.ensures.mid tree t1 pins first)) in
    let named = subst (λ (n : List ℕ). MidWay l.new.heap l.new.self tree (hung_if_directory (with_entries t2 c.args.dir (entry_taken n)) c.args.number c.args.to) pins) c.copy-3.ensures last in
    let names = l.ensures.names ∙ c.edit_dir-2.ensures.names ∙ c.unlink_node.ensures.names ∙ c.edit_dir.ensures.names ∙ c.inode-gone.ensures.names ∙ c.inode-moved.ensures.names ∙ c.inode-into.ensures.names ∙ c.inode-from.ensures.names in
    let none : name_slot l.new.self.names (name_key c.args.dir c.args.name.now) ≡ None = ap (λ o. name_slot o (name_key c.args.dir c.args.name.now)) names ∙ c.forget_names.ensures.one in
    let none_new : name_slot l.new.self.names (name_key c.args.to c.args.new.now) ≡ None = ap (λ o. name_slot o (name_key c.args.to c.args.new.now)) names ∙ c.forget_names.ensures.other in
    replaced_stands l.new.heap l.new.self tree pins c.args.dir c.args.name.now c.args.number c.args.to c.args.new.now c.args.replaced c.args.opened stands.is_tree may none none_new named

pub returns-clause-pays : goal.returns-clause-pays
returns-clause-pays c =
    let f = c.forget_names in
    let a = c.inode-from in
    let b = c.inode-into in
    let m = c.inode-moved in
    let g = c.inode-gone in
    let d = c.edit_dir in
    let u = c.unlink_node in
    let e = c.edit_dir-2 in
    let l = c.hang_moved in
    pays_trans c.args.heap.now g.new.heap l.new.heap c.args.purse.now g.new.purse l.new.purse c.args.self.now g.new.self l.new.self
    (looks_trans c.args.heap.now f.new.heap g.new.heap c.args.purse.now f.new.purse g.new.purse c.args.self.now f.new.self g.new.self f.ensures.looks
    (looks_trans f.new.heap b.new.heap g.new.heap f.new.purse b.new.purse g.new.purse f.new.self b.new.self g.new.self
    (looks_trans f.new.heap a.new.heap b.new.heap f.new.purse a.new.purse b.new.purse f.new.self a.new.self b.new.self a.ensures.looks b.ensures.looks)
    (looks_trans b.new.heap m.new.heap g.new.heap b.new.purse m.new.purse g.new.purse b.new.self m.new.self g.new.self m.ensures.looks g.ensures.looks)))
    (pays_on g.new.heap u.new.heap l.new.heap g.new.purse u.new.purse l.new.purse g.new.self u.new.self l.new.self
    (pays_on g.new.heap d.new.heap u.new.heap g.new.purse d.new.purse u.new.purse g.new.self d.new.self u.new.self d.ensures.pays u.ensures.pays)
    (pays_on u.new.heap e.new.heap l.new.heap u.new.purse e.new.purse l.new.purse u.new.self e.new.self l.new.self e.ensures.pays l.ensures.pays))

pub returns-clause-lowest : goal.returns-clause-lowest
returns-clause-lowest c =
    let g = c.inode-gone in
    let d = c.edit_dir in
    let u = c.unlink_node in
    let e = c.edit_dir-2 in
    let l = c.hang_moved in
    let none = none_then_none g.new.self.disk.blocks e.new.self.disk.blocks l.new.self.disk.blocks
    (none_then_none g.new.self.disk.blocks u.new.self.disk.blocks e.new.self.disk.blocks (none_then_none g.new.self.disk.blocks d.new.self.disk.blocks u.new.self.disk.blocks d.ensures.takes.0 u.ensures.takes_none) e.ensures.takes) l.ensures.takes_none in
    preferred_then c.args.self.now.disk.blocks g.new.self.disk.blocks l.new.self.disk.blocks
    (g.ensures.looks.on.bytes ∙ c.inode-moved.ensures.looks.on.bytes ∙ c.inode-into.ensures.looks.on.bytes ∙ c.inode-from.ensures.looks.on.bytes ∙ c.forget_names.ensures.looks.on.bytes)
    (none_preferred g.new.self.disk.blocks l.new.self.disk.blocks none)
