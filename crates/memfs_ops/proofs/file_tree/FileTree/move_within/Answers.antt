use Rattle.std.proofs.Common.{◌≡◌, ℕ, None, List, refl, sym, ap, ◌∙◌, subst}
use Rattle.lru_index.specs.NameKeys.{name_key}
use Rattle.name_cache.specs.Names.{name_slot}
use Rattle.posix_defs.specs.DiskFormat.{IsName}
use Rattle.posix_defs.specs.SoundDisk.{HasNode}
use Rattle.posix_defs.specs.Tree.{Tree}
use Rattle.posix_defs.specs.TreeChanges.{with_entries, entry_renamed}
use Rattle.posix_defs.proofs.TreeNodes.{directory_in_use}
use Rattle.disk_laws.proofs.DiskNodes.{one_tree}
use Rattle.tree_laws.proofs.TreeFacts.{found_in_use}
use Rattle.blk_map.proofs.Taken.{none_preferred, preferred_then}
use Rattle.memfs_ops.specs.Changing.{MidWay}
use Rattle.memfs_ops.specs.Entries.{HasEntry}
use Rattle.memfs_ops.specs.Renaming.{MayMove}
use Rattle.memfs_ops.proofs.LookLemmas.{looks_trans, pays_trans}
use Rattle.memfs_ops.proofs.StepLemmas.{mid_of}
use Rattle.memfs_ops.proofs.RemoveLemmas.{free_of, has_entry, in_use_above}
use Rattle.memfs_ops.proofs.RenameLemmas.{moved_stands, within_is}
use Rattle.memfs_ops.proofs.file_tree.FileTree.move_within.Goals as goal

pub forget_name-requires-clause-stands : goal.forget_name-requires-clause-stands
forget_name-requires-clause-stands c =
    let r = c.requires.stands in
    (r.0, r.1, r.2)

pub inode-inode-requires-clause-stands : goal.inode-inode-requires-clause-stands
inode-inode-requires-clause-stands c =
    let r = c.requires.stands in
    (r.0, r.1, c.forget_name.ensures.looks.stands r.0 r.1 r.2, directory_in_use r.0 c.args.dir r.3.directory)

pub inode-inode-requires-clause-may : goal.inode-inode-requires-clause-may
inode-inode-requires-clause-may c = c.forget_name.ensures.looks.may

pub edit_dir-requires-clause-mid : goal.edit_dir-requires-clause-mid
edit_dir-requires-clause-mid c =
    let r = c.requires.stands in
    let i = c.inode-inode in
    let s = i.ensures.looks.stands r.0 r.1 (c.forget_name.ensures.looks.stands r.0 r.1 r.2) in (
      r.0,
      r.0,
      r.1,
      mid_of i.new.heap i.new.self r.0 r.1 s,
      r.3.directory,
      (subst (λ (n : List ℕ). HasEntry r.0 c.args.dir n) (sym c.copy.ensures) (has_entry r.0 c.args.dir c.args.name.now c.args.number r.2.is_tree r.3.there), subst (λ (n : List ℕ). IsName n) (sym c.copy-2.ensures) r.3.valid.valid, in_use_above r.0 c.args.number (found_in_use r.0 c.args.dir c.args.name.now c.args.number r.2.is_tree r.3.there)),
    )

pub edit_dir-requires-clause-node : goal.edit_dir-requires-clause-node
edit_dir-requires-clause-node c =
    let i = c.inode-inode in
    subst (λ disk. HasNode disk c.args.dir i.result) (sym i.ensures.looks.on.bytes) i.ensures.has

pub edit_dir-requires-clause-may : goal.edit_dir-requires-clause-may
edit_dir-requires-clause-may c = free_of c.inode-inode.new.heap c.inode-inode.new.purse c.inode-inode.ensures.looks.may

pub returns-clause-stands : goal.returns-clause-stands
returns-clause-stands c = λ tree pins stands.
    let r = c.requires.stands in
    let i = c.inode-inode in
    let e = c.edit_dir in
    let s = i.ensures.looks.stands tree pins (c.forget_name.ensures.looks.stands tree pins stands) in
    let may = subst (λ (t : Tree). MayMove t c.args.dir c.args.name.now c.args.number c.args.dir c.args.new.now) (one_tree c.args.self.now.disk.blocks r.0 tree r.2.behind stands.behind) r.3 in
    let first = e.ensures.mid tree tree pins (mid_of i.new.heap i.new.self tree pins s) in
    let named = subst (λ (n : List ℕ). MidWay e.new.heap e.new.self tree (with_entries tree c.args.dir (entry_renamed n c.copy-2.result c.args.number)) pins) c.copy.ensures first in
    let both = subst (λ (n : List ℕ). MidWay e.new.heap e.new.self tree (with_entries tree c.args.dir (entry_renamed c.args.name.now n c.args.number)) pins) c.copy-2.ensures named in
    let last = subst (λ (t : Tree). MidWay e.new.heap e.new.self tree t pins) (sym (within_is tree c.args.dir c.args.name.now c.args.number c.args.new.now)) both in
    let none : name_slot e.new.self.names (name_key c.args.dir c.args.name.now) ≡ None = ap (λ o. name_slot o (name_key c.args.dir c.args.name.now)) (e.ensures.names ∙ i.ensures.names) ∙ c.forget_name.ensures.gone in
    moved_stands e.new.heap e.new.self tree pins c.args.dir c.args.name.now c.args.number c.args.dir c.args.new.now stands.is_tree may (λ apart. absurd (apart refl)) none last

pub returns-clause-pays : goal.returns-clause-pays
returns-clause-pays c =
    let f = c.forget_name in
    let i = c.inode-inode in
    let e = c.edit_dir in
    pays_trans c.args.heap.now i.new.heap e.new.heap c.args.purse.now i.new.purse e.new.purse c.args.self.now i.new.self e.new.self
    (looks_trans c.args.heap.now f.new.heap i.new.heap c.args.purse.now f.new.purse i.new.purse c.args.self.now f.new.self i.new.self f.ensures.looks i.ensures.looks) e.ensures.pays

pub returns-clause-lowest : goal.returns-clause-lowest
returns-clause-lowest c =
    let i = c.inode-inode in
    let e = c.edit_dir in
    preferred_then c.args.self.now.disk.blocks i.new.self.disk.blocks e.new.self.disk.blocks (i.ensures.looks.on.bytes ∙ c.forget_name.ensures.looks.on.bytes)
    (none_preferred i.new.self.disk.blocks e.new.self.disk.blocks e.ensures.takes.0)
