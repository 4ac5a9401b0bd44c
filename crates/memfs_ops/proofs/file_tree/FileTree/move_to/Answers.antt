use Rattle.std.proofs.Common.{◌≡◌, ℕ, Bool, true, None, not, List, Result, Ok, Err, refl, sym, ap, ◌∙◌, subst}
use Rattle.kabi_types.specs.declared.errnos.Errno.{Errno}
use Rattle.kabi_types.specs.declared.errnos.Errno.TheVariants.{ENOSPC}
use Rattle.lru_index.specs.NameKeys.{name_key}
use Rattle.name_cache.specs.Names.{name_slot}
use Rattle.posix_defs.specs.DiskFormat.{IsName}
use Rattle.posix_defs.specs.SoundDisk.{HasNode}
use Rattle.posix_defs.specs.PathCalls as calls
use Rattle.posix_defs.specs.Tree.{Tree}
use Rattle.posix_defs.specs.TreeChanges.{with_entries, entry_put, entry_taken, hung_if_directory, takes_entry, rename_to}
use Rattle.posix_defs.proofs.TreeNodes.{directory_in_use, found_in_directory}
use Rattle.disk_laws.proofs.DiskNodes.{one_tree}
use Rattle.tree_laws.proofs.TreeFacts.{found_in_use}
use Rattle.tree_laws.proofs.RenameSteps.{to_steps}
use Rattle.memfs_dir.specs.Listed.{IsFull}
use Rattle.blk_map.proofs.Taken.{preferred_then, taken_and_given, unchanged_preferred}
use Rattle.memfs_ops.specs.Changing.{MidWay, ChangedTo}
use Rattle.memfs_ops.specs.Entries.{HasEntry}
use Rattle.memfs_ops.specs.Renaming.{MayMove}
use Rattle.memfs_ops.proofs.LookLemmas.{looks_trans, pays_trans}
use Rattle.memfs_ops.proofs.PaysLemmas.{pays_on}
use Rattle.memfs_ops.proofs.StepLemmas.{mid_of}
use Rattle.memfs_ops.proofs.RemoveLemmas.{free_of, has_entry, in_use_above}
use Rattle.memfs_ops.proofs.LinkLemmas.{takes_or_not}
use Rattle.memfs_ops.proofs.RenameLemmas.{moved_stands, beyond_is, not_in_itself, file_or_apart}
use Rattle.memfs_ops.proofs.file_tree.FileTree.move_to.Goals as goal

pub forget_name-requires-clause-stands : goal.forget_name-requires-clause-stands
forget_name-requires-clause-stands c =
    let r = c.requires.stands in
    (r.0, r.1, r.2)

pub inode-from-requires-clause-stands : goal.inode-from-requires-clause-stands
inode-from-requires-clause-stands c =
    let r = c.requires.stands in
    (r.0, r.1, c.forget_name.ensures.looks.stands r.0 r.1 r.2, directory_in_use r.0 c.args.dir (found_in_directory r.0 c.args.dir c.args.name.now c.args.number r.3.there))

pub inode-from-requires-clause-may : goal.inode-from-requires-clause-may
inode-from-requires-clause-may c = c.forget_name.ensures.looks.may

pub inode-into-requires-clause-stands : goal.inode-into-requires-clause-stands
inode-into-requires-clause-stands c =
    let r = c.requires.stands in
    (r.0, r.1, c.inode-from.ensures.looks.stands r.0 r.1 (c.forget_name.ensures.looks.stands r.0 r.1 r.2), directory_in_use r.0 c.args.to r.3.directory)

pub inode-into-requires-clause-may : goal.inode-into-requires-clause-may
inode-into-requires-clause-may c = c.inode-from.ensures.looks.may

pub inode-moved-requires-clause-stands : goal.inode-moved-requires-clause-stands
inode-moved-requires-clause-stands c =
    let r = c.requires.stands in
    (r.0, r.1, c.inode-into.ensures.looks.stands r.0 r.1 (c.inode-from.ensures.looks.stands r.0 r.1 (c.forget_name.ensures.looks.stands r.0 r.1 r.2)), found_in_use r.0 c.args.dir c.args.name.now c.args.number r.2.is_tree r.3.there)

pub inode-moved-requires-clause-may : goal.inode-moved-requires-clause-may
inode-moved-requires-clause-may c = c.inode-into.ensures.looks.may

pub has_room-requires-clause-stands : goal.has_room-requires-clause-stands
has_room-requires-clause-stands c =
    let r = c.requires.stands in
    let s = c.inode-moved.ensures.looks.stands r.0 r.1 (c.inode-into.ensures.looks.stands r.0 r.1 (c.inode-from.ensures.looks.stands r.0 r.1 (c.forget_name.ensures.looks.stands r.0 r.1 r.2))) in
    (r.0, r.1, s)

pub has_room-requires-clause-node : goal.has_room-requires-clause-node
has_room-requires-clause-node c = (c.args.to, subst (λ disk. HasNode disk c.args.to c.inode-into.result) (sym (c.inode-moved.ensures.looks.on.bytes ∙ c.inode-into.ensures.looks.on.bytes)) c.inode-into.ensures.has)

pub has_room-requires-clause-may : goal.has_room-requires-clause-may
has_room-requires-clause-may c = free_of c.inode-moved.new.heap c.inode-moved.new.purse c.inode-moved.ensures.looks.may

pub edit_dir-requires-clause-mid : goal.edit_dir-requires-clause-mid
edit_dir-requires-clause-mid c =
    let r = c.requires.stands in
    let s = c.has_room.ensures.stands r.0 r.1 (c.inode-moved.ensures.looks.stands r.0 r.1 (c.inode-into.ensures.looks.stands r.0 r.1 (c.inode-from.ensures.looks.stands r.0 r.1 (c.forget_name.ensures.looks.stands r.0 r.1 r.2)))) in
    let room : ¬ (IsFull c.inode-moved.new.self.disk.blocks c.inode-into.result) = c.has_room.ensures.value.0 c.if-not-has_room.false in
    let here = subst (λ disk. ¬ (IsFull disk c.inode-into.result)) (sym c.has_room.ensures.bytes) room in (
      r.0,
      r.0,
      r.1,
      mid_of c.has_room.new.heap c.has_room.new.self r.0 r.1 s,
      r.3.directory,
      (subst (λ (n : List ℕ). IsName n) (sym c.copy.ensures) r.3.valid.valid, in_use_above r.0 c.args.number (found_in_use r.0 c.args.dir c.args.name.now c.args.number r.2.is_tree r.3.there), here),
    )

pub edit_dir-requires-clause-node : goal.edit_dir-requires-clause-node
edit_dir-requires-clause-node c = subst (λ disk. HasNode disk c.args.to c.inode-into.result) (sym (c.has_room.ensures.bytes ∙ c.inode-moved.ensures.looks.on.bytes ∙ c.inode-into.ensures.looks.on.bytes)) c.inode-into.ensures.has

pub edit_dir-requires-clause-may : goal.edit_dir-requires-clause-may
edit_dir-requires-clause-may c = c.has_room.ensures.may

pub edit_dir-requires-2-clause-mid : goal.edit_dir-requires-2-clause-mid
edit_dir-requires-2-clause-mid c =
    let r = c.requires.stands in
    let s = c.has_room.ensures.stands r.0 r.1 (c.inode-moved.ensures.looks.stands r.0 r.1 (c.inode-into.ensures.looks.stands r.0 r.1 (c.inode-from.ensures.looks.stands r.0 r.1 (c.forget_name.ensures.looks.stands r.0 r.1 r.2)))) in
    let steps = to_steps r.0 c.args.dir c.args.name.now c.args.number c.args.to c.copy.result r.3.there r.3.directory c.requires.apart in
    let own = has_entry r.0 c.args.dir c.args.name.now c.args.number r.2.is_tree r.3.there in (
      r.0,
      with_entries r.0 c.args.to (entry_put c.copy.result c.args.number),
      r.1,
      c.edit_dir.ensures.mid r.0 r.0 r.1 (mid_of c.has_room.new.heap c.has_room.new.self r.0 r.1 s),
      steps.0,
      subst (λ (n : List ℕ). HasEntry (with_entries r.0 c.args.to (entry_put c.copy.result c.args.number)) c.args.dir n) (sym c.copy-2.ensures) (record { node = c.args.number; there = steps.1; own = own.own; parent = own.parent }),
    )

pub edit_dir-requires-2-clause-node : goal.edit_dir-requires-2-clause-node
edit_dir-requires-2-clause-node c =
    let a = c.inode-from in
    let has = subst (λ disk. HasNode disk c.args.dir a.result) (sym (c.has_room.ensures.bytes ∙ c.inode-moved.ensures.looks.on.bytes ∙ c.inode-into.ensures.looks.on.bytes ∙ a.ensures.looks.on.bytes)) a.ensures.has in
    c.edit_dir.ensures.others.nodes c.args.dir a.result c.requires.apart has

pub edit_dir-requires-2-clause-may : goal.edit_dir-requires-2-clause-may
edit_dir-requires-2-clause-may c = c.edit_dir.ensures.may

pub hang_moved-requires-clause-mid : goal.hang_moved-requires-clause-mid
hang_moved-requires-clause-mid c =
    let r = c.requires.stands in
    let s = c.has_room.ensures.stands r.0 r.1 (c.inode-moved.ensures.looks.stands r.0 r.1 (c.inode-into.ensures.looks.stands r.0 r.1 (c.inode-from.ensures.looks.stands r.0 r.1 (c.forget_name.ensures.looks.stands r.0 r.1 r.2)))) in
    let t1 : Tree = with_entries r.0 c.args.to (entry_put c.copy.result c.args.number) in
    let t2 : Tree = with_entries t1 c.args.dir (entry_taken c.copy-2.result) in
    (r.0, t2, r.1, c.edit_dir-2.ensures.mid r.0 t1 r.1 (c.edit_dir.ensures.mid r.0 r.0 r.1 (mid_of c.has_room.new.heap c.has_room.new.self r.0 r.1 s)))

pub hang_moved-requires-clause-node : goal.hang_moved-requires-clause-node
hang_moved-requires-clause-node c =
    let r = c.requires.stands in
    let m = c.inode-moved in
    let has = subst (λ disk. HasNode disk c.args.number m.result) (sym (c.has_room.ensures.bytes ∙ m.ensures.looks.on.bytes)) m.ensures.has in
    let not_dir = not_in_itself r.0 c.args.dir c.args.name.now c.args.number r.2.is_tree r.3.there in
    let not_to = file_or_apart r.0 c.args.number c.args.to r.3.directory r.3.off in
    c.edit_dir-2.ensures.others.nodes c.args.number m.result not_dir (c.edit_dir.ensures.others.nodes c.args.number m.result not_to has)

pub hang_moved-requires-clause-parent : goal.hang_moved-requires-clause-parent
hang_moved-requires-clause-parent c = c.inode-into.ensures.has.0.number.0

pub hang_moved-requires-clause-may : goal.hang_moved-requires-clause-may
hang_moved-requires-clause-may c = c.edit_dir-2.ensures.may

pub returns-then-not-has_room-clause-answer : goal.returns-then-not-has_room-clause-answer
returns-then-not-has_room-clause-answer c = λ tree pins stands.
    let b = c.inode-into in
    let h = c.has_room in
    let s1 = c.inode-moved.ensures.looks.stands tree pins (b.ensures.looks.stands tree pins (c.inode-from.ensures.looks.stands tree pins (c.forget_name.ensures.looks.stands tree pins stands))) in
    let has = subst (λ disk. HasNode disk c.args.to b.result) (sym (c.inode-moved.ensures.looks.on.bytes ∙ b.ensures.looks.on.bytes)) b.ensures.has in
    let full = takes_or_not c.inode-moved.new.self.disk.blocks tree c.args.to b.result h.result s1.behind has h.ensures.value ∙ c.if-not-has_room.true in
    let led : Result Tree Errno = Ok (rename_to tree c.args.dir c.args.name.now c.args.number c.args.to c.args.new.now) in
    subst (λ (takes : Bool). ChangedTo h.new.heap h.new.self tree (calls.unless (not takes) ENOSPC led) pins (Err ENOSPC)) (sym full) (refl, h.ensures.stands tree pins s1)

pub returns-then-not-has_room-clause-pays : goal.returns-then-not-has_room-clause-pays
returns-then-not-has_room-clause-pays c =
    let f = c.forget_name in
    let a = c.inode-from in
    let b = c.inode-into in
    let m = c.inode-moved in
    let h = c.has_room in
    pays_trans c.args.heap.now m.new.heap h.new.heap c.args.purse.now m.new.purse h.new.purse c.args.self.now m.new.self h.new.self
    (looks_trans c.args.heap.now a.new.heap m.new.heap c.args.purse.now a.new.purse m.new.purse c.args.self.now a.new.self m.new.self
    (looks_trans c.args.heap.now f.new.heap a.new.heap c.args.purse.now f.new.purse a.new.purse c.args.self.now f.new.self a.new.self f.ensures.looks a.ensures.looks)
    (looks_trans a.new.heap b.new.heap m.new.heap a.new.purse b.new.purse m.new.purse a.new.self b.new.self m.new.self b.ensures.looks m.ensures.looks)) h.ensures.pays

pub returns-clause-answer : goal.returns-clause-answer
returns-clause-answer c = λ tree pins stands.
    let r = c.requires.stands in
    let b = c.inode-into in
    let h = c.has_room in
    let l = c.hang_moved in
    let s1 = c.inode-moved.ensures.looks.stands tree pins (b.ensures.looks.stands tree pins (c.inode-from.ensures.looks.stands tree pins (c.forget_name.ensures.looks.stands tree pins stands))) in
    let has = subst (λ disk. HasNode disk c.args.to b.result) (sym (c.inode-moved.ensures.looks.on.bytes ∙ b.ensures.looks.on.bytes)) b.ensures.has in
    let room : takes_entry tree c.args.to 0 ≡ true = takes_or_not c.inode-moved.new.self.disk.blocks tree c.args.to b.result h.result s1.behind has h.ensures.value ∙ c.if-not-has_room.false in
    let may = subst (λ (t : Tree). MayMove t c.args.dir c.args.name.now c.args.number c.args.to c.args.new.now) (one_tree c.args.self.now.disk.blocks r.0 tree r.2.behind stands.behind) r.3 in
    let t1 : Tree = with_entries tree c.args.to (entry_put c.copy.result c.args.number) in
    let t2 : Tree = with_entries t1 c.args.dir (entry_taken c.copy-2.result) in
    let first = c.edit_dir.ensures.mid tree tree pins (mid_of h.new.heap h.new.self tree pins (h.ensures.stands tree pins s1)) in
    let last = l.ensures.mid tree t2 pins (c.edit_dir-2.ensures.mid tree t1 pins first) in
    let named = subst (λ (n : List ℕ). MidWay l.new.heap l.new.self tree (hung_if_directory (with_entries (with_entries tree c.args.to (entry_put n c.args.number)) c.args.dir (entry_taken c.copy-2.result)) c.args.number c.args.to) pins) c.copy.ensures last in
    let both = subst (λ (n : List ℕ). MidWay l.new.heap l.new.self tree (hung_if_directory (with_entries (with_entries tree c.args.to (entry_put c.args.new.now c.args.number)) c.args.dir (entry_taken n)) c.args.number c.args.to) pins) c.copy-2.ensures named in
    let whole = subst (λ (t : Tree). MidWay l.new.heap l.new.self tree t pins) (sym (beyond_is tree c.args.dir c.args.name.now c.args.number c.args.to c.args.new.now c.requires.apart)) both in
    let none : name_slot l.new.self.names (name_key c.args.dir c.args.name.now) ≡ None = ap (λ o. name_slot o (name_key c.args.dir c.args.name.now)) (l.ensures.names ∙ c.edit_dir-2.ensures.names ∙ c.edit_dir.ensures.names ∙ h.ensures.names ∙ c.inode-moved.ensures.names ∙ b.ensures.names ∙ c.inode-from.ensures.names) ∙ c.forget_name.ensures.gone in
    let led : Result Tree Errno = Ok (rename_to tree c.args.dir c.args.name.now c.args.number c.args.to c.args.new.now) in
    subst (λ (takes : Bool). ChangedTo l.new.heap l.new.self tree (calls.unless (not takes) ENOSPC led) pins (Ok tt)) (sym room)
    (refl, moved_stands l.new.heap l.new.self tree pins c.args.dir c.args.name.now c.args.number c.args.to c.args.new.now stands.is_tree may (λ apart. room) none whole)

pub returns-clause-pays : goal.returns-clause-pays
returns-clause-pays c =
    let f = c.forget_name in
    let a = c.inode-from in
    let b = c.inode-into in
    let m = c.inode-moved in
    let h = c.has_room in
    let d = c.edit_dir in
    let e = c.edit_dir-2 in
    let l = c.hang_moved in
    pays_trans c.args.heap.now m.new.heap l.new.heap c.args.purse.now m.new.purse l.new.purse c.args.self.now m.new.self l.new.self
    (looks_trans c.args.heap.now a.new.heap m.new.heap c.args.purse.now a.new.purse m.new.purse c.args.self.now a.new.self m.new.self
    (looks_trans c.args.heap.now f.new.heap a.new.heap c.args.purse.now f.new.purse a.new.purse c.args.self.now f.new.self a.new.self f.ensures.looks a.ensures.looks)
    (looks_trans a.new.heap b.new.heap m.new.heap a.new.purse b.new.purse m.new.purse a.new.self b.new.self m.new.self b.ensures.looks m.ensures.looks))
    (pays_on m.new.heap d.new.heap l.new.heap m.new.purse d.new.purse l.new.purse m.new.self d.new.self l.new.self
    (pays_on m.new.heap h.new.heap d.new.heap m.new.purse h.new.purse d.new.purse m.new.self h.new.self d.new.self h.ensures.pays d.ensures.pays)
    (pays_on d.new.heap e.new.heap l.new.heap d.new.purse e.new.purse l.new.purse d.new.self e.new.self l.new.self e.ensures.pays l.ensures.pays))

pub returns-then-not-has_room-clause-lowest : goal.returns-then-not-has_room-clause-lowest
returns-then-not-has_room-clause-lowest c =
    let h = c.has_room in
    unchanged_preferred c.args.self.now.disk.blocks h.new.self.disk.blocks
    (h.ensures.bytes ∙ c.inode-moved.ensures.looks.on.bytes ∙ c.inode-into.ensures.looks.on.bytes ∙ c.inode-from.ensures.looks.on.bytes ∙ c.forget_name.ensures.looks.on.bytes)

pub returns-clause-lowest : goal.returns-clause-lowest
returns-clause-lowest c =
    let r = c.requires.stands in
    let h = c.has_room in
    let d = c.edit_dir in
    let e = c.edit_dir-2 in
    let l = c.hang_moved in
    let s = h.ensures.stands r.0 r.1 (c.inode-moved.ensures.looks.stands r.0 r.1 (c.inode-into.ensures.looks.stands r.0 r.1 (c.inode-from.ensures.looks.stands r.0 r.1 (c.forget_name.ensures.looks.stands r.0 r.1 r.2)))) in
    preferred_then c.args.self.now.disk.blocks h.new.self.disk.blocks l.new.self.disk.blocks
    (h.ensures.bytes ∙ c.inode-moved.ensures.looks.on.bytes ∙ c.inode-into.ensures.looks.on.bytes ∙ c.inode-from.ensures.looks.on.bytes ∙ c.forget_name.ensures.looks.on.bytes)
    (taken_and_given h.new.self.disk.blocks d.new.self.disk.blocks e.new.self.disk.blocks l.new.self.disk.blocks c.args.to c.args.dir (λ same. c.requires.apart (sym same)) s.behind.sound
    d.ensures.changes e.ensures.changes l.ensures.blocks d.ensures.takes e.ensures.takes l.ensures.takes_none l.ensures.frees_none)
