use Rattle.std.proofs.Common.{ℕ, Bool, not, ◌&&◌, eqb, Option, Some, None, Result, Ok, Err, refl, sym, ap, ◌∙◌, subst}
use Rattle.kabi_types.specs.declared.errnos.Errno.{Errno}
use Rattle.posix_defs.specs.Tree.{Tree}
use Rattle.posix_defs.specs.TreeChanges.{rename_over}
use Rattle.tree_laws.proofs.TreeFacts.{found_in_use}
use Rattle.tree_laws.proofs.TreeKeeps.{found_not_root}
use Rattle.blk_map.proofs.Taken.{preferred_then, unchanged_preferred}
use Rattle.memfs_ops.specs.FileTree.{Stands}
use Rattle.memfs_ops.specs.Removing.{ToldTo}
use Rattle.memfs_ops.proofs.LookLemmas.{looks_trans, pays_of, pays_trans}
use Rattle.memfs_ops.proofs.RemoveLemmas.{held_same}
use Rattle.memfs_ops.proofs.RenameLemmas.{replace_may, full_alike, onto_is, no_fault}
use Rattle.memfs_ops.proofs.file_tree.FileTree.replace.Goals as goal

pub inode-moved-requires-clause-stands : goal.inode-moved-requires-clause-stands
inode-moved-requires-clause-stands g c =
    let r = c.requires.stands in
    (r.0, r.1, r.2, found_in_use r.0 c.args.dir c.args.name.now c.args.number r.2.is_tree r.3)

pub inode-gone-requires-clause-stands : goal.inode-gone-requires-clause-stands
inode-gone-requires-clause-stands g c =
    let r = c.requires.stands in
    (r.0, r.1, c.inode-moved.ensures.looks.stands r.0 r.1 r.2, found_in_use r.0 c.args.to c.args.new.now c.args.replaced r.2.is_tree r.4)

pub inode-gone-requires-clause-may : goal.inode-gone-requires-clause-may
inode-gone-requires-clause-may g c = c.inode-moved.ensures.looks.may

pub returns-in-Some-clause-answer : goal.returns-in-Some-clause-answer
returns-in-Some-clause-answer g c = λ tree pins stands.
    let r = c.requires.stands in
    let a = c.inode-moved in
    let b = c.inode-gone in
    let s = a.ensures.looks.stands tree pins stands in
    let shows = b.ensures.value tree pins s in
    let from = c.is_directory-moves.ensures tree c.args.number (a.ensures.value tree pins stands) in
    let over = c.is_directory-goes.ensures tree c.args.replaced shows in
    let full = full_alike tree c.args.replaced b.result c.is_directory-goes.result (eqb b.result.size 64) shows over refl in
    let held = held_same c.args.heap.now c.args.self.now r.0 tree r.1 pins c.args.replaced c.busy-used.result r.2 stands (r.6 c.args.replaced c.busy-used.result c.busy-used.ensures (found_not_root r.0 c.args.to c.args.new.now c.args.replaced r.2.is_tree r.4)) in
    let is = onto_is tree pins c.args.dir c.args.name.now c.args.number c.args.to c.args.new.now c.args.replaced (Some c.in-Some.errno) c.is_directory-moves.result c.is_directory-goes.result (eqb b.result.size 64) c.busy-used.result c.requires.other from over full held c.in-Some.ensures in
    subst (λ (led : Result (Option ℕ × Tree) Errno). ToldTo b.new.heap b.new.self tree led pins (Err c.in-Some.errno)) (sym is) (refl, b.ensures.looks.stands tree pins s)

pub returns-in-Some-clause-pays : goal.returns-in-Some-clause-pays
returns-in-Some-clause-pays g c =
    let a = c.inode-moved in
    let b = c.inode-gone in
    pays_of c.args.heap.now b.new.heap c.args.purse.now b.new.purse c.args.self.now b.new.self
    (looks_trans c.args.heap.now a.new.heap b.new.heap c.args.purse.now a.new.purse b.new.purse c.args.self.now a.new.self b.new.self a.ensures.looks b.ensures.looks)

pub stays_open-opened-requires-clause-stands : goal.stays_open-opened-requires-clause-stands
stays_open-opened-requires-clause-stands g c =
    let r = c.requires.stands in
    let b = c.inode-gone in
    let s = c.inode-moved.ensures.looks.stands r.0 r.1 r.2 in
    (r.0, r.1, b.ensures.looks.stands r.0 r.1 s, b.ensures.value r.0 r.1 s)

pub stays_open-opened-requires-clause-there : goal.stays_open-opened-requires-clause-there
stays_open-opened-requires-clause-there g c = c.inode-gone.ensures.kept

pub move_over-requires-clause-stands : goal.move_over-requires-clause-stands
move_over-requires-clause-stands g c =
    let r = c.requires.stands in
    let a = c.inode-moved in
    let b = c.inode-gone in
    let s = a.ensures.looks.stands r.0 r.1 r.2 in
    let shows = b.ensures.value r.0 r.1 s in
    let over = c.is_directory-goes.ensures r.0 c.args.replaced shows in
    let full = full_alike r.0 c.args.replaced b.result c.is_directory-goes.result (eqb b.result.size 64) shows over refl in
    let held = sym (r.6 c.args.replaced c.busy-used.result c.busy-used.ensures (found_not_root r.0 c.args.to c.args.new.now c.args.replaced r.2.is_tree r.4)) in
    let fine = no_fault r.0 r.1 c.args.replaced (c.is_directory-goes.result && not c.is_directory-moves.result) (c.is_directory-moves.result && not c.is_directory-goes.result) (eqb b.result.size 64) c.busy-used.result c.is_directory-goes.result over full held c.in-None.ensures in
    let after = b.ensures.looks.stands r.0 r.1 s in
    (r.0, r.1, after, replace_may r.0 r.1 c.args.dir c.args.name.now c.args.number c.args.to c.args.new.now c.args.replaced c.stays_open-opened.result r.3 r.4 c.requires.other r.5 r.7 (c.stays_open-opened.ensures r.0 r.1 after) fine.0 fine.1)

pub move_over-requires-clause-may : goal.move_over-requires-clause-may
move_over-requires-clause-may g c = c.inode-gone.ensures.looks.may

pub returns-in-None-clause-answer : goal.returns-in-None-clause-answer
returns-in-None-clause-answer g c = λ tree pins stands.
    let r = c.requires.stands in
    let a = c.inode-moved in
    let b = c.inode-gone in
    let m = c.move_over in
    let s = a.ensures.looks.stands tree pins stands in
    let shows = b.ensures.value tree pins s in
    let from = c.is_directory-moves.ensures tree c.args.number (a.ensures.value tree pins stands) in
    let over = c.is_directory-goes.ensures tree c.args.replaced shows in
    let full = full_alike tree c.args.replaced b.result c.is_directory-goes.result (eqb b.result.size 64) shows over refl in
    let held = held_same c.args.heap.now c.args.self.now r.0 tree r.1 pins c.args.replaced c.busy-used.result r.2 stands (r.6 c.args.replaced c.busy-used.result c.busy-used.ensures (found_not_root r.0 c.args.to c.args.new.now c.args.replaced r.2.is_tree r.4)) in
    let is = onto_is tree pins c.args.dir c.args.name.now c.args.number c.args.to c.args.new.now c.args.replaced None c.is_directory-moves.result c.is_directory-goes.result (eqb b.result.size 64) c.busy-used.result c.requires.other from over full held c.in-None.ensures in
    let after = b.ensures.looks.stands tree pins s in
    let opened = c.stays_open-opened.ensures tree pins after in
    subst (λ (led : Result (Option ℕ × Tree) Errno). ToldTo m.new.heap m.new.self tree led pins (Ok c.socket_freed.result)) (sym is)
    (ap Ok (c.socket_freed.ensures tree shows), subst (λ (x : Bool). Stands m.new.heap m.new.self (rename_over tree c.args.dir c.args.name.now c.args.number c.args.to c.args.new.now c.args.replaced x) pins) opened (m.ensures.stands tree pins after))

pub returns-in-None-clause-pays : goal.returns-in-None-clause-pays
returns-in-None-clause-pays g c =
    let a = c.inode-moved in
    let b = c.inode-gone in
    let m = c.move_over in
    pays_trans c.args.heap.now b.new.heap m.new.heap c.args.purse.now b.new.purse m.new.purse c.args.self.now b.new.self m.new.self
    (looks_trans c.args.heap.now a.new.heap b.new.heap c.args.purse.now a.new.purse b.new.purse c.args.self.now a.new.self b.new.self a.ensures.looks b.ensures.looks) m.ensures.pays

pub returns-in-Some-clause-lowest : goal.returns-in-Some-clause-lowest
returns-in-Some-clause-lowest g c = unchanged_preferred c.args.self.now.disk.blocks c.inode-gone.new.self.disk.blocks (c.inode-gone.ensures.looks.on.bytes ∙ c.inode-moved.ensures.looks.on.bytes)

pub returns-in-None-clause-lowest : goal.returns-in-None-clause-lowest
returns-in-None-clause-lowest g c = preferred_then c.args.self.now.disk.blocks c.inode-gone.new.self.disk.blocks c.move_over.new.self.disk.blocks (c.inode-gone.ensures.looks.on.bytes ∙ c.inode-moved.ensures.looks.on.bytes) c.move_over.ensures.lowest
