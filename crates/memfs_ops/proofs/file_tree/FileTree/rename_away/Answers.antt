use Rattle.std.proofs.Common.{◌≡◌, ℕ, Bool, true, false, not, ◌&&◌, eqb, Option, None, Result, Ok, Err, refl, sym, ap, ◌∙◌, subst}
use Rattle.kabi_types.specs.declared.errnos.Errno.{Errno}
use Rattle.kabi_types.specs.declared.errnos.Errno.TheVariants.{EINVAL, ENOSPC, ENOTDIR}
use Rattle.posix_defs.specs.PathCalls as calls
use Rattle.posix_defs.specs.Tree.{Tree, is_directory}
use Rattle.posix_defs.specs.TreeChanges.{rename_to, takes_entry}
use Rattle.tree_laws.proofs.TreeFacts.{found_in_use}
use Rattle.blk_map.proofs.Taken.{preferred_then, unchanged_preferred}
use Rattle.memfs_ops.specs.Removing.{ToldTo}
use Rattle.memfs_ops.specs.Renaming.{MayMove}
use Rattle.memfs_ops.proofs.LookLemmas.{looks_trans, pays_of, pays_trans}
use Rattle.memfs_ops.proofs.RenameLemmas.{off_way, away_within, away_beyond, told_nothing}
use Rattle.memfs_ops.proofs.file_tree.FileTree.rename_away.Goals as goal

pub goes_below-requires-clause-stands : goal.goes_below-requires-clause-stands
goes_below-requires-clause-stands c =
    let r = c.requires.stands in
    (r.0, r.1, r.2, found_in_use r.0 c.args.dir c.args.name.now c.args.number r.2.is_tree r.3, r.4)

pub returns-then-goes_below-clause-answer : goal.returns-then-goes_below-clause-answer
returns-then-goes_below-clause-answer c = λ tree pins stands.
    let b = c.goes_below in
    let rest : Result (Option ℕ × Tree) Errno = calls.rename_away tree c.args.dir c.args.name.now c.args.number c.args.to c.args.new.now c.args.slash in
    subst (λ (x : Bool). ToldTo b.new.heap b.new.self tree (calls.unless x EINVAL rest) pins (Err EINVAL)) (sym (sym (b.ensures.value tree pins stands) ∙ c.if-goes_below.true)) (refl, b.ensures.looks.stands tree pins stands)

pub returns-then-goes_below-clause-pays : goal.returns-then-goes_below-clause-pays
returns-then-goes_below-clause-pays c = pays_of c.args.heap.now c.goes_below.new.heap c.args.purse.now c.goes_below.new.purse c.args.self.now c.goes_below.new.self c.goes_below.ensures.looks

pub inode-moved-requires-clause-stands : goal.inode-moved-requires-clause-stands
inode-moved-requires-clause-stands c =
    let r = c.requires.stands in
    (r.0, r.1, c.goes_below.ensures.looks.stands r.0 r.1 r.2, found_in_use r.0 c.args.dir c.args.name.now c.args.number r.2.is_tree r.3)

pub inode-moved-requires-clause-may : goal.inode-moved-requires-clause-may
inode-moved-requires-clause-may c = c.goes_below.ensures.looks.may

pub returns-then-lacks_directory-clause-answer : goal.returns-then-lacks_directory-clause-answer
returns-then-lacks_directory-clause-answer c = λ tree pins stands.
    let b = c.goes_below in
    let i = c.inode-moved in
    let s = b.ensures.looks.stands tree pins stands in
    let lacks : (c.args.slash && not (is_directory tree c.args.number)) ≡ true = ap (λ d. c.args.slash && not d) (sym (c.is_directory.ensures tree c.args.number (i.ensures.value tree pins s))) ∙ sym c.lacks_directory.ensures ∙ c.if-lacks_directory.true in
    let rest : Result (Option ℕ × Tree) Errno = calls.unless (not (eqb c.args.dir c.args.to) && not (takes_entry tree c.args.to 0)) ENOSPC (Ok (None, rename_to tree c.args.dir c.args.name.now c.args.number c.args.to c.args.new.now)) in
    subst (λ (x : Bool). ToldTo i.new.heap i.new.self tree (calls.unless x EINVAL (calls.rename_away tree c.args.dir c.args.name.now c.args.number c.args.to c.args.new.now c.args.slash)) pins (Err ENOTDIR)) (sym (sym (b.ensures.value tree pins stands) ∙ c.if-goes_below.false))
    (subst (λ (x : Bool). ToldTo i.new.heap i.new.self tree (calls.unless x ENOTDIR rest) pins (Err ENOTDIR)) (sym lacks) (refl, i.ensures.looks.stands tree pins s))

pub returns-then-lacks_directory-clause-pays : goal.returns-then-lacks_directory-clause-pays
returns-then-lacks_directory-clause-pays c =
    let b = c.goes_below in
    let i = c.inode-moved in
    pays_of c.args.heap.now i.new.heap c.args.purse.now i.new.purse c.args.self.now i.new.self
    (looks_trans c.args.heap.now b.new.heap i.new.heap c.args.purse.now b.new.purse i.new.purse c.args.self.now b.new.self i.new.self b.ensures.looks i.ensures.looks)

pub move_within-requires-clause-stands : goal.move_within-requires-clause-stands
move_within-requires-clause-stands c =
    let r = c.requires.stands in
    let b = c.goes_below in
    let fine = sym (b.ensures.value r.0 r.1 r.2) ∙ c.if-goes_below.false in
    let may : MayMove r.0 c.args.dir c.args.name.now c.args.number c.args.to c.args.new.now = record { there = r.3; directory = r.4; free = r.5; valid = c.requires.name; off = off_way r.0 c.args.number c.args.to r.2.is_tree r.4 fine } in
    (r.0, r.1, c.inode-moved.ensures.looks.stands r.0 r.1 (b.ensures.looks.stands r.0 r.1 r.2), subst (λ (n : ℕ). MayMove r.0 c.args.dir c.args.name.now c.args.number n c.args.new.now) (sym c.if-dir-to.true) may)

pub move_within-requires-clause-may : goal.move_within-requires-clause-may
move_within-requires-clause-may c = c.inode-moved.ensures.looks.may

pub returns-then-dir-to-clause-answer : goal.returns-then-dir-to-clause-answer
returns-then-dir-to-clause-answer c = λ tree pins stands.
    let b = c.goes_below in
    let i = c.inode-moved in
    let m = c.move_within in
    let s = b.ensures.looks.stands tree pins stands in
    let has : (c.args.slash && not (is_directory tree c.args.number)) ≡ false = ap (λ d. c.args.slash && not d) (sym (c.is_directory.ensures tree c.args.number (i.ensures.value tree pins s))) ∙ sym c.lacks_directory.ensures ∙ c.if-lacks_directory.false in
    let is = away_within tree c.args.dir c.args.name.now c.args.number c.args.new.now c.args.slash has in
    let here = subst (λ (led : Result (Option ℕ × Tree) Errno). ToldTo m.new.heap m.new.self tree led pins (Ok None)) (sym is) (refl, m.ensures.stands tree pins (i.ensures.looks.stands tree pins s)) in
    subst (λ (x : Bool). ToldTo m.new.heap m.new.self tree (calls.unless x EINVAL (calls.rename_away tree c.args.dir c.args.name.now c.args.number c.args.to c.args.new.now c.args.slash)) pins (Ok None)) (sym (sym (b.ensures.value tree pins stands) ∙ c.if-goes_below.false))
    (subst (λ (n : ℕ). ToldTo m.new.heap m.new.self tree (calls.rename_away tree c.args.dir c.args.name.now c.args.number n c.args.new.now c.args.slash) pins (Ok None)) c.if-dir-to.true here)

pub returns-then-dir-to-clause-pays : goal.returns-then-dir-to-clause-pays
returns-then-dir-to-clause-pays c =
    let b = c.goes_below in
    let i = c.inode-moved in
    let m = c.move_within in
    pays_trans c.args.heap.now i.new.heap m.new.heap c.args.purse.now i.new.purse m.new.purse c.args.self.now i.new.self m.new.self
    (looks_trans c.args.heap.now b.new.heap i.new.heap c.args.purse.now b.new.purse i.new.purse c.args.self.now b.new.self i.new.self b.ensures.looks i.ensures.looks) m.ensures.pays

pub move_to-requires-clause-stands : goal.move_to-requires-clause-stands
move_to-requires-clause-stands c =
    let r = c.requires.stands in
    let b = c.goes_below in
    let fine = sym (b.ensures.value r.0 r.1 r.2) ∙ c.if-goes_below.false in
    (r.0, r.1, c.inode-moved.ensures.looks.stands r.0 r.1 (b.ensures.looks.stands r.0 r.1 r.2), record { there = r.3; directory = r.4; free = r.5; valid = c.requires.name; off = off_way r.0 c.args.number c.args.to r.2.is_tree r.4 fine })

pub move_to-requires-clause-may : goal.move_to-requires-clause-may
move_to-requires-clause-may c = c.inode-moved.ensures.looks.may

pub returns-clause-answer : goal.returns-clause-answer
returns-clause-answer c = λ tree pins stands.
    let b = c.goes_below in
    let i = c.inode-moved in
    let m = c.move_to in
    let s = b.ensures.looks.stands tree pins stands in
    let has : (c.args.slash && not (is_directory tree c.args.number)) ≡ false = ap (λ d. c.args.slash && not d) (sym (c.is_directory.ensures tree c.args.number (i.ensures.value tree pins s))) ∙ sym c.lacks_directory.ensures ∙ c.if-lacks_directory.false in
    let is = away_beyond tree c.args.dir c.args.name.now c.args.number c.args.to c.args.new.now c.args.slash has c.if-dir-to.false in
    let told = told_nothing m.new.heap m.new.self tree (rename_to tree c.args.dir c.args.name.now c.args.number c.args.to c.args.new.now) pins (takes_entry tree c.args.to 0) m.result c.nothing_told.result (m.ensures.answer tree pins (i.ensures.looks.stands tree pins s)) c.nothing_told.ensures in
    subst (λ (x : Bool). ToldTo m.new.heap m.new.self tree (calls.unless x EINVAL (calls.rename_away tree c.args.dir c.args.name.now c.args.number c.args.to c.args.new.now c.args.slash)) pins c.nothing_told.result) (sym (sym (b.ensures.value tree pins stands) ∙ c.if-goes_below.false))
    (subst (λ (led : Result (Option ℕ × Tree) Errno). ToldTo m.new.heap m.new.self tree led pins c.nothing_told.result) (sym is) told)

pub returns-clause-pays : goal.returns-clause-pays
returns-clause-pays c =
    let b = c.goes_below in
    let i = c.inode-moved in
    let m = c.move_to in
    pays_trans c.args.heap.now i.new.heap m.new.heap c.args.purse.now i.new.purse m.new.purse c.args.self.now i.new.self m.new.self
    (looks_trans c.args.heap.now b.new.heap i.new.heap c.args.purse.now b.new.purse i.new.purse c.args.self.now b.new.self i.new.self b.ensures.looks i.ensures.looks) m.ensures.pays

pub returns-then-goes_below-clause-lowest : goal.returns-then-goes_below-clause-lowest
returns-then-goes_below-clause-lowest c = unchanged_preferred c.args.self.now.disk.blocks c.goes_below.new.self.disk.blocks (c.goes_below.ensures.looks.on.bytes)

pub returns-then-lacks_directory-clause-lowest : goal.returns-then-lacks_directory-clause-lowest
returns-then-lacks_directory-clause-lowest c = unchanged_preferred c.args.self.now.disk.blocks c.inode-moved.new.self.disk.blocks (c.inode-moved.ensures.looks.on.bytes ∙ c.goes_below.ensures.looks.on.bytes)

pub returns-then-dir-to-clause-lowest : goal.returns-then-dir-to-clause-lowest
returns-then-dir-to-clause-lowest c = preferred_then c.args.self.now.disk.blocks c.inode-moved.new.self.disk.blocks c.move_within.new.self.disk.blocks (c.inode-moved.ensures.looks.on.bytes ∙ c.goes_below.ensures.looks.on.bytes) c.move_within.ensures.lowest

pub returns-clause-lowest : goal.returns-clause-lowest
returns-clause-lowest c = preferred_then c.args.self.now.disk.blocks c.inode-moved.new.self.disk.blocks c.move_to.new.self.disk.blocks (c.inode-moved.ensures.looks.on.bytes ∙ c.goes_below.ensures.looks.on.bytes) c.move_to.ensures.lowest
