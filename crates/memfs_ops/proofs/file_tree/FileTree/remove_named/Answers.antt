use Rattle.std.proofs.Common.{ℕ, Bool, Option, Result, Ok, Err, refl, sym, ap, ◌∙◌, subst}
use Rattle.kabi_types.specs.declared.errnos.Errno.{Errno}
use Rattle.kabi_types.specs.declared.errnos.Errno.TheVariants.{EPERM}
use Rattle.posix_defs.specs.PathCalls as calls
use Rattle.posix_defs.specs.Tree.{Tree}
use Rattle.posix_defs.specs.TreeChanges.{unlink}
use Rattle.tree_laws.proofs.TreeFacts.{found_in_use}
use Rattle.memfs_ops.specs.FileTree.{Stands}
use Rattle.memfs_ops.specs.Removing.{ToldTo, is_held}
use Rattle.memfs_ops.proofs.LookLemmas.{pays_of, pays_trans}
use Rattle.memfs_ops.proofs.RemoveLemmas.{file_may}
use Rattle.memfs_ops.proofs.file_tree.FileTree.remove_named.Goals as goal

pub inode-inode-requires-clause-stands : goal.inode-inode-requires-clause-stands
inode-inode-requires-clause-stands c =
    let r = c.requires.stands in
    (r.0, r.1, r.2, found_in_use r.0 c.args.parent c.args.name.now c.args.node r.2.is_tree r.3)

pub returns-then-is_directory-clause-answer : goal.returns-then-is_directory-clause-answer
returns-then-is_directory-clause-answer c = λ tree pins stands.
    let i = c.inode-inode in
    let dir = sym (c.is_directory.ensures tree c.args.node (i.ensures.value tree pins stands)) ∙ c.if-is_directory.true in
    let rest : Result (Option ℕ × Tree) Errno = Ok (calls.freed_by tree c.args.node, unlink tree c.args.parent c.args.name.now c.args.node (calls.is_held tree (is_held pins) c.args.node)) in
    subst (λ (b : Bool). ToldTo i.new.heap i.new.self tree (calls.unless b EPERM rest) pins (Err EPERM)) (sym dir) (refl, i.ensures.looks.stands tree pins stands)

pub returns-then-is_directory-clause-pays : goal.returns-then-is_directory-clause-pays
returns-then-is_directory-clause-pays c = pays_of c.args.heap.now c.inode-inode.new.heap c.args.purse.now c.inode-inode.new.purse c.args.self.now c.inode-inode.new.self c.inode-inode.ensures.looks

pub stays_open-opened-requires-clause-stands : goal.stays_open-opened-requires-clause-stands
stays_open-opened-requires-clause-stands c =
    let r = c.requires.stands in
    let i = c.inode-inode in
    (r.0, r.1, i.ensures.looks.stands r.0 r.1 r.2, i.ensures.value r.0 r.1 r.2)

pub stays_open-opened-requires-clause-there : goal.stays_open-opened-requires-clause-there
stays_open-opened-requires-clause-there c = c.inode-inode.ensures.kept

pub take_name-requires-clause-stands : goal.take_name-requires-clause-stands
take_name-requires-clause-stands c =
    let r = c.requires.stands in
    let i = c.inode-inode in
    let s = i.ensures.looks.stands r.0 r.1 r.2 in
    let file = sym (c.is_directory.ensures r.0 c.args.node (i.ensures.value r.0 r.1 r.2)) ∙ c.if-is_directory.false in
    (r.0, r.1, s, file_may r.0 r.1 c.args.parent c.args.name.now c.args.node c.stays_open-opened.result r.3 file r.4 (c.stays_open-opened.ensures r.0 r.1 s))

pub take_name-requires-clause-may : goal.take_name-requires-clause-may
take_name-requires-clause-may c = c.inode-inode.ensures.looks.may

pub returns-clause-answer : goal.returns-clause-answer
returns-clause-answer c = λ tree pins stands.
    let i = c.inode-inode in
    let t = c.take_name in
    let s = i.ensures.looks.stands tree pins stands in
    let shows = i.ensures.value tree pins stands in
    let file = sym (c.is_directory.ensures tree c.args.node shows) ∙ c.if-is_directory.false in
    let opened = c.stays_open-opened.ensures tree pins s in
    let rest : Result (Option ℕ × Tree) Errno = Ok (calls.freed_by tree c.args.node, unlink tree c.args.parent c.args.name.now c.args.node (calls.is_held tree (is_held pins) c.args.node)) in
    subst (λ (b : Bool). ToldTo t.new.heap t.new.self tree (calls.unless b EPERM rest) pins (Ok c.socket_freed.result)) (sym file)
    (ap Ok (c.socket_freed.ensures tree shows), subst (λ (b : Bool). Stands t.new.heap t.new.self (unlink tree c.args.parent c.args.name.now c.args.node b) pins) opened (t.ensures.stands tree pins s))

pub returns-clause-pays : goal.returns-clause-pays
returns-clause-pays c =
    let i = c.inode-inode in
    let t = c.take_name in
    pays_trans c.args.heap.now i.new.heap t.new.heap c.args.purse.now i.new.purse t.new.purse c.args.self.now i.new.self t.new.self i.ensures.looks t.ensures.pays
