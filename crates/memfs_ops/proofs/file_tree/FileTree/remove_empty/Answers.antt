use Rattle.std.proofs.Common.{ℕ, Bool, false, not, List, Result, Ok, Err, refl, sym, ◌∙◌, subst}
use Rattle.kabi_types.specs.declared.errnos.Errno.{Errno}
use Rattle.kabi_types.specs.declared.errnos.Errno.TheVariants.{EBUSY, ENOTDIR, ENOTEMPTY}
use Rattle.posix_defs.specs.PathCalls as calls
use Rattle.posix_defs.specs.Tree.{Tree}
use Rattle.posix_defs.specs.TreeChanges.{unlink}
use Rattle.tree_laws.proofs.TreeFacts.{found_in_use}
use Rattle.tree_laws.proofs.TreeKeeps.{found_not_root}
use Rattle.memfs_ops.specs.Changing.{ChangedTo}
use Rattle.memfs_ops.specs.Removing.{is_held}
use Rattle.memfs_ops.proofs.LookLemmas.{pays_of, pays_trans}
use Rattle.memfs_ops.proofs.RemoveLemmas.{dir_may, empty_is, empty_is_not, emptied, held_same}
use Rattle.memfs_ops.proofs.file_tree.FileTree.remove_empty.Goals as goal

abbrev last : Tree → ℕ → List ℕ → ℕ → Result Tree Errno
last tree dir name number = Ok (unlink tree dir name number false)

pub inode-inode-requires-clause-stands : goal.inode-inode-requires-clause-stands
inode-inode-requires-clause-stands g c =
    let r = c.requires.stands in
    (r.0, r.1, r.2, found_in_use r.0 c.args.parent c.args.name.now c.args.node r.2.is_tree r.3)

pub returns-then-not-is_directory-clause-answer : goal.returns-then-not-is_directory-clause-answer
returns-then-not-is_directory-clause-answer g c = λ tree pins stands.
    let i = c.inode-inode in
    let file = sym (c.is_directory.ensures tree c.args.node (i.ensures.value tree pins stands)) ∙ c.if-not-is_directory.true in
    let rest = calls.unless (not (calls.is_empty tree c.args.node)) ENOTEMPTY (calls.unless (is_held pins c.args.node) EBUSY (last tree c.args.parent c.args.name.now c.args.node)) in
    subst (λ (b : Bool). ChangedTo i.new.heap i.new.self tree (calls.unless (not b) ENOTDIR rest) pins (Err ENOTDIR)) (sym file) (refl, i.ensures.looks.stands tree pins stands)

pub returns-then-not-is_directory-clause-pays : goal.returns-then-not-is_directory-clause-pays
returns-then-not-is_directory-clause-pays g c = pays_of c.args.heap.now c.inode-inode.new.heap c.args.purse.now c.inode-inode.new.purse c.args.self.now c.inode-inode.new.self c.inode-inode.ensures.looks

pub returns-then-inode-ne-NO_ENTRIES-clause-answer : goal.returns-then-inode-ne-NO_ENTRIES-clause-answer
returns-then-inode-ne-NO_ENTRIES-clause-answer g c = λ tree pins stands.
    let i = c.inode-inode in
    let shows = i.ensures.value tree pins stands in
    let dir = sym (c.is_directory.ensures tree c.args.node shows) ∙ c.if-not-is_directory.false in
    let some = empty_is_not tree c.args.node i.result shows dir c.if-inode-ne-NO_ENTRIES.true in
    let rest = calls.unless (is_held pins c.args.node) EBUSY (last tree c.args.parent c.args.name.now c.args.node) in
    subst (λ (b : Bool). ChangedTo i.new.heap i.new.self tree (calls.unless (not b) ENOTDIR (calls.unless (not (calls.is_empty tree c.args.node)) ENOTEMPTY rest)) pins (Err ENOTEMPTY)) (sym dir)
    (subst (λ (b : Bool). ChangedTo i.new.heap i.new.self tree (calls.unless (not b) ENOTEMPTY rest) pins (Err ENOTEMPTY)) (sym some) (refl, i.ensures.looks.stands tree pins stands))

pub returns-then-inode-ne-NO_ENTRIES-clause-pays : goal.returns-then-inode-ne-NO_ENTRIES-clause-pays
returns-then-inode-ne-NO_ENTRIES-clause-pays g c = pays_of c.args.heap.now c.inode-inode.new.heap c.args.purse.now c.inode-inode.new.purse c.args.self.now c.inode-inode.new.self c.inode-inode.ensures.looks

pub returns-then-busy-clause-answer : goal.returns-then-busy-clause-answer
returns-then-busy-clause-answer g c = λ tree pins stands.
    let r = c.requires.stands in
    let i = c.inode-inode in
    let shows = i.ensures.value tree pins stands in
    let dir = sym (c.is_directory.ensures tree c.args.node shows) ∙ c.if-not-is_directory.false in
    let none = empty_is tree c.args.node i.result shows dir c.if-inode-ne-NO_ENTRIES.false in
    let used = held_same c.args.heap.now c.args.self.now r.0 tree r.1 pins c.args.node c.busy.result r.2 stands (r.4 c.args.node c.busy.result c.busy.ensures (found_not_root r.0 c.args.parent c.args.name.now c.args.node r.2.is_tree r.3)) ∙ c.if-busy.true in
    emptied i.new.heap i.new.self tree pins (last tree c.args.parent c.args.name.now c.args.node) c.args.node (Err EBUSY) dir none
    (subst (λ (b : Bool). ChangedTo i.new.heap i.new.self tree (calls.unless b EBUSY (last tree c.args.parent c.args.name.now c.args.node)) pins (Err EBUSY)) (sym used) (refl, i.ensures.looks.stands tree pins stands))

pub returns-then-busy-clause-pays : goal.returns-then-busy-clause-pays
returns-then-busy-clause-pays g c = pays_of c.args.heap.now c.inode-inode.new.heap c.args.purse.now c.inode-inode.new.purse c.args.self.now c.inode-inode.new.self c.inode-inode.ensures.looks

pub take_name-requires-clause-stands : goal.take_name-requires-clause-stands
take_name-requires-clause-stands g c =
    let r = c.requires.stands in
    let i = c.inode-inode in
    let shows = i.ensures.value r.0 r.1 r.2 in
    let dir = sym (c.is_directory.ensures r.0 c.args.node shows) ∙ c.if-not-is_directory.false in
    let none = empty_is r.0 c.args.node i.result shows dir c.if-inode-ne-NO_ENTRIES.false in
    let unused = sym (r.4 c.args.node c.busy.result c.busy.ensures (found_not_root r.0 c.args.parent c.args.name.now c.args.node r.2.is_tree r.3)) ∙ c.if-busy.false in
    (r.0, r.1, i.ensures.looks.stands r.0 r.1 r.2, dir_may r.0 r.1 c.args.parent c.args.name.now c.args.node r.3 none unused)

pub take_name-requires-clause-may : goal.take_name-requires-clause-may
take_name-requires-clause-may g c = c.inode-inode.ensures.looks.may

pub returns-clause-answer : goal.returns-clause-answer
returns-clause-answer g c = λ tree pins stands.
    let r = c.requires.stands in
    let i = c.inode-inode in
    let t = c.take_name in
    let shows = i.ensures.value tree pins stands in
    let dir = sym (c.is_directory.ensures tree c.args.node shows) ∙ c.if-not-is_directory.false in
    let none = empty_is tree c.args.node i.result shows dir c.if-inode-ne-NO_ENTRIES.false in
    let unused = held_same c.args.heap.now c.args.self.now r.0 tree r.1 pins c.args.node c.busy.result r.2 stands (r.4 c.args.node c.busy.result c.busy.ensures (found_not_root r.0 c.args.parent c.args.name.now c.args.node r.2.is_tree r.3)) ∙ c.if-busy.false in
    emptied t.new.heap t.new.self tree pins (last tree c.args.parent c.args.name.now c.args.node) c.args.node (Ok tt) dir none
    (subst (λ (b : Bool). ChangedTo t.new.heap t.new.self tree (calls.unless b EBUSY (last tree c.args.parent c.args.name.now c.args.node)) pins (Ok tt)) (sym unused) (refl, t.ensures.stands tree pins (i.ensures.looks.stands tree pins stands)))

pub returns-clause-pays : goal.returns-clause-pays
returns-clause-pays g c =
    let i = c.inode-inode in
    let t = c.take_name in
    pays_trans c.args.heap.now i.new.heap t.new.heap c.args.purse.now i.new.purse t.new.purse c.args.self.now i.new.self t.new.self i.ensures.looks t.ensures.pays
