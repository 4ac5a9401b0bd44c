use Rattle.std.proofs.Common.{Bool, ◌&&◌, sym, ap, ◌∙◌}
use Rattle.posix_defs.specs.TreeChanges.{is_at_or_above}
use Rattle.memfs_ops.proofs.LookLemmas.{looks_trans}
use Rattle.memfs_ops.proofs.file_tree.FileTree.goes_below.Goals as goal

pub inode-inode-requires-clause-stands : goal.inode-inode-requires-clause-stands
inode-inode-requires-clause-stands c =
    let r = c.requires.stands in
    (r.0, r.1, r.2, r.3)

pub is_above-requires-clause-stands : goal.is_above-requires-clause-stands
is_above-requires-clause-stands c =
    let r = c.requires.stands in
    (r.0, r.1, c.inode-inode.ensures.looks.stands r.0 r.1 r.2, r.4)

pub is_above-requires-clause-may : goal.is_above-requires-clause-may
is_above-requires-clause-may c = c.inode-inode.ensures.looks.may

pub returns-then-is_directory-clause-value : goal.returns-then-is_directory-clause-value
returns-then-is_directory-clause-value c = λ tree pins stands.
    let i = c.inode-inode in
    let dir = sym (c.is_directory.ensures tree c.args.number (i.ensures.value tree pins stands)) ∙ c.if-is_directory.true in
    c.is_above.ensures.value tree pins (i.ensures.looks.stands tree pins stands) ∙ sym (ap (λ (b : Bool). b && is_at_or_above tree c.args.number c.args.to) dir)

pub returns-then-is_directory-clause-looks : goal.returns-then-is_directory-clause-looks
returns-then-is_directory-clause-looks c =
    let i = c.inode-inode in
    let a = c.is_above in
    looks_trans c.args.heap.now i.new.heap a.new.heap c.args.purse.now i.new.purse a.new.purse c.args.self.now i.new.self a.new.self i.ensures.looks a.ensures.looks

pub returns-else-is_directory-clause-value : goal.returns-else-is_directory-clause-value
returns-else-is_directory-clause-value c = λ tree pins stands.
    let file = sym (c.is_directory.ensures tree c.args.number (c.inode-inode.ensures.value tree pins stands)) ∙ c.if-is_directory.false in
    c.if-is_directory.false ∙ sym (ap (λ (b : Bool). b && is_at_or_above tree c.args.number c.args.to) file)
