use Rattle.std.proofs.Common.{Bool, not, Ok, sym, ap, ◌∙◌}
use Rattle.kabi_types.specs.declared.errnos.Errno.TheVariants.{ENOTDIR}
use Rattle.posix_defs.specs.PathCalls as calls
use Rattle.memfs_ops.specs.FileTree.{TreeView}
use Rattle.memfs_ops.proofs.PinLemmas.{pays_pinned}
use Rattle.memfs_ops.proofs.file_tree.FileTree.enter_node.Goals as goal

pub hold-requires-clause-stands : goal.hold-requires-clause-stands
hold-requires-clause-stands c =
    let s = c.requires.stands in
    (s.0, s.1, c.inode-inode.ensures.looks.stands s.0 s.1 s.2, s.4)

pub returns-then-is_directory-clause-value : goal.returns-then-is_directory-clause-value
returns-then-is_directory-clause-value c = λ tree pins stands.
    ap (λ (b : Bool). calls.unless (not b) ENOTDIR (Ok c.args.number)) (sym c.if-is_directory.true ∙ c.is_directory.ensures tree c.args.number (c.inode-inode.ensures.value tree pins stands))

pub returns-then-is_directory-clause-stands : goal.returns-then-is_directory-clause-stands
returns-then-is_directory-clause-stands c = λ tree pins stands. c.hold.ensures.stands tree pins (c.inode-inode.ensures.looks.stands tree pins stands)

pub returns-then-is_directory-clause-pays : goal.returns-then-is_directory-clause-pays
returns-then-is_directory-clause-pays c =
    let i = c.inode-inode in
    let s = c.requires.stands in
    pays_pinned c.args.heap.now i.new.heap c.hold.new.heap c.args.purse.now i.new.purse c.args.self.now i.new.self c.hold.new.self c.args.number i.ensures.looks (i.ensures.looks.stands s.0 s.1 s.2).nodes i.ensures.kept c.hold.ensures.set c.hold.ensures.takes (ap (λ (v : TreeView). v.disk.reads) c.hold.ensures.rest)

pub returns-else-is_directory-clause-value : goal.returns-else-is_directory-clause-value
returns-else-is_directory-clause-value c = λ tree pins stands.
    ap (λ (b : Bool). calls.unless (not b) ENOTDIR (Ok c.args.number)) (sym c.if-is_directory.false ∙ c.is_directory.ensures tree c.args.number (c.inode-inode.ensures.value tree pins stands))

pub returns-then-is_directory-clause-saved : goal.returns-then-is_directory-clause-saved
returns-then-is_directory-clause-saved c = λ some. ap (λ (v : TreeView). v.disk) c.hold.ensures.rest ∙ (c.inode-inode.ensures.saved some).disk

pub returns-else-is_directory-clause-saved : goal.returns-else-is_directory-clause-saved
returns-else-is_directory-clause-saved c = λ some. (c.inode-inode.ensures.saved some).disk
