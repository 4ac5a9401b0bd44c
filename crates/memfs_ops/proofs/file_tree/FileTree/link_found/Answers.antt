use Rattle.std.proofs.Common.{Bool, Err, refl, sym, ◌∙◌, subst}
use Rattle.kabi_types.specs.declared.errnos.Errno.TheVariants.{EPERM}
use Rattle.posix_defs.specs.PathCalls as calls
use Rattle.posix_defs.specs.Paths.{resolve}
use Rattle.memfs_ops.specs.Changing.{ChangedTo}
use Rattle.memfs_ops.proofs.LookLemmas.{pays_of, pays_trans}
use Rattle.blk_map.proofs.Taken.{lowest_then, unchanged_is_lowest}
use Rattle.memfs_ops.proofs.file_tree.FileTree.link_found.Goals as goal

pub inode-inode-requires-clause-stands : goal.inode-inode-requires-clause-stands
inode-inode-requires-clause-stands c =
    let r = c.requires.stands in
    (r.0, r.1, r.2, r.4)

pub returns-then-is_directory-clause-answer : goal.returns-then-is_directory-clause-answer
returns-then-is_directory-clause-answer c = λ tree pins stands.
    let i = c.inode-inode in
    let dir = sym (c.is_directory.ensures tree c.args.number (i.ensures.value tree pins stands)) ∙ c.if-is_directory.true in
    subst (λ (b : Bool). ChangedTo i.new.heap i.new.self tree (calls.unless b EPERM (calls.link_to tree c.args.number (resolve tree c.args.cwd c.args.new.now))) pins (Err EPERM)) (sym dir) (refl, i.ensures.looks.stands tree pins stands)

pub returns-then-is_directory-clause-pays : goal.returns-then-is_directory-clause-pays
returns-then-is_directory-clause-pays c = pays_of c.args.heap.now c.inode-inode.new.heap c.args.purse.now c.inode-inode.new.purse c.args.self.now c.inode-inode.new.self c.inode-inode.ensures.looks

pub link_at-requires-clause-stands : goal.link_at-requires-clause-stands
link_at-requires-clause-stands c =
    let r = c.requires.stands in
    let i = c.inode-inode in
    let file = sym (c.is_directory.ensures r.0 c.args.number (i.ensures.value r.0 r.1 r.2)) ∙ c.if-is_directory.false in
    (r.0, r.1, i.ensures.looks.stands r.0 r.1 r.2, r.3, r.4, file)

pub link_at-requires-clause-may : goal.link_at-requires-clause-may
link_at-requires-clause-may c = c.inode-inode.ensures.looks.may

pub returns-clause-answer : goal.returns-clause-answer
returns-clause-answer c = λ tree pins stands.
    let i = c.inode-inode in
    let m = c.link_at in
    let file = sym (c.is_directory.ensures tree c.args.number (i.ensures.value tree pins stands)) ∙ c.if-is_directory.false in
    subst (λ (b : Bool). ChangedTo m.new.heap m.new.self tree (calls.unless b EPERM (calls.link_to tree c.args.number (resolve tree c.args.cwd c.args.new.now))) pins m.result) (sym file) (m.ensures.answer tree pins (i.ensures.looks.stands tree pins stands))

pub returns-clause-pays : goal.returns-clause-pays
returns-clause-pays c =
    let i = c.inode-inode in
    let m = c.link_at in
    pays_trans c.args.heap.now i.new.heap m.new.heap c.args.purse.now i.new.purse m.new.purse c.args.self.now i.new.self m.new.self i.ensures.looks m.ensures.pays

pub returns-then-is_directory-clause-lowest : goal.returns-then-is_directory-clause-lowest
returns-then-is_directory-clause-lowest c = unchanged_is_lowest c.args.self.now.disk.blocks c.inode-inode.new.self.disk.blocks c.inode-inode.ensures.looks.on.bytes

pub returns-clause-lowest : goal.returns-clause-lowest
returns-clause-lowest c = lowest_then c.args.self.now.disk.blocks c.inode-inode.new.self.disk.blocks c.link_at.new.self.disk.blocks c.inode-inode.ensures.looks.on.bytes c.link_at.ensures.lowest
