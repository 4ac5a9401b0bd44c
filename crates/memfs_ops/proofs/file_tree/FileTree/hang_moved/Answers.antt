use Rattle.std.proofs.Common.{◌≡◌, Bool, true, false, cond, sym, ◌∙◌, subst}
use Rattle.posix_defs.specs.Tree.{is_directory}
use Rattle.posix_defs.specs.TreeChanges.{hung}
use Rattle.memfs_node.proofs.Looking.{shown}
use Rattle.memfs_ops.specs.Changing.{MidWay}
use Rattle.memfs_ops.proofs.PaysLemmas.{pays_nothing}
use Rattle.memfs_ops.proofs.file_tree.FileTree.hang_moved.Goals as goal

pub edit_dir-requires-clause-mid : goal.edit_dir-requires-clause-mid
edit_dir-requires-clause-mid c =
    let r = c.requires.mid in
    let shows = shown c.args.self.now.disk.blocks r.1 c.args.number c.args.inode.now (r.3 0).behind c.requires.node in
    (r.0, r.1, r.2, r.3, sym (c.is_directory.ensures r.1 c.args.number shows) ∙ c.if-is_directory.true, c.requires.parent)

pub returns-then-is_directory-clause-mid : goal.returns-then-is_directory-clause-mid
returns-then-is_directory-clause-mid c = λ told tree pins mid.
    let shows = shown c.args.self.now.disk.blocks tree c.args.number c.args.inode.now (mid 0).behind c.requires.node in
    let dir : is_directory tree c.args.number ≡ true = sym (c.is_directory.ensures tree c.args.number shows) ∙ c.if-is_directory.true in
    subst (λ (b : Bool). MidWay c.edit_dir.new.heap c.edit_dir.new.self told (cond b (hung tree c.args.number c.args.to) tree) pins) (sym dir) (c.edit_dir.ensures.mid told tree pins mid)

pub returns-else-is_directory-clause-mid : goal.returns-else-is_directory-clause-mid
returns-else-is_directory-clause-mid c = λ told tree pins mid.
    let shows = shown c.args.self.now.disk.blocks tree c.args.number c.args.inode.now (mid 0).behind c.requires.node in
    let file : is_directory tree c.args.number ≡ false = sym (c.is_directory.ensures tree c.args.number shows) ∙ c.if-is_directory.false in
    subst (λ (b : Bool). MidWay c.args.heap.now c.args.self.now told (cond b (hung tree c.args.number c.args.to) tree) pins) (sym file) mid

pub returns-else-is_directory-clause-pays : goal.returns-else-is_directory-clause-pays
returns-else-is_directory-clause-pays c = pays_nothing c.args.heap.now c.args.purse.now c.args.self.now c.requires.may.fetch.fills

pub returns-then-is_directory-clause-takes_none : goal.returns-then-is_directory-clause-takes_none
returns-then-is_directory-clause-takes_none c = c.edit_dir.ensures.takes.0

pub returns-then-is_directory-clause-frees_none : goal.returns-then-is_directory-clause-frees_none
returns-then-is_directory-clause-frees_none c = c.edit_dir.ensures.takes.1

pub returns-then-is_directory-clause-blocks : goal.returns-then-is_directory-clause-blocks
returns-then-is_directory-clause-blocks c = c.edit_dir.ensures.changes.blocks
