use Rattle.std.proofs.Common.{Bool, Err, refl, sym, subst}
use Rattle.kabi_types.specs.declared.errnos.Errno.TheVariants.{ENOENT}
use Rattle.posix_defs.specs.PathCalls as calls
use Rattle.posix_defs.specs.TreeChanges.{make}
use Rattle.memfs_node.specs.NodeOnDisk.{content_of}
use Rattle.memfs_ops.specs.Changing.{LedTo}
use Rattle.memfs_ops.proofs.PaysLemmas.{pays_nothing}
use Rattle.blk_map.proofs.Taken.{unchanged_is_lowest}
use Rattle.memfs_ops.proofs.file_tree.FileTree.make_named.Goals as goal

pub returns-then-slash-clause-answer : goal.returns-then-slash-clause-answer
returns-then-slash-clause-answer c = λ tree pins stands.
    subst (λ (b : Bool). LedTo c.args.heap.now c.args.self.now tree (calls.unless b ENOENT (make tree c.args.parent c.args.name (content_of c.args.new))) pins (Err ENOENT)) (sym c.if-slash.true) (refl, stands)

pub returns-then-slash-clause-pays : goal.returns-then-slash-clause-pays
returns-then-slash-clause-pays c = pays_nothing c.args.heap.now c.args.purse.now c.args.self.now c.requires.may.fills

pub returns-clause-answer : goal.returns-clause-answer
returns-clause-answer c = λ tree pins stands.
    subst (λ (b : Bool). LedTo c.make_new.new.heap c.make_new.new.self tree (calls.unless b ENOENT (make tree c.args.parent c.args.name (content_of c.args.new))) pins c.make_new.result) (sym c.if-slash.false) (c.make_new.ensures.answer tree pins stands)

pub returns-then-slash-clause-lowest : goal.returns-then-slash-clause-lowest
returns-then-slash-clause-lowest c = unchanged_is_lowest c.args.self.now.disk.blocks c.args.self.now.disk.blocks refl
