use Rattle.std.proofs.Common.{Err, refl, subst}
use Rattle.kabi_types.specs.declared.errnos.Errno.TheVariants.{EBUSY}
use Rattle.posix_defs.specs.PathCalls as calls
use Rattle.posix_defs.specs.declared.walked.Walked.{Walked}
use Rattle.blk_map.proofs.Taken.{unchanged_preferred}
use Rattle.memfs_ops.specs.Removing.{ToldTo}
use Rattle.memfs_ops.proofs.LookLemmas.{pays_of}
use Rattle.memfs_ops.proofs.file_tree.FileTree.rename_root.Goals as goal

pub returns-in-Node-clause-answer : goal.returns-in-Node-clause-answer
returns-in-Node-clause-answer c = λ tree pins stands.
    subst (λ (x : Walked). ToldTo c.walk.new.heap c.walk.new.self tree (calls.rename_root x) pins (Err EBUSY)) (c.in-Node.ensures.resolved tree pins stands) (refl, c.walk.ensures.looks.stands tree pins stands)

pub returns-in-Node-clause-pays : goal.returns-in-Node-clause-pays
returns-in-Node-clause-pays c = pays_of c.args.heap.now c.walk.new.heap c.args.purse.now c.walk.new.purse c.args.self.now c.walk.new.self c.walk.ensures.looks

pub returns-in-Named-clause-answer : goal.returns-in-Named-clause-answer
returns-in-Named-clause-answer c = λ tree pins stands.
    subst (λ (x : Walked). ToldTo c.walk.new.heap c.walk.new.self tree (calls.rename_root x) pins (Err EBUSY)) (c.in-Named.ensures.resolved tree pins stands) (refl, c.walk.ensures.looks.stands tree pins stands)

pub returns-in-Named-clause-pays : goal.returns-in-Named-clause-pays
returns-in-Named-clause-pays c = pays_of c.args.heap.now c.walk.new.heap c.args.purse.now c.walk.new.purse c.args.self.now c.walk.new.self c.walk.ensures.looks

pub returns-in-Free-clause-answer : goal.returns-in-Free-clause-answer
returns-in-Free-clause-answer c = λ tree pins stands.
    subst (λ (x : Walked). ToldTo c.walk.new.heap c.walk.new.self tree (calls.rename_root x) pins (Err EBUSY)) (c.in-Free.ensures.resolved tree pins stands) (refl, c.walk.ensures.looks.stands tree pins stands)

pub returns-in-Free-clause-pays : goal.returns-in-Free-clause-pays
returns-in-Free-clause-pays c = pays_of c.args.heap.now c.walk.new.heap c.args.purse.now c.walk.new.purse c.args.self.now c.walk.new.self c.walk.ensures.looks

pub returns-in-Fail-clause-answer : goal.returns-in-Fail-clause-answer
returns-in-Fail-clause-answer c = λ tree pins stands.
    subst (λ (x : Walked). ToldTo c.walk.new.heap c.walk.new.self tree (calls.rename_root x) pins (Err c.in-Fail.errno)) (c.in-Fail.ensures.resolved tree pins stands) (refl, c.walk.ensures.looks.stands tree pins stands)

pub returns-in-Fail-clause-pays : goal.returns-in-Fail-clause-pays
returns-in-Fail-clause-pays c = pays_of c.args.heap.now c.walk.new.heap c.args.purse.now c.walk.new.purse c.args.self.now c.walk.new.self c.walk.ensures.looks

pub returns-in-Node-clause-lowest : goal.returns-in-Node-clause-lowest
returns-in-Node-clause-lowest c = unchanged_preferred c.args.self.now.disk.blocks c.walk.new.self.disk.blocks (c.walk.ensures.looks.on.bytes)

pub returns-in-Named-clause-lowest : goal.returns-in-Named-clause-lowest
returns-in-Named-clause-lowest c = unchanged_preferred c.args.self.now.disk.blocks c.walk.new.self.disk.blocks (c.walk.ensures.looks.on.bytes)

pub returns-in-Free-clause-lowest : goal.returns-in-Free-clause-lowest
returns-in-Free-clause-lowest c = unchanged_preferred c.args.self.now.disk.blocks c.walk.new.self.disk.blocks (c.walk.ensures.looks.on.bytes)

pub returns-in-Fail-clause-lowest : goal.returns-in-Fail-clause-lowest
returns-in-Fail-clause-lowest c = unchanged_preferred c.args.self.now.disk.blocks c.walk.new.self.disk.blocks (c.walk.ensures.looks.on.bytes)
