use Rattle.std.proofs.Common.{Err, refl, sym, subst}
use Rattle.kabi_types.specs.declared.errnos.Errno.TheVariants.{EPERM, ENOENT}
use Rattle.posix_defs.specs.PathCalls as calls
use Rattle.posix_defs.specs.Paths.{IsLed}
use Rattle.posix_defs.specs.declared.walked.Walked.{Walked}
use Rattle.posix_defs.specs.declared.walked.Walked.TheVariants as walked
use Rattle.tree_laws.proofs.PathLeads.{path_led}
use Rattle.memfs_ops.specs.Removing.{ToldTo, is_held}
use Rattle.memfs_ops.proofs.LookLemmas.{pays_of, pays_trans}
use Rattle.memfs_ops.proofs.RemoveLemmas.{told_alike, unlink_alike}
use Rattle.memfs_ops.proofs.file_tree.FileTree.remove_name.Goals as goal

pub remove_named-requires-clause-stands : goal.remove_named-requires-clause-stands
remove_named-requires-clause-stands c =
    let r = c.requires.stands in
    let w : Walked = walked.Named c.in-Named.parent c.in-Named.name c.in-Named.node c.in-Named.slash in
    let led : IsLed r.0 w = subst (λ (x : Walked). IsLed r.0 x) (sym (c.in-Named.ensures.resolved r.0 r.1 r.2)) (path_led r.0 c.args.cwd c.args.path.now r.2.is_tree r.3) in
    (r.0, r.1, c.walk.ensures.looks.stands r.0 r.1 r.2, led.1, r.4)

pub remove_named-requires-clause-may : goal.remove_named-requires-clause-may
remove_named-requires-clause-may c = c.walk.ensures.looks.may

pub returns-in-Named-clause-answer : goal.returns-in-Named-clause-answer
returns-in-Named-clause-answer c = λ tree pins opened stands tells.
    let m = c.remove_named in
    let w : Walked = walked.Named c.in-Named.parent c.in-Named.name c.in-Named.node c.in-Named.slash in
    subst (λ (x : Walked). ToldTo m.new.heap m.new.self tree (calls.unlink_led tree opened x) pins m.result) (c.in-Named.ensures.resolved tree pins stands)
    (told_alike m.new.heap m.new.self tree (calls.unlink_led tree (is_held pins) w) (calls.unlink_led tree opened w) pins m.result (unlink_alike tree pins opened w tells) (m.ensures.answer tree pins (c.walk.ensures.looks.stands tree pins stands)))

pub returns-in-Named-clause-pays : goal.returns-in-Named-clause-pays
returns-in-Named-clause-pays c =
    let w = c.walk in
    let m = c.remove_named in
    pays_trans c.args.heap.now w.new.heap m.new.heap c.args.purse.now w.new.purse m.new.purse c.args.self.now w.new.self m.new.self w.ensures.looks m.ensures.pays

pub returns-in-Node-clause-answer : goal.returns-in-Node-clause-answer
returns-in-Node-clause-answer c = λ tree pins opened stands tells.
    subst (λ (x : Walked). ToldTo c.walk.new.heap c.walk.new.self tree (calls.unlink_led tree opened x) pins (Err EPERM)) (c.in-Node.ensures.resolved tree pins stands) (refl, c.walk.ensures.looks.stands tree pins stands)

pub returns-in-Node-clause-pays : goal.returns-in-Node-clause-pays
returns-in-Node-clause-pays c = pays_of c.args.heap.now c.walk.new.heap c.args.purse.now c.walk.new.purse c.args.self.now c.walk.new.self c.walk.ensures.looks

pub returns-in-Free-clause-answer : goal.returns-in-Free-clause-answer
returns-in-Free-clause-answer c = λ tree pins opened stands tells.
    subst (λ (x : Walked). ToldTo c.walk.new.heap c.walk.new.self tree (calls.unlink_led tree opened x) pins (Err ENOENT)) (c.in-Free.ensures.resolved tree pins stands) (refl, c.walk.ensures.looks.stands tree pins stands)

pub returns-in-Free-clause-pays : goal.returns-in-Free-clause-pays
returns-in-Free-clause-pays c = pays_of c.args.heap.now c.walk.new.heap c.args.purse.now c.walk.new.purse c.args.self.now c.walk.new.self c.walk.ensures.looks

pub returns-in-Fail-clause-answer : goal.returns-in-Fail-clause-answer
returns-in-Fail-clause-answer c = λ tree pins opened stands tells.
    subst (λ (x : Walked). ToldTo c.walk.new.heap c.walk.new.self tree (calls.unlink_led tree opened x) pins (Err c.in-Fail.errno)) (c.in-Fail.ensures.resolved tree pins stands) (refl, c.walk.ensures.looks.stands tree pins stands)

pub returns-in-Fail-clause-pays : goal.returns-in-Fail-clause-pays
returns-in-Fail-clause-pays c = pays_of c.args.heap.now c.walk.new.heap c.args.purse.now c.walk.new.purse c.args.self.now c.walk.new.self c.walk.ensures.looks
