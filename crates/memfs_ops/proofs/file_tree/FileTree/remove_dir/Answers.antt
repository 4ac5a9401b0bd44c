use Rattle.std.proofs.Common.{Bool, Result, Err, refl, sym, ◌∙◌, subst}
use Rattle.kabi_types.specs.declared.errnos.Errno.{Errno}
use Rattle.kabi_types.specs.declared.errnos.Errno.TheVariants.{EBUSY, EINVAL, ENOENT, ENOTEMPTY}
use Rattle.posix_defs.specs.DiskContents.{own_name, parent_name}
use Rattle.posix_defs.specs.PathCalls as calls
use Rattle.posix_defs.specs.Paths.{IsLed, resolve}
use Rattle.posix_defs.specs.Tree.{Tree}
use Rattle.posix_defs.specs.declared.walked.Walked.{Walked}
use Rattle.posix_defs.specs.declared.walked.Walked.TheVariants as walked
use Rattle.tree_laws.proofs.PathLeads.{path_led}
use Rattle.memfs_ops.specs.Changing.{ChangedTo}
use Rattle.memfs_ops.specs.Removing.{is_held}
use Rattle.memfs_ops.proofs.LookLemmas.{pays_of, pays_trans}
use Rattle.memfs_ops.proofs.PaysLemmas.{pays_nothing}
use Rattle.memfs_ops.proofs.RemoveLemmas.{passed, path_led_in, changed_alike, rmdir_alike}
use Rattle.memfs_ops.proofs.file_tree.FileTree.remove_dir.Goals as goal

pub returns-then-ends_in-clause-answer : goal.returns-then-ends_in-clause-answer
returns-then-ends_in-clause-answer g c = λ tree pins held stands tells.
    let rest : Result Tree Errno = calls.unless (calls.ends_in parent_name c.args.path.now) ENOTEMPTY (calls.rmdir_led tree held (resolve tree c.args.cwd c.args.path.now)) in
    subst (λ (b : Bool). ChangedTo c.args.heap.now c.args.self.now tree (calls.unless b EINVAL rest) pins (Err EINVAL)) (sym (sym c.ends_in.ensures ∙ c.if-ends_in.true)) (refl, stands)

pub returns-then-ends_in-clause-pays : goal.returns-then-ends_in-clause-pays
returns-then-ends_in-clause-pays g c = pays_nothing c.args.heap.now c.args.purse.now c.args.self.now c.requires.may.fills

pub returns-then-ends_in-2-clause-answer : goal.returns-then-ends_in-2-clause-answer
returns-then-ends_in-2-clause-answer g c = λ tree pins held stands tells.
    let rest : Result Tree Errno = calls.rmdir_led tree held (resolve tree c.args.cwd c.args.path.now) in
    subst (λ (b : Bool). ChangedTo c.args.heap.now c.args.self.now tree (calls.unless b EINVAL (calls.unless (calls.ends_in parent_name c.args.path.now) ENOTEMPTY rest)) pins (Err ENOTEMPTY)) (sym (sym c.ends_in.ensures ∙ c.if-ends_in.false))
    (subst (λ (b : Bool). ChangedTo c.args.heap.now c.args.self.now tree (calls.unless b ENOTEMPTY rest) pins (Err ENOTEMPTY)) (sym (sym c.ends_in-2.ensures ∙ c.if-ends_in-2.true)) (refl, stands))

pub returns-then-ends_in-2-clause-pays : goal.returns-then-ends_in-2-clause-pays
returns-then-ends_in-2-clause-pays g c = pays_nothing c.args.heap.now c.args.purse.now c.args.self.now c.requires.may.fills

pub remove_empty-requires-clause-stands : goal.remove_empty-requires-clause-stands
remove_empty-requires-clause-stands g c =
    let r = c.requires.stands in
    let w : Walked = walked.Named c.in-Named.parent c.in-Named.name c.in-Named.node c.in-Named.slash in
    let led : IsLed r.0 w = subst (λ (x : Walked). IsLed r.0 x) (sym (c.in-Named.ensures.resolved r.0 r.1 r.2)) (path_led r.0 c.args.cwd c.args.path.now r.2.is_tree r.3) in
    (r.0, r.1, c.walk.ensures.looks.stands r.0 r.1 r.2, led.1, r.4)

pub remove_empty-requires-clause-may : goal.remove_empty-requires-clause-may
remove_empty-requires-clause-may g c = c.walk.ensures.looks.may

pub returns-in-Named-clause-answer : goal.returns-in-Named-clause-answer
returns-in-Named-clause-answer g c = λ tree pins held stands tells.
    let m = c.remove_empty in
    let w : Walked = walked.Named c.in-Named.parent c.in-Named.name c.in-Named.node c.in-Named.slash in
    let there : IsLed tree w = subst (λ (x : Walked). IsLed tree x) (sym (c.in-Named.ensures.resolved tree pins stands)) (path_led_in tree c.args.cwd c.args.path.now c.args.self.now.disk.blocks c.requires.stands.0 stands.behind c.requires.stands.2.behind stands.is_tree c.requires.stands.3) in
    let led = subst (λ (x : Walked). ChangedTo m.new.heap m.new.self tree (calls.rmdir_led tree held x) pins m.result) (c.in-Named.ensures.resolved tree pins stands)
    (changed_alike m.new.heap m.new.self tree (calls.rmdir_led tree (is_held pins) w) (calls.rmdir_led tree held w) pins m.result (rmdir_alike tree pins held w stands.is_tree there tells) (m.ensures.answer tree pins (c.walk.ensures.looks.stands tree pins stands))) in
    passed m.new.heap m.new.self tree (calls.rmdir_led tree held (resolve tree c.args.cwd c.args.path.now)) pins m.result (calls.ends_in own_name c.args.path.now) (calls.ends_in parent_name c.args.path.now) (sym c.ends_in.ensures ∙ c.if-ends_in.false) (sym c.ends_in-2.ensures ∙ c.if-ends_in-2.false) led

pub returns-in-Named-clause-pays : goal.returns-in-Named-clause-pays
returns-in-Named-clause-pays g c =
    let w = c.walk in
    let m = c.remove_empty in
    pays_trans c.args.heap.now w.new.heap m.new.heap c.args.purse.now w.new.purse m.new.purse c.args.self.now w.new.self m.new.self w.ensures.looks m.ensures.pays

pub returns-in-Node-clause-answer : goal.returns-in-Node-clause-answer
returns-in-Node-clause-answer g c = λ tree pins held stands tells.
    let w = c.walk in
    let led = subst (λ (x : Walked). ChangedTo w.new.heap w.new.self tree (calls.rmdir_led tree held x) pins (Err EBUSY)) (c.in-Node.ensures.resolved tree pins stands) (refl, w.ensures.looks.stands tree pins stands) in
    passed w.new.heap w.new.self tree (calls.rmdir_led tree held (resolve tree c.args.cwd c.args.path.now)) pins (Err EBUSY) (calls.ends_in own_name c.args.path.now) (calls.ends_in parent_name c.args.path.now) (sym c.ends_in.ensures ∙ c.if-ends_in.false) (sym c.ends_in-2.ensures ∙ c.if-ends_in-2.false) led

pub returns-in-Node-clause-pays : goal.returns-in-Node-clause-pays
returns-in-Node-clause-pays g c = pays_of c.args.heap.now c.walk.new.heap c.args.purse.now c.walk.new.purse c.args.self.now c.walk.new.self c.walk.ensures.looks

pub returns-in-Free-clause-answer : goal.returns-in-Free-clause-answer
returns-in-Free-clause-answer g c = λ tree pins held stands tells.
    let w = c.walk in
    let led = subst (λ (x : Walked). ChangedTo w.new.heap w.new.self tree (calls.rmdir_led tree held x) pins (Err ENOENT)) (c.in-Free.ensures.resolved tree pins stands) (refl, w.ensures.looks.stands tree pins stands) in
    passed w.new.heap w.new.self tree (calls.rmdir_led tree held (resolve tree c.args.cwd c.args.path.now)) pins (Err ENOENT) (calls.ends_in own_name c.args.path.now) (calls.ends_in parent_name c.args.path.now) (sym c.ends_in.ensures ∙ c.if-ends_in.false) (sym c.ends_in-2.ensures ∙ c.if-ends_in-2.false) led

pub returns-in-Free-clause-pays : goal.returns-in-Free-clause-pays
returns-in-Free-clause-pays g c = pays_of c.args.heap.now c.walk.new.heap c.args.purse.now c.walk.new.purse c.args.self.now c.walk.new.self c.walk.ensures.looks

pub returns-in-Fail-clause-answer : goal.returns-in-Fail-clause-answer
returns-in-Fail-clause-answer g c = λ tree pins held stands tells.
    let w = c.walk in
    let led = subst (λ (x : Walked). ChangedTo w.new.heap w.new.self tree (calls.rmdir_led tree held x) pins (Err c.in-Fail.errno)) (c.in-Fail.ensures.resolved tree pins stands) (refl, w.ensures.looks.stands tree pins stands) in
    passed w.new.heap w.new.self tree (calls.rmdir_led tree held (resolve tree c.args.cwd c.args.path.now)) pins (Err c.in-Fail.errno) (calls.ends_in own_name c.args.path.now) (calls.ends_in parent_name c.args.path.now) (sym c.ends_in.ensures ∙ c.if-ends_in.false) (sym c.ends_in-2.ensures ∙ c.if-ends_in-2.false) led

pub returns-in-Fail-clause-pays : goal.returns-in-Fail-clause-pays
returns-in-Fail-clause-pays g c = pays_of c.args.heap.now c.walk.new.heap c.args.purse.now c.walk.new.purse c.args.self.now c.walk.new.self c.walk.ensures.looks
