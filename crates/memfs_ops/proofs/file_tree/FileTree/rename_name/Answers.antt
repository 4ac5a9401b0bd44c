use Rattle.std.proofs.Common.{Err, refl, sym, subst}
use Rattle.kabi_types.specs.declared.errnos.Errno.TheVariants.{ENOENT}
use Rattle.posix_defs.specs.PathCalls as calls
use Rattle.posix_defs.specs.Paths.{IsLed, resolve}
use Rattle.posix_defs.specs.declared.walked.Walked.{Walked}
use Rattle.posix_defs.specs.declared.walked.Walked.TheVariants as walked
use Rattle.tree_laws.proofs.PathLeads.{path_led}
use Rattle.blk_map.proofs.Taken.{preferred_then, unchanged_preferred}
use Rattle.memfs_ops.specs.Removing.{ToldTo, is_held}
use Rattle.memfs_ops.proofs.LookLemmas.{pays_of, pays_trans}
use Rattle.memfs_ops.proofs.RemoveLemmas.{path_led_in, told_alike}
use Rattle.memfs_ops.proofs.RenameLemmas.{rename_alike}
use Rattle.memfs_ops.proofs.file_tree.FileTree.rename_name.Goals as goal

pub rename_from-requires-clause-stands : goal.rename_from-requires-clause-stands
rename_from-requires-clause-stands g c =
    let r = c.requires.stands in
    let w : Walked = walked.Named c.in-Named.parent c.in-Named.name c.in-Named.node c.in-Named.slash in
    let led : IsLed r.0 w = subst (λ (x : Walked). IsLed r.0 x) (sym (c.in-Named.ensures.resolved r.0 r.1 r.2)) (path_led r.0 c.args.cwd c.args.old.now r.2.is_tree r.3) in
    (r.0, r.1, c.walk.ensures.looks.stands r.0 r.1 r.2, r.3, led.1, r.4, r.5)

pub rename_root-requires-clause-stands : goal.rename_root-requires-clause-stands
rename_root-requires-clause-stands g c =
    let r = c.requires.stands in
    (r.0, r.1, c.walk.ensures.looks.stands r.0 r.1 r.2, r.3)

pub rename_from-requires-clause-may : goal.rename_from-requires-clause-may
rename_from-requires-clause-may g c = c.walk.ensures.looks.may

pub returns-in-Named-clause-answer : goal.returns-in-Named-clause-answer
returns-in-Named-clause-answer g c = λ tree pins opened held stands tells_opened tells.
    let m = c.rename_from in
    let n = c.in-Named in
    let w : Walked = resolve tree c.args.cwd c.args.new.now in
    let there : IsLed tree w = path_led_in tree c.args.cwd c.args.new.now c.args.self.now.disk.blocks c.requires.stands.0 stands.behind c.requires.stands.2.behind stands.is_tree c.requires.stands.3 in
    subst (λ (x : Walked). ToldTo m.new.heap m.new.self tree (calls.rename_led tree opened held x w) pins m.result) (n.ensures.resolved tree pins stands)
    (told_alike m.new.heap m.new.self tree (calls.rename_named tree (is_held pins) (is_held pins) n.parent n.name n.node w) (calls.rename_named tree opened held n.parent n.name n.node w) pins m.result
    (rename_alike tree pins opened held n.parent n.name n.node w stands.is_tree there tells_opened tells) (m.ensures.answer tree pins (c.walk.ensures.looks.stands tree pins stands)))

pub returns-in-Named-clause-pays : goal.returns-in-Named-clause-pays
returns-in-Named-clause-pays g c =
    let w = c.walk in
    let m = c.rename_from in
    pays_trans c.args.heap.now w.new.heap m.new.heap c.args.purse.now w.new.purse m.new.purse c.args.self.now w.new.self m.new.self w.ensures.looks m.ensures.pays

pub rename_root-requires-clause-may : goal.rename_root-requires-clause-may
rename_root-requires-clause-may g c = c.walk.ensures.looks.may

pub returns-in-Node-clause-answer : goal.returns-in-Node-clause-answer
returns-in-Node-clause-answer g c = λ tree pins opened held stands tells_opened tells.
    let m = c.rename_root in
    subst (λ (x : Walked). ToldTo m.new.heap m.new.self tree (calls.rename_led tree opened held x (resolve tree c.args.cwd c.args.new.now)) pins m.result) (c.in-Node.ensures.resolved tree pins stands)
    (m.ensures.answer tree pins (c.walk.ensures.looks.stands tree pins stands))

pub returns-in-Node-clause-pays : goal.returns-in-Node-clause-pays
returns-in-Node-clause-pays g c =
    let w = c.walk in
    let m = c.rename_root in
    pays_trans c.args.heap.now w.new.heap m.new.heap c.args.purse.now w.new.purse m.new.purse c.args.self.now w.new.self m.new.self w.ensures.looks m.ensures.pays

pub returns-in-Free-clause-answer : goal.returns-in-Free-clause-answer
returns-in-Free-clause-answer g c = λ tree pins opened held stands tells_opened tells.
    subst (λ (x : Walked). ToldTo c.walk.new.heap c.walk.new.self tree (calls.rename_led tree opened held x (resolve tree c.args.cwd c.args.new.now)) pins (Err ENOENT)) (c.in-Free.ensures.resolved tree pins stands) (refl, c.walk.ensures.looks.stands tree pins stands)

pub returns-in-Free-clause-pays : goal.returns-in-Free-clause-pays
returns-in-Free-clause-pays g c = pays_of c.args.heap.now c.walk.new.heap c.args.purse.now c.walk.new.purse c.args.self.now c.walk.new.self c.walk.ensures.looks

pub returns-in-Fail-clause-answer : goal.returns-in-Fail-clause-answer
returns-in-Fail-clause-answer g c = λ tree pins opened held stands tells_opened tells.
    subst (λ (x : Walked). ToldTo c.walk.new.heap c.walk.new.self tree (calls.rename_led tree opened held x (resolve tree c.args.cwd c.args.new.now)) pins (Err c.in-Fail.errno)) (c.in-Fail.ensures.resolved tree pins stands) (refl, c.walk.ensures.looks.stands tree pins stands)

pub returns-in-Fail-clause-pays : goal.returns-in-Fail-clause-pays
returns-in-Fail-clause-pays g c = pays_of c.args.heap.now c.walk.new.heap c.args.purse.now c.walk.new.purse c.args.self.now c.walk.new.self c.walk.ensures.looks

pub returns-in-Named-clause-lowest : goal.returns-in-Named-clause-lowest
returns-in-Named-clause-lowest g c = preferred_then c.args.self.now.disk.blocks c.walk.new.self.disk.blocks c.rename_from.new.self.disk.blocks (c.walk.ensures.looks.on.bytes) c.rename_from.ensures.lowest

pub returns-in-Node-clause-lowest : goal.returns-in-Node-clause-lowest
returns-in-Node-clause-lowest g c = preferred_then c.args.self.now.disk.blocks c.walk.new.self.disk.blocks c.rename_root.new.self.disk.blocks (c.walk.ensures.looks.on.bytes) c.rename_root.ensures.lowest

pub returns-in-Free-clause-lowest : goal.returns-in-Free-clause-lowest
returns-in-Free-clause-lowest g c = unchanged_preferred c.args.self.now.disk.blocks c.walk.new.self.disk.blocks (c.walk.ensures.looks.on.bytes)

pub returns-in-Fail-clause-lowest : goal.returns-in-Fail-clause-lowest
returns-in-Fail-clause-lowest g c = unchanged_preferred c.args.self.now.disk.blocks c.walk.new.self.disk.blocks (c.walk.ensures.looks.on.bytes)
