use Rattle.std.proofs.Common.{ℕ, Result, Err, refl, sym, ap, ◌∙◌, subst}
use Rattle.kabi_types.specs.declared.errnos.Errno.{Errno}
use Rattle.posix_defs.specs.PathCalls as calls
use Rattle.posix_defs.specs.Paths.{IsLed, resolve}
use Rattle.posix_defs.specs.declared.walked.Walked.{Walked}
use Rattle.tree_laws.proofs.PathLeads.{path_led}
use Rattle.memfs_node.proofs.Looking.{led_in_use}
use Rattle.memfs_ops.specs.Changing.{ChangedTo}
use Rattle.memfs_ops.proofs.LookLemmas.{pays_of, pays_trans}
use Rattle.blk_map.proofs.Taken.{lowest_then, unchanged_is_lowest}
use Rattle.memfs_ops.proofs.file_tree.FileTree.link_name.Goals as goal

pub link_found-requires-clause-stands : goal.link_found-requires-clause-stands
link_found-requires-clause-stands c =
    let s = c.requires.stands in
    let led = subst (λ (w : Walked). IsLed s.0 w) (sym (c.walk.ensures.resolved s.0 s.1 s.2)) (path_led s.0 c.args.cwd c.args.old.now s.2.is_tree s.3) in
    (s.0, s.1, c.walk.ensures.looks.stands s.0 s.1 s.2, s.3, led_in_use s.0 c.walk.result c.in-Ok.number s.2.is_tree led (sym c.in-Ok.ensures))

pub link_found-requires-clause-may : goal.link_found-requires-clause-may
link_found-requires-clause-may c = c.walk.ensures.looks.may

pub returns-in-Ok-clause-answer : goal.returns-in-Ok-clause-answer
returns-in-Ok-clause-answer c = λ tree pins stands.
    let m = c.link_found in
    let e = ap calls.node_led (sym (c.walk.ensures.resolved tree pins stands)) ∙ sym c.in-Ok.ensures in
    subst (λ (l : Result ℕ Errno). ChangedTo m.new.heap m.new.self tree (calls.link_from tree l (resolve tree c.args.cwd c.args.new.now)) pins m.result) (sym e) (m.ensures.answer tree pins (c.walk.ensures.looks.stands tree pins stands))

pub returns-in-Ok-clause-pays : goal.returns-in-Ok-clause-pays
returns-in-Ok-clause-pays c =
    let w = c.walk in
    let m = c.link_found in
    pays_trans c.args.heap.now w.new.heap m.new.heap c.args.purse.now w.new.purse m.new.purse c.args.self.now w.new.self m.new.self w.ensures.looks m.ensures.pays

pub returns-in-Err-clause-answer : goal.returns-in-Err-clause-answer
returns-in-Err-clause-answer c = λ tree pins stands.
    let e = ap calls.node_led (sym (c.walk.ensures.resolved tree pins stands)) ∙ sym c.in-Err.ensures in
    subst (λ (l : Result ℕ Errno). ChangedTo c.walk.new.heap c.walk.new.self tree (calls.link_from tree l (resolve tree c.args.cwd c.args.new.now)) pins (Err c.in-Err.errno)) (sym e) (refl, c.walk.ensures.looks.stands tree pins stands)

pub returns-in-Err-clause-pays : goal.returns-in-Err-clause-pays
returns-in-Err-clause-pays c = pays_of c.args.heap.now c.walk.new.heap c.args.purse.now c.walk.new.purse c.args.self.now c.walk.new.self c.walk.ensures.looks

pub returns-in-Ok-clause-lowest : goal.returns-in-Ok-clause-lowest
returns-in-Ok-clause-lowest c = lowest_then c.args.self.now.disk.blocks c.walk.new.self.disk.blocks c.link_found.new.self.disk.blocks c.walk.ensures.looks.on.bytes c.link_found.ensures.lowest

pub returns-in-Err-clause-lowest : goal.returns-in-Err-clause-lowest
returns-in-Err-clause-lowest c = unchanged_is_lowest c.args.self.now.disk.blocks c.walk.new.self.disk.blocks c.walk.ensures.looks.on.bytes
