use Rattle.std.proofs.Common.{IsSome, sym, ap, ◌∙◌, subst}
use Rattle.lru_index.specs.NameKeys.{name_key}
use Rattle.name_cache.specs.Names.{name_slot}
use Rattle.posix_defs.specs.PathCalls as calls
use Rattle.posix_defs.specs.Paths.{IsLed, resolve}
use Rattle.posix_defs.specs.declared.walked.Walked.{Walked}
use Rattle.tree_laws.proofs.PathLeads.{path_led}
use Rattle.memfs_node.proofs.Looking.{led_in_use}
use Rattle.memfs_ops.proofs.LookLemmas.{keeps_led, keeps_none, pays_trans}
use Rattle.memfs_ops.proofs.file_tree.FileTree.enter.Goals as goal

pub enter_node-requires-clause-stands : goal.enter_node-requires-clause-stands
enter_node-requires-clause-stands c =
    let s = c.requires.stands in
    let led = subst (λ (w : Walked). IsLed s.0 w) (sym (c.walk.ensures.resolved s.0 s.1 s.2)) (path_led s.0 c.args.cwd c.args.path.now s.2.is_tree s.3) in
    (s.0, s.1, c.walk.ensures.looks.stands s.0 s.1 s.2, led_in_use s.0 c.walk.result c.in-Ok.number s.2.is_tree led (sym c.in-Ok.ensures), s.4 c.in-Ok.number)

pub returns-in-Ok-clause-value : goal.returns-in-Ok-clause-value
returns-in-Ok-clause-value c = λ tree pins stands.
    let e = ap calls.node_led (sym (c.walk.ensures.resolved tree pins stands)) ∙ sym c.in-Ok.ensures in
    c.enter_node.ensures.value tree pins (c.walk.ensures.looks.stands tree pins stands) ∙ sym (ap (calls.entered tree) e)

pub returns-in-Ok-clause-stands : goal.returns-in-Ok-clause-stands
returns-in-Ok-clause-stands c = λ tree pins stands. c.enter_node.ensures.stands tree pins (c.walk.ensures.looks.stands tree pins stands)

pub returns-in-Ok-clause-pays : goal.returns-in-Ok-clause-pays
returns-in-Ok-clause-pays c =
    pays_trans c.args.heap.now c.walk.new.heap c.enter_node.new.heap c.args.purse.now c.walk.new.purse c.enter_node.new.purse c.args.self.now c.walk.new.self c.enter_node.new.self c.walk.ensures.looks c.enter_node.ensures.pays

pub returns-in-Ok-clause-kept : goal.returns-in-Ok-clause-kept
returns-in-Ok-clause-kept c = λ tree pins stands.
    let e = ap calls.node_led (sym (c.walk.ensures.resolved tree pins stands)) ∙ sym c.in-Ok.ensures in
    keeps_led c.enter_node.new.self (resolve tree c.args.cwd c.args.path.now) c.in-Ok.number
    (λ parent name node slashed is. subst (λ o. IsSome (name_slot o (name_key parent name))) (sym c.enter_node.ensures.names) (c.walk.ensures.kept tree pins parent name node slashed stands is)) e c.enter_node.ensures.kept

pub returns-in-Err-clause-value : goal.returns-in-Err-clause-value
returns-in-Err-clause-value c = λ tree pins stands.
    sym (ap (calls.entered tree) (ap calls.node_led (sym (c.walk.ensures.resolved tree pins stands)) ∙ sym c.in-Err.ensures))

pub returns-in-Err-clause-kept : goal.returns-in-Err-clause-kept
returns-in-Err-clause-kept c = λ tree pins stands.
    keeps_none c.walk.new.self (resolve tree c.args.cwd c.args.path.now) c.in-Err.errno (ap calls.node_led (sym (c.walk.ensures.resolved tree pins stands)) ∙ sym c.in-Err.ensures)

pub returns-in-Ok-clause-saved : goal.returns-in-Ok-clause-saved
returns-in-Ok-clause-saved c = λ tree pins stands known.
    let e = ap calls.node_led (sym (c.walk.ensures.resolved tree pins stands)) ∙ sym c.in-Ok.ensures in
    let walked = c.walk.ensures.saved tree pins stands known.0 in
    c.enter_node.ensures.saved (subst (λ o. IsSome o) (sym (walked.nodes c.in-Ok.number)) (known.1 c.in-Ok.number e)) ∙ walked.disk

pub returns-in-Err-clause-saved : goal.returns-in-Err-clause-saved
returns-in-Err-clause-saved c = λ tree pins stands known. (c.walk.ensures.saved tree pins stands known.0).disk
