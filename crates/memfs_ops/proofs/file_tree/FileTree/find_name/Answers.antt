use Rattle.std.proofs.Common.{IsSome, Ok, sym, ap, ◌∙◌, subst}
use Rattle.posix_defs.specs.PathCalls as calls
use Rattle.posix_defs.specs.Paths.{IsLed, resolve}
use Rattle.posix_defs.specs.declared.walked.Walked.{Walked}
use Rattle.tree_laws.proofs.PathLeads.{path_led}
use Rattle.memfs_node.proofs.Looking.{led_in_use}
use Rattle.name_cache.specs.Names.{name_slot}
use Rattle.lru_index.specs.NameKeys.{name_key}
use Rattle.cached_disk.proofs.QueriesInTurn.{tree_reordered_trans}
use Rattle.memfs_ops.specs.FileTree.{in_call}
use Rattle.memfs_ops.proofs.LookLemmas.{looks_trans, keeps_led, keeps_none}
use Rattle.memfs_ops.proofs.file_tree.FileTree.find_name.Goals as goal

pub inode-inode-requires-clause-stands : goal.inode-inode-requires-clause-stands
inode-inode-requires-clause-stands c =
    let s = c.requires.stands in
    let led = subst (λ (w : Walked). IsLed s.0 w) (sym (c.walk.ensures.resolved s.0 s.1 s.2)) (path_led s.0 c.args.cwd c.args.path.now s.2.is_tree s.3) in
    (s.0, s.1, c.walk.ensures.looks.stands s.0 s.1 s.2, led_in_use s.0 c.walk.result c.in-Ok.number s.2.is_tree led (sym c.in-Ok.ensures))

pub returns-in-Ok-clause-value : goal.returns-in-Ok-clause-value
returns-in-Ok-clause-value c = λ tree pins stands.
    let e = ap calls.node_led (sym (c.walk.ensures.resolved tree pins stands)) ∙ sym c.in-Ok.ensures in
    ap Ok (c.socket_of.ensures tree (c.inode-inode.ensures.value tree pins (c.walk.ensures.looks.stands tree pins stands))) ∙ sym (ap (calls.socket_found tree) e)

pub returns-in-Err-clause-value : goal.returns-in-Err-clause-value
returns-in-Err-clause-value c = λ tree pins stands.
    sym (ap (calls.socket_found tree) (ap calls.node_led (sym (c.walk.ensures.resolved tree pins stands)) ∙ sym c.in-Err.ensures))

pub returns-in-Ok-clause-looks : goal.returns-in-Ok-clause-looks
returns-in-Ok-clause-looks c =
    looks_trans c.args.heap.now c.walk.new.heap c.inode-inode.new.heap c.args.purse.now c.walk.new.purse c.inode-inode.new.purse c.args.self.now c.walk.new.self c.inode-inode.new.self c.walk.ensures.looks c.inode-inode.ensures.looks

pub returns-in-Ok-clause-saved : goal.returns-in-Ok-clause-saved
returns-in-Ok-clause-saved c = λ tree pins stands known.
    let e = ap calls.node_led (sym (c.walk.ensures.resolved tree pins stands)) ∙ sym c.in-Ok.ensures in
    let walked = c.walk.ensures.saved tree pins stands known.0 in
    tree_reordered_trans (in_call c.args.heap.now c.args.purse.now c.args.self.now) (in_call c.walk.new.heap c.walk.new.purse c.walk.new.self) (in_call c.inode-inode.new.heap c.inode-inode.new.purse c.inode-inode.new.self) walked
    (c.inode-inode.ensures.saved (subst (λ o. IsSome o) (sym (walked.nodes c.in-Ok.number)) (known.1 c.in-Ok.number e)))

pub returns-in-Err-clause-saved : goal.returns-in-Err-clause-saved
returns-in-Err-clause-saved c = λ tree pins stands known. c.walk.ensures.saved tree pins stands known.0

pub returns-in-Ok-clause-kept : goal.returns-in-Ok-clause-kept
returns-in-Ok-clause-kept c = λ tree pins stands.
    let e = ap calls.node_led (sym (c.walk.ensures.resolved tree pins stands)) ∙ sym c.in-Ok.ensures in
    keeps_led c.inode-inode.new.self (resolve tree c.args.cwd c.args.path.now) c.in-Ok.number
    (λ parent name node slashed is. subst (λ o. IsSome (name_slot o (name_key parent name))) (sym c.inode-inode.ensures.names) (c.walk.ensures.kept tree pins parent name node slashed stands is)) e c.inode-inode.ensures.kept

pub returns-in-Err-clause-kept : goal.returns-in-Err-clause-kept
returns-in-Err-clause-kept c = λ tree pins stands.
    keeps_none c.walk.new.self (resolve tree c.args.cwd c.args.path.now) c.in-Err.errno (ap calls.node_led (sym (c.walk.ensures.resolved tree pins stands)) ∙ sym c.in-Err.ensures)
