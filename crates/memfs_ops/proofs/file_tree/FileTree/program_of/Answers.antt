use Rattle.std.proofs.Common.{◌≡◌, ℕ, IsSome, Result, Ok, Err, sym, ap, ◌∙◌, subst}
use Rattle.kabi_types.specs.declared.errnos.Errno.{Errno}
use Rattle.lru_index.specs.NameKeys.{name_key}
use Rattle.name_cache.specs.Names.{name_slot}
use Rattle.posix_defs.specs.PathCalls as calls
use Rattle.posix_defs.specs.Paths.{IsLed, resolve}
use Rattle.posix_defs.specs.declared.walked.Walked.{Walked}
use Rattle.tree_laws.proofs.PathLeads.{path_led}
use Rattle.memfs_node.proofs.Looking.{led_in_use}
use Rattle.tree_laws.proofs.TreeKeeps.{same_Ok}
use Rattle.memfs_ops.specs.Starting.{KeepsLine}
use Rattle.memfs_ops.proofs.LookLemmas.{keeps_led, keeps_none, pays_of, pays_trans}
use Rattle.memfs_ops.proofs.ProgramLemmas.{still_line, keeps_line}
use Rattle.memfs_ops.proofs.file_tree.FileTree.program_of.Goals as goal

pub program_at-requires-clause-stands : goal.program_at-requires-clause-stands
program_at-requires-clause-stands c =
    let s = c.requires.stands in
    let led = subst (λ (w : Walked). IsLed s.0 w) (sym (c.walk.ensures.resolved s.0 s.1 s.2)) (path_led s.0 c.args.cwd c.args.path.now s.2.is_tree s.3) in
    (s.0, s.1, c.walk.ensures.looks.stands s.0 s.1 s.2, led_in_use s.0 c.walk.result c.in-Ok.number s.2.is_tree led (sym c.in-Ok.ensures))

pub program_at-requires-clause-may : goal.program_at-requires-clause-may
program_at-requires-clause-may c = c.walk.ensures.looks.may

pub returns-in-Ok-clause-value : goal.returns-in-Ok-clause-value
returns-in-Ok-clause-value c = λ tree pins stands.
    let e = ap calls.node_led (sym (c.walk.ensures.resolved tree pins stands)) ∙ sym c.in-Ok.ensures in
    c.program_at.ensures.value tree pins (c.walk.ensures.looks.stands tree pins stands) ∙ sym (ap (calls.exec_found tree c.args.script.now.programs) e)

pub returns-in-Ok-clause-stands : goal.returns-in-Ok-clause-stands
returns-in-Ok-clause-stands c = λ tree pins stands. c.program_at.ensures.stands tree pins (c.walk.ensures.looks.stands tree pins stands)

pub returns-in-Ok-clause-pays : goal.returns-in-Ok-clause-pays
returns-in-Ok-clause-pays c =
    let w = c.walk in
    let m = c.program_at in
    pays_trans c.args.heap.now w.new.heap m.new.heap c.args.purse.now w.new.purse m.new.purse c.args.self.now w.new.self m.new.self w.ensures.looks m.ensures.pays

pub returns-in-Ok-clause-kept : goal.returns-in-Ok-clause-kept
returns-in-Ok-clause-kept c = λ tree pins stands.
    let e = ap calls.node_led (sym (c.walk.ensures.resolved tree pins stands)) ∙ sym c.in-Ok.ensures in
    keeps_led c.program_at.new.self (resolve tree c.args.cwd c.args.path.now) c.in-Ok.number
    (λ parent name node slashed is. subst (λ o. IsSome (name_slot o (name_key parent name))) (sym c.program_at.ensures.names) (c.walk.ensures.kept tree pins parent name node slashed stands is)) e c.program_at.ensures.kept

pub returns-in-Err-clause-value : goal.returns-in-Err-clause-value
returns-in-Err-clause-value c = λ tree pins stands.
    sym (ap (calls.exec_found tree c.args.script.now.programs) (ap calls.node_led (sym (c.walk.ensures.resolved tree pins stands)) ∙ sym c.in-Err.ensures))

pub returns-in-Err-clause-stands : goal.returns-in-Err-clause-stands
returns-in-Err-clause-stands c = λ tree pins stands. c.walk.ensures.looks.stands tree pins stands

pub returns-in-Err-clause-pays : goal.returns-in-Err-clause-pays
returns-in-Err-clause-pays c = pays_of c.args.heap.now c.walk.new.heap c.args.purse.now c.walk.new.purse c.args.self.now c.walk.new.self c.walk.ensures.looks

pub returns-in-Err-clause-kept : goal.returns-in-Err-clause-kept
returns-in-Err-clause-kept c = λ tree pins stands.
    keeps_none c.walk.new.self (resolve tree c.args.cwd c.args.path.now) c.in-Err.errno (ap calls.node_led (sym (c.walk.ensures.resolved tree pins stands)) ∙ sym c.in-Err.ensures)

pub returns-in-Ok-clause-saved : goal.returns-in-Ok-clause-saved
returns-in-Ok-clause-saved c = λ tree pins stands known line.
    let e = ap calls.node_led (sym (c.walk.ensures.resolved tree pins stands)) ∙ sym c.in-Ok.ensures in
    let walked = c.walk.ensures.saved tree pins stands known.0 in
    c.program_at.ensures.saved (subst (λ o. IsSome o) (sym (walked.nodes c.in-Ok.number)) (known.1 c.in-Ok.number e))
    (still_line c.args.self.now c.walk.new.self c.in-Ok.number walked.disk walked.blocks (line c.in-Ok.number e)) ∙ walked.disk

pub returns-in-Err-clause-saved : goal.returns-in-Err-clause-saved
returns-in-Err-clause-saved c = λ tree pins stands known line. (c.walk.ensures.saved tree pins stands known.0).disk

pub returns-in-Ok-clause-line : goal.returns-in-Ok-clause-line
returns-in-Ok-clause-line c = λ tree pins number stands led.
    let e = ap calls.node_led (sym (c.walk.ensures.resolved tree pins stands)) ∙ sym c.in-Ok.ensures in
    let same : c.in-Ok.number ≡ number = same_Ok c.in-Ok.number number (sym e ∙ led) in
    subst (λ (n : ℕ). KeepsLine c.args.self.now c.program_at.new.self n) same
    (keeps_line c.args.self.now c.walk.new.self c.program_at.new.self c.in-Ok.number c.walk.ensures.looks.on.bytes c.program_at.ensures.line)

pub returns-in-Err-clause-line : goal.returns-in-Err-clause-line
returns-in-Err-clause-line c = λ tree pins number stands led.
    let e = ap calls.node_led (sym (c.walk.ensures.resolved tree pins stands)) ∙ sym c.in-Err.ensures in
    let both : ◌≡◌ {A = Result ℕ Errno} (Err c.in-Err.errno) (Ok number) = sym e ∙ led in
    absurd (cc)
