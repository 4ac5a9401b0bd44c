use Rattle.std.proofs.Common.{◌≡◌, ap, subst, ◌∙◌, w64}
use Rattle.std.proofs.lemmas.Int.{to_z-of_z}
use Rattle.std.specs.Option.{option_copied}
use Rattle.proc_table.specs.Changes.{verdict}
use Rattle.proc_table.specs.Procs.{target_of}
use Rattle.proc_table.specs.Table.{processes}
use Rattle.proc_table.proofs.TargetLemmas.{kill_by_verdict}
use Rattle.proc_table.proofs.tables.ProcTable.may_kill.Goals as goal

pub returns-clause-kill : goal.returns-clause-kill
returns-clause-kill c = λ script plain table.
    let said : c.judge.result ≡ verdict c.args.signal (option_copied c.target.result) =
    subst (λ z. c.judge.result ≡ verdict z (option_copied c.target.result)) (to_z-of_z w64 c.args.signal c.ranges.signal) c.judge.ensures in
    let found : option_copied c.target.result ≡ target_of (processes c.args.heap.now c.args.self.now) c.args.target =
    subst (λ z. option_copied c.target.result ≡ target_of (processes c.args.heap.now c.args.self.now) z) (to_z-of_z w64 c.args.target c.ranges.target) c.target.ensures in
    kill_by_verdict script plain c.args.heap.now c.args.self.now c.args._pid c.args.target c.args.signal c.judge.result (said ∙ ap (verdict c.args.signal) found) table
