use Rattle.std.proofs.Common.{ap, ◌++◌, ◌∷◌, [], ◌∙◌}
use Rattle.proc_table.proofs.BootLemmas.{booted-account, booted-moves, booted-table}
use Rattle.proc_table.proofs.tables.ProcTable.boot.Goals as goal

pub returns-clause-moves : goal.returns-clause-moves
returns-clause-moves c =
    booted-moves c.args.heap.now c.insert_proc-key.new.self _ c.insert_proc-key.result c.insert_proc-key.ensures.vacant c.insert_proc-key.ensures.stored c.insert_proc-key.ensures.kept
    (ap (λ listed. record { listed = listed; last = 1 }) (c.push.ensures.items ∙ ap (λ front. front ++ record { pid = 1; key = c.insert_proc-key.result } ∷ []) c.new-listed.ensures))

pub returns-clause-table : goal.returns-clause-table
returns-clause-table c =
    booted-table c.args.heap.now c.insert_proc-key.new.self _ c.insert_proc-key.result c.insert_proc-key.ensures.vacant c.insert_proc-key.ensures.stored c.insert_proc-key.ensures.kept
    (ap (λ listed. record { listed = listed; last = 1 }) (c.push.ensures.items ∙ ap (λ front. front ++ record { pid = 1; key = c.insert_proc-key.result } ∷ []) c.new-listed.ensures))

pub returns-clause-account : goal.returns-clause-account
returns-clause-account c =
    booted-account c.args.heap.now c.insert_proc-key.new.self _ c.insert_proc-key.result c.insert_proc-key.ensures.vacant c.insert_proc-key.ensures.stored c.insert_proc-key.ensures.kept
    (ap (λ listed. record { listed = listed; last = 1 }) (c.push.ensures.items ∙ ap (λ front. front ++ record { pid = 1; key = c.insert_proc-key.result } ∷ []) c.new-listed.ensures))
