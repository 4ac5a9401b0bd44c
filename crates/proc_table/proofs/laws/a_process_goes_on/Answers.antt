use Rattle.proc_table.proofs.LawLemmas.{on-account, on-disposed, on-moves, on-procs, on-table}
use Rattle.proc_table.proofs.laws.a_process_goes_on.Goals as goal

pub returns-clause-procs : goal.returns-clause-procs
returns-clause-procs c = on-procs

pub returns-clause-moves : goal.returns-clause-moves
returns-clause-moves c = on-moves

pub returns-clause-table : goal.returns-clause-table
returns-clause-table c = λ old new kept pid key proc now table holds turns. on-table old new kept pid key proc now holds turns table

pub returns-clause-disposed : goal.returns-clause-disposed
returns-clause-disposed c = λ old new kept pid key proc now table holds turns. on-disposed old new kept pid key proc now holds turns table

pub returns-clause-account : goal.returns-clause-account
returns-clause-account c = λ old new kept pid key proc now frames holds turns. on-account old new kept pid key proc now holds turns frames
