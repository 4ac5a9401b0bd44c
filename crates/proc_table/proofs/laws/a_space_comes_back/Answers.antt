use Rattle.proc_table.proofs.LawLemmas.{back-account, back-moves, back-others, back-procs, back-table}
use Rattle.proc_table.proofs.laws.a_space_comes_back.Goals as goal

pub returns-clause-procs : goal.returns-clause-procs
returns-clause-procs c = back-procs

pub returns-clause-moves : goal.returns-clause-moves
returns-clause-moves c = back-moves

pub returns-clause-others : goal.returns-clause-others
returns-clause-others c = back-others

pub returns-clause-table : goal.returns-clause-table
returns-clause-table c = λ old mid new kept pid key proc now table memory holds turns. back-table old mid new kept pid key proc now holds turns table memory

pub returns-clause-account : goal.returns-clause-account
returns-clause-account c = λ old mid new kept pid key proc now before after holds turns. back-account old mid new kept pid key proc now holds turns before after
