use Rattle.proc_table.proofs.LawLemmas.{elsewhere_account, elsewhere_holds, elsewhere_table}
use Rattle.proc_table.proofs.laws.the_heap_changes_elsewhere.Goals as goal

pub returns-clause-holds : goal.returns-clause-holds
returns-clause-holds c = elsewhere_holds

pub returns-clause-table : goal.returns-clause-table
returns-clause-table c = elsewhere_table

pub returns-clause-account : goal.returns-clause-account
returns-clause-account c = elsewhere_account
