use Rattle.lock_table.proofs.Tables.{holds_at_boot, none_held}
use Rattle.lock_table.proofs.laws.an_empty_table_has_no_lock.Goals as goal

pub returns-clause-begins : goal.returns-clause-begins
returns-clause-begins c = holds_at_boot

pub returns-clause-none : goal.returns-clause-none
returns-clause-none c = none_held
