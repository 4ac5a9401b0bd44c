use Rattle.lock_table.proofs.Tables.{each_counts}
use Rattle.lock_table.proofs.laws.each_lock_is_one_of_the_heap.Goals as goal

pub returns : goal.returns
returns c = each_counts
