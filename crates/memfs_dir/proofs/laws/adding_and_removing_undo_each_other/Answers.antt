use Rattle.memfs_dir.proofs.Places.{back_as_it_was, back_in_another_order}
use Rattle.memfs_dir.proofs.laws.adding_and_removing_undo_each_other.Goals as goal

pub returns-clause-same : goal.returns-clause-same
returns-clause-same c = back_as_it_was

pub returns-clause-permuted : goal.returns-clause-permuted
returns-clause-permuted c = back_in_another_order
