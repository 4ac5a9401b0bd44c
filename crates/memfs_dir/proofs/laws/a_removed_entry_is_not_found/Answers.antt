use Rattle.memfs_dir.proofs.Places.{removed_gone, removed_others, removed_distinct}
use Rattle.memfs_dir.proofs.laws.a_removed_entry_is_not_found.Goals as goal

pub returns-clause-gone : goal.returns-clause-gone
returns-clause-gone c = removed_gone

pub returns-clause-others : goal.returns-clause-others
returns-clause-others c = removed_others

pub returns-clause-distinct : goal.returns-clause-distinct
returns-clause-distinct c = removed_distinct
