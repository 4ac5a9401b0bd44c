use Rattle.memfs_dir.proofs.Names.{found_at_end, others_stay, added_distinct}
use Rattle.memfs_dir.proofs.laws.an_added_entry_is_found_at_the_end.Goals as goal

pub returns-clause-found : goal.returns-clause-found
returns-clause-found c = found_at_end

pub returns-clause-others : goal.returns-clause-others
returns-clause-others c = others_stay

pub returns-clause-distinct : goal.returns-clause-distinct
returns-clause-distinct c = added_distinct
