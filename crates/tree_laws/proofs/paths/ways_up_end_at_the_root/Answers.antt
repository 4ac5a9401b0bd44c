use Rattle.tree_laws.proofs.Ways.{climbs_in_time, above_decides}
use Rattle.tree_laws.proofs.paths.ways_up_end_at_the_root.Goals as goal

pub returns-clause-climbs : goal.returns-clause-climbs
returns-clause-climbs c = λ tree dir is at. climbs_in_time tree dir is at

pub returns-clause-test : goal.returns-clause-test
returns-clause-test c = above_decides
