use Rattle.lock_ranges.proofs.Unique.{none_left}
use Rattle.lock_ranges.proofs.laws.letting_all_go_leaves_none.Goals as goal

pub returns : goal.returns
returns c = none_left
