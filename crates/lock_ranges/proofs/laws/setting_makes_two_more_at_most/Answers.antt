use Rattle.lock_ranges.proofs.Shape.{length-set}
use Rattle.lock_ranges.proofs.laws.setting_makes_two_more_at_most.Goals as goal

pub returns : goal.returns
returns c ranges kind start last canonical order within = length-set ranges kind start last canonical order
