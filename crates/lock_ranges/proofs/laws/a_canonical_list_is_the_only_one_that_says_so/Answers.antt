use Rattle.lock_ranges.proofs.Unique.{only_one}
use Rattle.lock_ranges.proofs.laws.a_canonical_list_is_the_only_one_that_says_so.Goals as goal

pub returns : goal.returns
returns c = only_one
