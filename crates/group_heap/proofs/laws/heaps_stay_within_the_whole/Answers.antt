use Rattle.group_heap.proofs.Holding.{whole_for_groups}
use Rattle.group_heap.proofs.laws.heaps_stay_within_the_whole.Goals as goal

pub returns : goal.returns
returns c = λ whole s rule boot. whole_for_groups whole s rule boot
