use Rattle.group_heap.proofs.OneReading.{groups_once}
use Rattle.group_heap.proofs.laws.groups_read_in_one_way.Goals as goal

pub returns : goal.returns
returns c = λ text a b reads also. groups_once text a b reads also
