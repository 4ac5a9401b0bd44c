use Rattle.proc_numbers.proofs.Fronts.{fronts_follow}
use Rattle.proc_numbers.proofs.laws.fronts_follow_where_queues_stand.Goals as goal

pub returns : goal.returns
returns c = fronts_follow
