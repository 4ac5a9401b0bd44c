use Rattle.plain_bytes.proofs.ManyLemmas.{taken_most}
use Rattle.plain_bytes.proofs.laws.the_sum_changes_by_one.Goals as goal

pub returns-clause-most : goal.returns-clause-most
returns-clause-most c queues are = taken_most queues are
