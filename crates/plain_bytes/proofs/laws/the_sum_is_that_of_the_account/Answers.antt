use Rattle.plain_bytes.proofs.ManyLemmas.{taken_all}
use Rattle.plain_bytes.proofs.laws.the_sum_is_that_of_the_account.Goals as goal

pub returns : goal.returns
returns c queues = taken_all queues
