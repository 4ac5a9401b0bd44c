use Rattle.std.proofs.Common.{None}
use Rattle.std.proofs.lemmas.Option.{none-some}
use Rattle.plain_bytes.proofs.ManyLemmas.{queues_pushed, queues_set}
use Rattle.plain_bytes.proofs.laws.goings_and_comings_follow.Goals as goal

pub returns-clause-gone_queues : goal.returns-clause-gone_queues
returns-clause-gone_queues c queues place are = queues_set queues place None are (λ queue same. absurd (none-some queue same))

pub returns-clause-new_queues : goal.returns-clause-new_queues
returns-clause-new_queues c queues are = queues_pushed queues are
