use Rattle.std.proofs.Common.{Some, subst}
use Rattle.std.proofs.lemmas.Option.{same_Some}
use Rattle.plain_bytes.specs.Unread.{IsQueue}
use Rattle.plain_bytes.proofs.ManyLemmas.{follow_set, queues_set}
use Rattle.plain_bytes.proofs.laws.a_change_of_one_follows.Goals as goal

pub returns-clause-follow : goal.returns-clause-follow
returns-clause-follow c queues place queue now are there moved = follow_set queues place queue now are there moved

pub returns-clause-queues : goal.returns-clause-queues
returns-clause-queues c queues place now are is = queues_set queues place (Some now) are (λ queue same. subst IsQueue (same_Some now queue same) is)
