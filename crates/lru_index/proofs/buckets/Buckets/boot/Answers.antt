use Rattle.std.proofs.Common.{◌/◌}
use Rattle.lru_index.proofs.Filed.{filed_empty}
use Rattle.lru_index.proofs.buckets.Buckets.boot.Goals as goal

pub returns-clause-filed : goal.returns-clause-filed
returns-clause-filed g c = filed_empty g.K.PartialEq.eq g.K.Key.scatter _ (c.args.places / 8) c.in_ok-firsts.ensures c.in_ok-nodes.ensures.len
