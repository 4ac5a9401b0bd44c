use Rattle.std.proofs.Common.{ap, ◌∙◌, refl}
use Rattle.lru_index.specs.Buckets.{node_at}
use Rattle.lru_index.proofs.Filed.{filed_grown, grown_same}
use Rattle.lru_index.proofs.buckets.Buckets.grow.Goals as goal

pub returns-clause-same : goal.returns-clause-same
returns-clause-same g c place = ap (λ nodes. node_at nodes place) c.push_reserved.ensures.items ∙ grown_same c.args.self.now.nodes.items place

pub returns-clause-kept : goal.returns-clause-kept
returns-clause-kept g c chains filed = filed_grown g.K.PartialEq.eq g.K.Key.scatter c.args.self.now _ chains refl c.push_reserved.ensures.len (returns-clause-same g c) filed
