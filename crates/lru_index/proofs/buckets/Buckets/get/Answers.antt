use Rattle.lru_index.proofs.Filed.{found_place}
use Rattle.lru_index.proofs.buckets.Buckets.get.Goals as goal

pub returns : goal.returns
returns g c chains filed = found_place g.met.K.Eq.laws g.met.K.Key.same g.K.Key.scatter c.args.self.now chains c.bucket.result c.args.key.now c.seek.result filed c.bucket.ensures.bucket (c.seek.ensures chains filed)
