use Rattle.std.proofs.Common.{None, Some, cond, get_or, nat_eq, vec_len, ap, ◌∙◌}
use Rattle.std.specs.Prelude.{slice_set}
use Rattle.lru_index.specs.Buckets.{node_at}
use Rattle.lru_index.proofs.Filed.{filed_put, own_bucket}
use Rattle.lru_index.proofs.buckets.Buckets.put.Goals as goal

pub returns-clause-put : goal.returns-clause-put
returns-clause-put g c chains filed free absent few =
    let old = c.args.self.now in
    let home = own_bucket g.met.K.Eq.laws g.met.K.Key.same g.K.Key.scatter old chains c.bucket-bucket.result c.args.key filed c.bucket-bucket.ensures.bucket in
    filed_put g.met.K.Eq.laws g.met.K.Key.same g.K.Key.scatter old c.set_first.new.self chains c.args.key c.args.place filed free absent few
    (c.set_first.ensures.firsts ∙ ap (λ v. slice_set v.items c.bucket-bucket.result (Some c.args.place)) c.set_node.ensures.firsts ∙ ap (λ b. slice_set old.firsts.items b (Some c.args.place)) home)
    (c.set_first.ensures.buckets ∙ ap vec_len c.set_node.ensures.firsts)
    (λ q. ap (λ v. node_at v.items q) c.set_first.ensures.nodes ∙ c.set_node.ensures.nodes q ∙ ap (λ n. cond (nat_eq c.args.place q) (Some (record { key = c.args.key; next = n })) (node_at old.nodes.items q)) (c.first-next.ensures ∙ ap (λ b. get_or old.firsts.items b None) home))
    (ap vec_len c.set_first.ensures.nodes ∙ c.set_node.ensures.places)
