use Rattle.std.proofs.Common.{◌≡◌, ℕ, List, Option, None, Some, IsSome, cond, is_some, nat_eq, vec_len, sym, ap, ◌∙◌, subst}
use Rattle.std.specs.Prelude.{slice_set}
use Rattle.std.specs.Cmp.{nat_eq_equiv}
use Rattle.lru_index.specs.Buckets.{AreFiled, IsSought, in_bucket, node_at}
use Rattle.lru_index.proofs.Filed.{found_place, own_bucket, sought_stands, taken_by, still_none}
use Rattle.lru_index.proofs.Strung.{Goes}
use Rattle.lru_index.proofs.buckets.Buckets.take.Goals.{After-set_node, In_default-node}
use Rattle.lru_index.proofs.buckets.Buckets.take.Goals as goal

-- at the place that is found stands a node
stands : (g : _) (c : In_default-node g) (chains : List (List (g.row.K.Denot × ℕ))) → AreFiled g.K.PartialEq.eq g.K.Key.scatter c.args.self.now chains → ⊥
stands g c chains filed = sought_stands g.met.K.Eq.laws g.met.K.Key.same g.K.Key.scatter c.args.self.now chains c.bucket-bucket.result c.args.key.now filed c.seek-found.result c.in-Some.place (c.seek-found.ensures chains filed) c.in-Some.is (sym c.node.ensures.value ∙ c.in_default-node.is)

-- what a call answers that doesn't find the key
pub returns-in_default-clause-place : goal.returns-in_default-clause-place
returns-in_default-clause-place g c chains filed = sym c.in_default.is ∙ found_place g.met.K.Eq.laws g.met.K.Key.same g.K.Key.scatter c.args.self.now chains c.bucket-bucket.result c.args.key.now c.seek-found.result filed c.bucket-bucket.ensures.bucket (c.seek-found.ensures chains filed)

pub returns-in_default-clause-taken : goal.returns-in_default-clause-taken
returns-in_default-clause-taken g c chains filed there = absurd (nowhere (sym (found_place g.met.K.Eq.laws g.met.K.Key.same g.K.Key.scatter c.args.self.now chains c.bucket-bucket.result c.args.key.now c.seek-found.result filed c.bucket-bucket.ensures.bucket (c.seek-found.ensures chains filed)) ∙ c.in_default.is) there)
  where
    nowhere : {o : Option ℕ} → o ≡ None → IsSome o → ⊥
    nowhere none some = subst (λ o. IsSome o → ⊥) (sym none) (λ h. cc) some

pub returns-in_default-node-clause-place : goal.returns-in_default-node-clause-place
returns-in_default-node-clause-place g c chains filed = absurd (stands g c chains filed)

pub returns-in_default-node-clause-taken : goal.returns-in_default-node-clause-taken
returns-in_default-node-clause-taken g c chains filed there = absurd (stands g c chains filed)

-- the node of the place that was found went
goes : (g : _) (c : After-set_node g) → Goes (node_at c.args.self.now.nodes.items) (node_at c.set_node.new.self.nodes.items) c.in-Some.place c.in-Some-node.node.next c.seek-found.result.before
goes g c = λ q. c.set_node.ensures.nodes q ∙ ap (cond (nat_eq c.in-Some.place q) None) (c.link.ensures.nodes q)

pub returns-clause-place : goal.returns-clause-place
returns-clause-place g c chains filed = sym c.in-Some.is ∙ found_place g.met.K.Eq.laws g.met.K.Key.same g.K.Key.scatter c.args.self.now chains c.bucket-bucket.result c.args.key.now c.seek-found.result filed c.bucket-bucket.ensures.bucket (c.seek-found.ensures chains filed)

pub returns-clause-taken : goal.returns-clause-taken
returns-clause-taken g c chains filed there =
    let old = c.args.self.now in
    let its = own_bucket g.met.K.Eq.laws g.met.K.Key.same g.K.Key.scatter old chains c.bucket-bucket.result c.args.key.now filed c.bucket-bucket.ensures.bucket in
    let next = c.in-Some-node.node.next in
    taken_by g.met.K.Eq.laws g.met.K.Key.same g.K.Key.scatter old c.set_node.new.self chains c.args.key.now filed c.seek-found.result c.in-Some.place c.in-Some-node.node
    (subst (λ b. IsSought g.K.PartialEq.eq (in_bucket chains b) c.args.key.now c.seek-found.result) its (c.seek-found.ensures chains filed)) c.in-Some.is (sym c.node.ensures.value ∙ c.in-Some-node.is)
    (ap (λ v. v.items) c.set_node.ensures.firsts ∙ c.link.ensures.firsts ∙ ap (λ b. cond (is_some c.seek-found.result.before) old.firsts.items (slice_set old.firsts.items b next)) its)
    (ap vec_len c.set_node.ensures.firsts ∙ c.link.ensures.buckets) (goes g c) (c.set_node.ensures.places ∙ c.link.ensures.places)

pub returns-clause-still_none : goal.returns-clause-still_none
returns-clause-still_none g c other none = still_none (node_at c.args.self.now.nodes.items) (node_at c.set_node.new.self.nodes.items) c.in-Some.place c.seek-found.result.before c.in-Some-node.node.next (goes g c) other none

pub returns-clause-freed : goal.returns-clause-freed
returns-clause-freed g c place is =
    let same : c.in-Some.place ≡ place = some_same is in
    subst (λ q. node_at c.set_node.new.self.nodes.items q ≡ None) same (c.set_node.ensures.nodes c.in-Some.place ∙ ap (λ b. cond b None (node_at c.link.new.self.nodes.items c.in-Some.place)) (nat_eq_equiv.refl c.in-Some.place))
  where
    some_same : {a b : ℕ} → Some a ≡ Some b → a ≡ b
    some_same e = cc
