use Rattle.std.proofs.Common.{◌≡◌, true, false, is_eq, sym, ap, ◌∙◌}
use Rattle.lru_index.proofs.Seeking.{passing_start, passing_step, sought_hit, stands_there}
use Rattle.lru_index.proofs.buckets.Buckets.seek.Goals as goal

pub loop-init : goal.loop-init
loop-init g c chains filed = passing_start g.met.K.Eq.laws g.K.Key.scatter c.args.self.now chains c.args.bucket c.args.key.now filed c.first-at.result c.first-at.ensures

-- what is left of a bucket doesn't begin where nothing stands
pub returns-in_default-node : goal.returns-in_default-node
returns-in_default-node g c chains filed = absurd (stands_there g.met.K.Eq.laws g.K.Key.scatter c.args.self.now chains c.args.bucket c.args.key.now filed c.loop.before c.loop.at c.in-Some.place c.loop.counter (c.loop.invariant chains filed) c.in-Some.is (sym c.node.ensures.value ∙ c.in_default-node.is))

pub returns-then-is_eq : goal.returns-then-is_eq
returns-then-is_eq g c chains filed =
    let node = c.in-Some-node.node in
    let same : g.K.PartialEq.eq node.key c.args.key.now ≡ true = g.met.K.Ord.matches_eq node.key c.args.key.now ∙ sym (ap is_eq c.cmp.ensures) ∙ sym c.is_eq.ensures ∙ c.if-is_eq.true in
    sought_hit g.met.K.Eq.laws g.K.Key.scatter c.args.self.now chains c.args.bucket c.args.key.now filed c.loop.before c.loop.at c.in-Some.place c.loop.counter node (c.loop.invariant chains filed) c.in-Some.is (sym c.node.ensures.value ∙ c.in-Some-node.is) same

pub loop-preserved : goal.loop-preserved
loop-preserved g c chains filed =
    let node = c.in-Some-node.node in
    let other : g.K.PartialEq.eq node.key c.args.key.now ≡ false = g.met.K.Ord.matches_eq node.key c.args.key.now ∙ sym (ap is_eq c.cmp.ensures) ∙ sym c.is_eq.ensures ∙ c.if-is_eq.false in
    passing_step g.met.K.Eq.laws g.K.Key.scatter c.args.self.now chains c.args.bucket c.args.key.now filed c.loop.before c.loop.at c.in-Some.place c.loop.counter node (c.loop.invariant chains filed) c.in-Some.is (sym c.node.ensures.value ∙ c.in-Some-node.is) other
