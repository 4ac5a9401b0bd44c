use Rattle.std.proofs.Common.{◌≡◌, ◌<◌, Some, IsSome, nat_eq, sym, ap, ◌∙◌, subst}
use Rattle.std.specs.Prelude.{IfSome}
use Rattle.std.specs.List.{IsDistinct}
use Rattle.std.specs.Map.{keys_of}
use Rattle.lru_index.specs.Order.{first_key, coldest_of}
use Rattle.vnode_cache.specs.Nodes.{node_slot}
use Rattle.vnode_cache.proofs.OrderLemmas.{Parts, size_from, parts_first, parts_next, parts_smaller, parts_all, parts_found, all_held}
use Rattle.vnode_cache.proofs.cache.VnodeCache.coldest_loose.Goals as goal

pub loop-next-init : goal.loop-next-init
loop-next-init c = record {
  parts = parts_first c.args.heap.now.vnodes c.args.self.now.order c.coldest-next.result (c.coldest-next.ensures.key ∙ ap (λ o. first_key o.order.pairs) c.self.view_is);
  there = subst (λ o. IfSome c.coldest-next.result (λ n. IsSome (node_slot o n))) c.self.view_is c.coldest-next.ensures.is_there;
}

pub is_loose-requires-clause-there : goal.is_loose-requires-clause-there
is_loose-requires-clause-there c = subst (λ o. IfSome o (λ n. IsSome (node_slot c.args.self.now n))) c.in-Some.is c.loop-next.invariant.there

pub coldest-warmer-requires : goal.coldest-warmer-requires
coldest-warmer-requires c = record {
  there = λ x same.
      let one : c.in-Some.number ≡ x = cc in
      let there : IsSome (node_slot c.args.self.now c.in-Some.number) = subst (λ o. IfSome o (λ n. IsSome (node_slot c.args.self.now n))) c.in-Some.is c.loop-next.invariant.there in
      subst (λ o. IsSome (node_slot o x)) (sym c.self.view_is) (subst (λ n. IsSome (node_slot c.args.self.now n)) one there);
}

pub loop-next-preserved : goal.loop-next-preserved
loop-next-preserved c =
    let objects = c.args.heap.now.vnodes in
    let o = c.args.self.now.order in
    let number = c.in-Some.number in
    let distinct : IsDistinct nat_eq (keys_of o.pairs) = subst (λ p. IsDistinct nat_eq (keys_of p.order.pairs)) c.self.view_is c.coldest-next.ensures.valid.distinct in
    record {
      parts = parts_next objects o number c.coldest-warmer.result distinct (subst (Parts objects o) c.in-Some.is c.loop-next.invariant.parts) (sym c.is_loose.ensures ∙ c.if-is_loose.false) (c.coldest-warmer.ensures.key ∙ ap (λ p. coldest_of nat_eq (Some number) p.order.pairs) c.self.view_is);
      there = subst (λ p. IfSome c.coldest-warmer.result (λ n. IsSome (node_slot p n))) c.self.view_is c.coldest-warmer.ensures.is_there;
    }

pub loop-next-smaller : goal.loop-next-smaller
loop-next-smaller c =
    let objects = c.args.heap.now.vnodes in
    let o = c.args.self.now.order in
    let number = c.in-Some.number in
    let distinct : IsDistinct nat_eq (keys_of o.pairs) = subst (λ p. IsDistinct nat_eq (keys_of p.order.pairs)) c.self.view_is c.coldest-next.ensures.valid.distinct in
    subst (λ n. size_from o c.coldest-warmer.result < size_from o n) (sym c.in-Some.is) (parts_smaller objects o number c.coldest-warmer.result distinct (subst (Parts objects o) c.in-Some.is c.loop-next.invariant.parts) (c.coldest-warmer.ensures.key ∙ ap (λ p. coldest_of nat_eq (Some number) p.order.pairs) c.self.view_is))

pub returns-then-is_loose : goal.returns-then-is_loose
returns-then-is_loose c =
    let objects = c.args.heap.now.vnodes in
    let o = c.args.self.now.order in
    record { coldest = (parts_found objects o c.in-Some.number (subst (Parts objects o) c.in-Some.is c.loop-next.invariant.parts) (sym c.is_loose.ensures ∙ c.if-is_loose.true), subst (λ p. IfSome p (λ n. IsSome (node_slot c.args.self.now n))) c.in-Some.is c.loop-next.invariant.there) }

pub returns : goal.returns
returns c =
    let objects = c.args.heap.now.vnodes in
    let o = c.args.self.now.order in
    record { coldest = all_held objects o c.requires.kept (parts_all objects o (subst (Parts objects o) c.in_default.is c.loop-next.invariant.parts)) }
