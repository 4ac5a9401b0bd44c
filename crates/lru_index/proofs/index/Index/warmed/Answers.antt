use Rattle.std.proofs.Common.{◌≡◌, ◌<◌, None, Some, vec_len, sym, ap, ◌∙◌, subst, arith}
use Rattle.std.specs.Prelude.{vec_capacity, nat_eq}
use Rattle.std.specs.Option.{option_map}
use Rattle.std.specs.Map.{lookup}
use Rattle.lru_index.specs.Chain.{items_of}
use Rattle.std.specs.List.{AllByRecursion}
use Rattle.lru_index.specs.Index.{IsKept, all_free, pairs_in}
use Rattle.lru_index.specs.Order.{IsOrder, order, touched}
use Rattle.lru_index.proofs.Pairs.{touched_found, touched_absent}
use Rattle.lru_index.proofs.Placed.{Agree, agree, slot_found, none_seen, place_there, pairs_touched}
use Rattle.lru_index.proofs.Kept.{IsSeen, seen, kept_order, kept_touched, in_use}
use Rattle.lru_index.proofs.index.Index.warmed.Goals as goal

pub warm-requires : goal.warm-requires
warm-requires g c =
    let kept = c.self.invariant.kept in
    let items = items_of c.self.inside.chain c.self.inside.capacity in
    record { there = in_use c.self.inside.chain items c.in-Some.place kept.chained (place_there g.met.K.Eq.laws c.args.key c.in-Some.place items (sym (kept.found c.args.key) ∙ sym (c.in-Some.ensures kept.chains kept.filed))) }

-- the test of the key and that of its place agree
agrees : (g : _) (c : goal.After-warm g) → Agree (g.K.PartialEq.eq c.args.key) c.in-Some.place (items_of c.self.inside.chain c.self.inside.capacity)
agrees g c =
    let kept = c.self.invariant.kept in
    agree g.met.K.Eq.laws c.args.key c.in-Some.place (items_of c.self.inside.chain c.self.inside.capacity) kept.distinct kept.chained.distinct (sym (kept.found c.args.key) ∙ sym (c.in-Some.ensures kept.chains kept.filed))

slot_is : (g : _) (c : goal.After-warm g) → lookup (g.K.PartialEq.eq c.args.key) (pairs_in (items_of c.self.inside.chain c.self.inside.capacity)) ≡ Some c.warm.result.1
slot_is g c =
    let items = items_of c.self.inside.chain c.self.inside.capacity in
    sym (slot_found (g.K.PartialEq.eq c.args.key) c.in-Some.place items (agrees g c)) ∙ ap (option_map (λ pair. pair.1)) (c.warm.ensures.item items c.self.invariant.kept.chained)

-- the pair is the warmest
now_seen : (g : _) (c : goal.After-warm g) → IsSeen g.K.PartialEq.eq g.K.Key.scatter c.self.inside.places c.warm.new.self c.self.inside.free.items (vec_capacity c.self.inside.free) c.self.inside.capacity (touched (nat_eq c.in-Some.place) (items_of c.self.inside.chain c.self.inside.capacity))
now_seen g c =
    let inside = c.self.inside in
    let index = c.self.invariant in
    let kept = index.kept in
    let most = inside.capacity in
    let items = items_of inside.chain most in
    let links = c.warm.ensures.places in
    let room = c.warm.ensures.capacity in
    let made = kept_touched g.met.K.Eq.laws g.met.K.Key.same g.K.Key.scatter inside.places inside.chain c.warm.new.self (all_free most (vec_len inside.chain.links) inside.free.items) most items c.args.key c.in-Some.place c.warm.result c.warm.result.1 kept (sym (c.in-Some.ensures kept.chains kept.filed)) (c.warm.ensures.item items kept.chained) (slot_is g c) (c.warm.ensures.warmed items kept.chained) in
    seen _ _ _ _ _ _ _ _ (subst (λ n. IsKept g.K.PartialEq.eq g.K.Key.scatter inside.places c.warm.new.self (all_free most n inside.free.items) most (touched (nat_eq c.in-Some.place) items)) (sym links) made)
    (subst (λ n. AllByRecursion (λ place. place < n) inside.free.items) (sym links) index.made) (index.places ∙ sym links) (omega (arith, index.within, links)) index.free_fits (omega (arith, index.links_fit, room)) index.nodes_fit

pub invariant_of-self : goal.invariant_of-self
invariant_of-self g c = (now_seen g c).index

pub returns-in-Some-clause-slot : goal.returns-in-Some-clause-slot
returns-in-Some-clause-slot g c = sym (slot_is g c) ∙ ap (λ o. lookup (g.K.PartialEq.eq c.args.key) o.pairs) c.self.view_is

pub returns-in-Some-clause-pairs : goal.returns-in-Some-clause-pairs
returns-in-Some-clause-pairs g c =
    let most = c.self.inside.capacity in
    let test = g.K.PartialEq.eq c.args.key in
    let items = items_of c.self.inside.chain most in
    ap (λ l. order (pairs_in l) most) (now_seen g c).items_are ∙ ap (λ l. order l most) (pairs_touched test c.in-Some.place items (agrees g c)) ∙ ap (λ o. order (touched test o.pairs) o.capacity) c.self.view_is

pub returns-in-Some-clause-finds : goal.returns-in-Some-clause-finds
returns-in-Some-clause-finds g c other =
    let most = c.self.inside.capacity in
    let items = items_of c.self.inside.chain most in
    let find = lookup (g.K.PartialEq.eq other) in
    ap (λ l. find (pairs_in l)) (now_seen g c).items_are ∙ ap find (pairs_touched (g.K.PartialEq.eq c.args.key) c.in-Some.place items (agrees g c)) ∙ touched_found g.met.K.Eq.laws g.met.K.Key.same (pairs_in items) c.args.key c.warm.result.1 c.self.invariant.kept.distinct (slot_is g c) other ∙ ap (λ o. find o.pairs) c.self.view_is

pub returns-in-Some-clause-valid : goal.returns-in-Some-clause-valid
returns-in-Some-clause-valid g c = kept_order _ _ _ _ _ _ _ (now_seen g c).index.kept

absent : (g : _) (c : goal.In-None g) → lookup (g.K.PartialEq.eq c.args.key) c.args.self.now.pairs ≡ None
absent g c =
    let test = g.K.PartialEq.eq c.args.key in
    let items = items_of c.self.inside.chain c.self.inside.capacity in
    sym (ap (λ o. lookup test o.pairs) c.self.view_is) ∙ none_seen test items (sym (c.self.invariant.kept.found c.args.key) ∙ sym (c.in-None.ensures c.self.invariant.kept.chains c.self.invariant.kept.filed))

pub returns-in-None-clause-slot : goal.returns-in-None-clause-slot
returns-in-None-clause-slot g c = sym (absent g c)

pub returns-in-None-clause-pairs : goal.returns-in-None-clause-pairs
returns-in-None-clause-pairs g c = ap (λ l. order l c.args.self.now.capacity) (sym (touched_absent g.met.K.Eq.laws c.args.self.now.pairs c.args.key (absent g c)))

pub returns-in-None-clause-valid : goal.returns-in-None-clause-valid
returns-in-None-clause-valid g c = subst (IsOrder g.K.PartialEq.eq) c.self.view_is (kept_order _ _ _ _ _ _ _ c.self.invariant.kept)
