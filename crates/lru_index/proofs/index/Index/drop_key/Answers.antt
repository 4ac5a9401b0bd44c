use Rattle.std.proofs.Common.{◌≡◌, ℕ, ◌<◌, Some, None, IsSome, length, Option, nat_eq, vec_len, sym, ap, ◌∙◌, subst, arith}
use Rattle.std.specs.Prelude.{vec_capacity}
use Rattle.std.specs.Option.{option_map}
use Rattle.std.specs.List.{AllByRecursion}
use Rattle.std.specs.Map.{lookup, remove_entry}
use Rattle.lru_index.specs.Buckets.{place_of}
use Rattle.lru_index.specs.Chain.{items_of}
use Rattle.lru_index.specs.Order.{IsOrder, order}
use Rattle.lru_index.specs.Index.{IsKept, all_free, pairs_in}
use Rattle.lru_index.proofs.Kept.{IsSeen, seen, kept_removed, kept_order, in_use, all_push, free_again, freed_fits}
use Rattle.lru_index.proofs.Pairs.{found_removed, length_removed}
use Rattle.lru_index.proofs.Placed.{Agree, agree, slot_found, some_placed, place_there, pairs_removed, length_pairs}
use Rattle.lru_index.proofs.Table.{within_table}
use Rattle.lru_index.proofs.index.Index.drop_key.Goals.{After-take, In-Some}
use Rattle.lru_index.proofs.index.Index.drop_key.Goals as goal

pub take-requires : goal.take-requires
take-requires g c = let filed = c.self.invariant.kept.filed in omega (arith, filed.some, filed.buckets)

-- the key has a place
there : (g : _) (c : After-take g) → IsSome (place_of g.K.PartialEq.eq g.K.Key.scatter c.self.invariant.kept.chains c.args.key)
there g c =
    let test = g.K.PartialEq.eq c.args.key in
    subst IsSome (sym (c.self.invariant.kept.found c.args.key)) (some_placed test _ (subst (λ o. IsSome (lookup test o.pairs)) (sym c.self.view_is) c.requires.there))

pub unreachable-requires : goal.unreachable-requires
unreachable-requires g c =
    let kept = c.self.invariant.kept in
    let none : place_of g.K.PartialEq.eq g.K.Key.scatter kept.chains c.args.key ≡ None = sym (c.take.ensures.place kept.chains kept.filed) ∙ c.in_default.is in
    no_place none (there g (goal.at.unreachable-requires g c).After-take)
  where
    no_place : {o : Option ℕ} → o ≡ None → IsSome o → ⊥
    no_place none some = grind arith

placed : (g : _) (c : In-Some g) → place_of g.K.PartialEq.eq g.K.Key.scatter c.self.invariant.kept.chains c.args.key ≡ Some c.in-Some.place
placed g c = sym (c.take.ensures.place c.self.invariant.kept.chains c.self.invariant.kept.filed) ∙ c.in-Some.is

agrees : (g : _) (c : In-Some g) → Agree (g.K.PartialEq.eq c.args.key) c.in-Some.place (items_of c.self.inside.chain c.self.inside.capacity)
agrees g c =
    let kept = c.self.invariant.kept in
    agree g.met.K.Eq.laws c.args.key c.in-Some.place (items_of c.self.inside.chain c.self.inside.capacity) kept.distinct kept.chained.distinct (sym (kept.found c.args.key) ∙ placed g c)

used : (g : _) (c : In-Some g) → IsSome (lookup (nat_eq c.in-Some.place) (items_of c.self.inside.chain c.self.inside.capacity))
used g c =
    let kept = c.self.invariant.kept in
    place_there g.met.K.Eq.laws c.args.key c.in-Some.place (items_of c.self.inside.chain c.self.inside.capacity) (sym (kept.found c.args.key) ∙ placed g c)

pub remove-pair-requires : goal.remove-pair-requires
remove-pair-requires g c = record { there = in_use c.self.inside.chain (items_of c.self.inside.chain c.self.inside.capacity) c.in-Some.place c.self.invariant.kept.chained (used g (goal.at.remove-pair-requires g c).In-Some) }

pub push_reserved-requires : goal.push_reserved-requires
push_reserved-requires g c = omega (arith, freed_fits g.K.PartialEq.eq g.K.Key.scatter c.self.inside.places c.self.inside.chain c.self.inside.free.items _ c.self.inside.capacity c.in-Some.place c.self.invariant (used g (goal.at.push_reserved-requires g c).In-Some), c.self.inside.free.ok)

-- the pair is gone, and its place is free
now_seen : (g : _) (c : goal.After-push_reserved g) → IsSeen g.K.PartialEq.eq g.K.Key.scatter c.take.new.self c.remove-pair.new.self c.push_reserved.new.self.items (vec_capacity c.push_reserved.new.self) c.self.inside.capacity (remove_entry (nat_eq c.in-Some.place) (items_of c.self.inside.chain c.self.inside.capacity))
now_seen g c =
    let inside = c.self.inside in
    let index = c.self.invariant in
    let kept = index.kept in
    let most = inside.capacity in
    let items = items_of inside.chain most in
    let place = c.in-Some.place in
    let rest = remove_entry (nat_eq place) items in
    let links = c.remove-pair.ensures.places in
    let made = kept_removed g.met.K.Eq.laws g.met.K.Key.same g.K.Key.scatter inside.places c.take.new.self inside.chain c.remove-pair.new.self (all_free most (vec_len inside.chain.links) inside.free.items) place most items c.args.key c.remove-pair.result kept (placed g (goal.at.invariant_of-self g c).In-Some) (c.remove-pair.ensures.item items kept.chained)
    (c.take.ensures.taken kept.chains kept.filed (there g (goal.at.invariant_of-self g c).After-take)) c.take.ensures.still_none (c.take.ensures.freed place c.in-Some.is) (c.remove-pair.ensures.removed items kept.chained) in
    let lists = sym (free_again most (vec_len inside.chain.links) inside.free.items place) ∙ ap (all_free most (vec_len inside.chain.links)) (sym c.push_reserved.ensures.items) ∙ ap (λ n. all_free most n c.push_reserved.new.self.items) (sym links) in
    let within = within_table inside.chain.links.items place (in_use inside.chain items place kept.chained (used g (goal.at.invariant_of-self g c).In-Some)) in
    seen _ _ _ _ _ _ _ _ (subst (λ l. IsKept g.K.PartialEq.eq g.K.Key.scatter c.take.new.self c.remove-pair.new.self l most rest) lists made)
    (subst (λ n. AllByRecursion (λ other. other < n) c.push_reserved.new.self.items) (sym links) (subst (AllByRecursion (λ other. other < vec_len inside.chain.links)) (sym c.push_reserved.ensures.items) (all_push _ inside.free.items place index.made (omega (arith, within, inside.chain.links.ok.0)))))
    (c.take.ensures.places ∙ index.places ∙ sym links) (omega (arith, index.within, links)) (omega (arith, index.free_fits, c.push_reserved.ensures.capacity)) (omega (arith, index.links_fit, c.remove-pair.ensures.capacity)) (omega (arith, index.nodes_fit, c.take.ensures.capacity))

pairs_are : (g : _) (c : goal.After-push_reserved g) → pairs_in (items_of c.remove-pair.new.self c.self.inside.capacity) ≡ remove_entry (g.K.PartialEq.eq c.args.key) c.args.self.now.pairs
pairs_are g c =
    let items = items_of c.self.inside.chain c.self.inside.capacity in
    let test = g.K.PartialEq.eq c.args.key in
    ap pairs_in (now_seen g c).items_are ∙ pairs_removed test c.in-Some.place items (agrees g (goal.at.invariant_of-self g c).In-Some) ∙ ap (λ o. remove_entry test o.pairs) c.self.view_is

pub invariant_of-self : goal.invariant_of-self
invariant_of-self g c = (now_seen g c).index

pub returns-clause-slot : goal.returns-clause-slot
returns-clause-slot g c =
    let kept = c.self.invariant.kept in
    let items = items_of c.self.inside.chain c.self.inside.capacity in
    let test = g.K.PartialEq.eq c.args.key in
    sym (ap (λ o. lookup test o.pairs) c.self.view_is) ∙ sym (slot_found test c.in-Some.place items (agrees g (goal.at.returns-clause-slot g c).In-Some)) ∙ ap (option_map (λ pair. pair.1)) (c.remove-pair.ensures.item items kept.chained)

pub returns-clause-valid : goal.returns-clause-valid
returns-clause-valid g c = kept_order _ _ _ _ _ _ _ (now_seen g c).index.kept

pub returns-clause-pairs : goal.returns-clause-pairs
returns-clause-pairs g c =
    let capacity : c.self.inside.capacity ≡ c.args.self.now.capacity = ap (λ o. o.capacity) c.self.view_is in
    λ i. order (pairs_are g c i) (capacity i)

pub returns-clause-finds : goal.returns-clause-finds
returns-clause-finds g c other =
    let order_is = subst (IsOrder g.K.PartialEq.eq) c.self.view_is (kept_order _ _ _ _ _ _ _ c.self.invariant.kept) in
    ap (lookup (g.K.PartialEq.eq other)) (pairs_are g c) ∙ found_removed g.met.K.Eq.laws c.args.self.now.pairs c.args.key order_is.distinct other

pub returns-clause-room : goal.returns-clause-room
returns-clause-room g c =
    let items = items_of c.self.inside.chain c.self.inside.capacity in
    let fewer = length_removed (nat_eq c.in-Some.place) items (used g (goal.at.returns-clause-room g c).In-Some) in
    let now = ap length (now_seen g c).items_are in
    let pairs = length_pairs (items_of c.remove-pair.new.self c.self.inside.capacity) in
    omega (arith, c.self.invariant.kept.room, fewer, now, pairs)
