use Rattle.std.proofs.Common.{◌≡◌, ◌<◌, ◌∷◌, ◌++◌, [], None, length, vec_len, sym, ap, ◌∙◌, subst, arith}
use Rattle.std.specs.Prelude.{vec_capacity}
use Rattle.std.specs.List.{AllByRecursion}
use Rattle.std.specs.Map.{lookup}
use Rattle.lru_index.specs.Chain.{items_of}
use Rattle.lru_index.specs.Order.{order}
use Rattle.lru_index.specs.Index.{IsKept, all_free, pairs_in}
use Rattle.lru_index.proofs.Kept.{IsSeen, seen, kept_put, kept_order, all_last, keys_fit, place_absent}
use Rattle.lru_index.proofs.Pairs.{found_put}
use Rattle.lru_index.proofs.Placed.{length_pairs, pairs_append}
use Rattle.lru_index.proofs.index.Index.put.Goals.{After-free_place-place}
use Rattle.lru_index.proofs.index.Index.put.Goals as goal

pub free_place-place-requires-clause-room : goal.free_place-place-requires-clause-room
free_place-place-requires-clause-room g c =
    let items = items_of c.self.inside.chain c.self.inside.capacity in
    let less : length (pairs_in items) < c.self.inside.capacity = subst (λ o. length o.pairs < o.capacity) (sym c.self.view_is) c.requires.room in
    omega (arith, less, length_pairs items)

absent : (g : _) (c : After-free_place-place g) → lookup (g.K.PartialEq.eq c.args.key) (pairs_in (items_of c.self.inside.chain c.self.inside.capacity)) ≡ None
absent g c = ap (λ o. lookup (g.K.PartialEq.eq c.args.key) o.pairs) c.self.view_is ∙ c.requires.absent

pub put-requires-clause-buckets : goal.put-requires-clause-buckets
put-requires-clause-buckets g c = let filed = c.free_place-place.ensures.kept.filed in omega (arith, filed.some, filed.buckets)

pub put-requires-clause-within : goal.put-requires-clause-within
put-requires-clause-within g c = omega (arith, c.free_place-place.ensures.there, c.free_place-place.ensures.places)

pub add-requires-clause-within : goal.add-requires-clause-within
add-requires-clause-within g c = c.free_place-place.ensures.there

pub add-requires-clause-free : goal.add-requires-clause-free
add-requires-clause-free g c =
    let kept = c.free_place-place.ensures.kept in
    kept.chained.others c.free_place-place.result (all_last _ (all_free c.self.inside.capacity (vec_len c.free_place-place.new.chain.links) c.free_place-place.new.free.items) c.free_place-place.result kept.are_free).no_item

-- the pair stands last, at the place that was free
now_seen : (g : _) (c : goal.After-add g) → IsSeen g.K.PartialEq.eq g.K.Key.scatter c.put.new.self c.add.new.self c.free_place-place.new.free.items (vec_capacity c.free_place-place.new.free) c.self.inside.capacity (items_of c.self.inside.chain c.self.inside.capacity ++ (c.free_place-place.result, (c.args.key, c.args.slot)) ∷ [])
now_seen g c =
    let most = c.self.inside.capacity in
    let items = items_of c.self.inside.chain most in
    let at = c.free_place-place.ensures in
    let kept = at.kept in
    let place = c.free_place-place.result in
    let table = c.free_place-place.new.places in
    let chain = c.free_place-place.new.chain in
    let free = c.free_place-place.new.free.items in
    let links = c.add.ensures.places in
    let none = (all_last _ (all_free most (vec_len chain.links) free) place kept.are_free).no_key in
    let filed = c.put.ensures.put kept.chains kept.filed none (place_absent g.K.PartialEq.eq g.K.Key.scatter table chain (all_free most (vec_len chain.links) free ++ place ∷ []) most items c.args.key kept (absent g (goal.at.invariant_of-self g c).After-free_place-place))
    (keys_fit g.K.PartialEq.eq g.K.Key.scatter table chain free most place items at.within at.places kept) in
    let made = kept_put g.met.K.Eq.laws g.met.K.Key.same g.K.Key.scatter table c.put.new.self chain c.add.new.self (all_free most (vec_len chain.links) free) place most items c.args.key c.args.slot kept (absent g (goal.at.invariant_of-self g c).After-free_place-place) filed c.put.ensures.others (c.add.ensures.added items kept.chained) in
    seen _ _ _ _ _ _ _ _ (subst (λ n. IsKept g.K.PartialEq.eq g.K.Key.scatter c.put.new.self c.add.new.self (all_free most n free) most (items ++ (place, (c.args.key, c.args.slot)) ∷ [])) (sym links) made)
    (subst (λ n. AllByRecursion (λ other. other < n) free) (sym links) at.made) (c.put.ensures.places ∙ at.places ∙ sym links) (omega (arith, at.within, links)) at.free_fits (omega (arith, at.links_fit, c.add.ensures.capacity)) (omega (arith, at.nodes_fit, c.put.ensures.capacity))

pairs_are : (g : _) (c : goal.After-add g) → pairs_in (items_of c.add.new.self c.self.inside.capacity) ≡ c.args.self.now.pairs ++ (c.args.key, c.args.slot) ∷ []
pairs_are g c =
    let items = items_of c.self.inside.chain c.self.inside.capacity in
    ap pairs_in (now_seen g c).items_are ∙ pairs_append items ((c.free_place-place.result, (c.args.key, c.args.slot)) ∷ []) ∙ ap (λ o. o.pairs ++ (c.args.key, c.args.slot) ∷ []) c.self.view_is

pub invariant_of-self : goal.invariant_of-self
invariant_of-self g c = (now_seen g c).index

pub returns-clause-valid : goal.returns-clause-valid
returns-clause-valid g c = kept_order _ _ _ _ _ _ _ (now_seen g c).index.kept

pub returns-clause-pairs : goal.returns-clause-pairs
returns-clause-pairs g c =
    let capacity : c.self.inside.capacity ≡ c.args.self.now.capacity = ap (λ o. o.capacity) c.self.view_is in
    λ i. order (pairs_are g c i) (capacity i)

pub returns-clause-finds : goal.returns-clause-finds
returns-clause-finds g c other = ap (lookup (g.K.PartialEq.eq other)) (pairs_are g c) ∙ found_put g.met.K.Eq.laws c.args.self.now.pairs c.args.key c.args.slot c.requires.absent other
