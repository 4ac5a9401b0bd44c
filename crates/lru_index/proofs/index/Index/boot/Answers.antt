use Rattle.std.proofs.Common.{◌<◌, [], vec_len, sym, ◌∙◌, subst, arith}
use Rattle.std.specs.Prelude.{vec_capacity}
use Rattle.std.specs.List.{AllByRecursion}
use Rattle.lru_index.specs.Order.{order}
use Rattle.lru_index.specs.Index.{pairs_in}
use Rattle.lru_index.proofs.Kept.{IsSeen, seen, kept_empty}
use Rattle.lru_index.proofs.index.Index.boot.Goals as goal

-- no pair is there
made : (g : _) (c : goal.In_ok-free g) → IsSeen g.K.PartialEq.eq g.K.Key.scatter c.in_ok-places.places c.in_ok-chain.chain c.in_ok-free.free.items (vec_capacity c.in_ok-free.free) c.args.capacity []
made g c =
    let most = c.args.capacity in
    let chain = c.in_ok-chain.ensures in
    let places = c.in_ok-places.ensures in
    let free = c.in_ok-free.ensures in
    seen _ _ _ _ _ _ _ [] (kept_empty g.K.PartialEq.eq g.K.Key.scatter c.in_ok-places.places c.in_ok-chain.chain c.in_ok-free.free.items most free.items places.filed chain.empty chain.places places.places)
    (subst (AllByRecursion (λ place. place < vec_len c.in_ok-chain.chain.links)) (sym free.items) tt) (places.places ∙ sym chain.places) (omega (arith, chain.places)) free.capacity chain.room places.room

pub invariant_of-result : goal.invariant_of-result
invariant_of-result g c = (made g c).index

pub returns : goal.returns
returns g c =
    let items = (made g c).items_are in
    record { empty = λ i. order (pairs_in (items i)) c.args.capacity }
