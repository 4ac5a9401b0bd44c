use Rattle.std.proofs.Common.{◌≡◌, ◌+◌, ◌-◌, ◌<◌, [], length, vec_len, sym, ap, ◌∙◌, subst, arith, length-append}
use Rattle.std.specs.Prelude.{vec_capacity}
use Rattle.std.proofs.lemmas.List.{nil_from_length}
use Rattle.lru_index.specs.Chain.{items_of}
use Rattle.lru_index.specs.Index.{HasPlace, falling}
use Rattle.lru_index.proofs.Kept.{popped, grown, length-falling}
use Rattle.lru_index.proofs.index.free_place.Goals.{In-None}
use Rattle.lru_index.proofs.index.free_place.Goals as goal

-- none that was used is free
none_used : (g : _) (c : In-None g) → c.args.free.now.items ≡ []
none_used g c = nil_from_length c.args.free.now.items (omega (arith, c.in-None.ensures.cases.0, c.args.free.now.ok.0))

none_left : (g : _) (c : In-None g) → c.pop.new.self.items ≡ []
none_left g c = nil_from_length c.pop.new.self.items (omega (arith, c.in-None.ensures.cases.1, c.pop.new.self.ok.0))

-- there is one that isn't made
more : (g : _) (c : In-None g) → vec_len c.args.chain.now.links < c.args.capacity
more g c =
    let made = vec_len c.args.chain.now.links in
    let most = c.args.capacity in
    let all = length-append (falling (most - made) made) c.args.free.now.items ∙ ap (λ n. n + length c.args.free.now.items) (length-falling (most - made) made) in
    omega (arith, c.requires.index.kept.room, c.requires.room, all, ap length (none_used g c))

pub returns-in-Some : goal.returns-in-Some
returns-in-Some g c =
    let eq = g.K.PartialEq.eq in
    let scatter = g.K.Key.scatter in
    subst (λ room. HasPlace eq scatter c.args.places.now c.args.chain.now c.pop.new.self.items room c.args.capacity c.in-Some.place (items_of c.args.chain.now c.args.capacity)) (sym c.in-Some.ensures.capacity)
    (popped eq scatter c.args.places.now c.args.chain.now c.args.free.now.items c.pop.new.self.items (vec_capacity c.args.free.now) c.args.capacity c.in-Some.place c.requires.index c.in-Some.ensures.items)

pub returns-in-None : goal.returns-in-None
returns-in-None g c =
    let eq = g.K.PartialEq.eq in
    let scatter = g.K.Key.scatter in
    let here = (goal.at.returns-in-None g c).In-None in
    let table = c.grow-in-None.ensures in
    let chain = c.grow.ensures in
    subst (λ room. HasPlace eq scatter c.grow-in-None.new.self c.grow.new.self c.pop.new.self.items room c.args.capacity c.places-place.result (items_of c.args.chain.now c.args.capacity)) (sym c.in-None.ensures.capacity)
    (grown eq scatter c.args.places.now c.grow-in-None.new.self c.args.chain.now c.grow.new.self c.args.free.now.items c.pop.new.self.items (vec_capacity c.args.free.now) c.args.capacity c.places-place.result c.requires.index
    (none_used g here) (none_left g here) c.places-place.ensures (omega (arith, more g here, c.places-place.ensures))
    chain.kept chain.places chain.capacity table.kept table.same table.places table.capacity)
