use Rattle.std.proofs.Common.{◌≡◌, ◌+◌, ◌-◌, ◌<◌, length, vec_len, subst, ap, ◌∙◌, arith, length-append}
use Rattle.std.specs.Bool.{MatchBool}
use Rattle.lru_index.specs.Chain.{items_of}
use Rattle.lru_index.specs.Index.{falling, pairs_in}
use Rattle.lru_index.proofs.Placed.{length_pairs}
use Rattle.lru_index.proofs.Kept.{full, length-falling}
use Rattle.lru_index.proofs.index.Index.is_full.Goals as goal

pub none_left-requires : goal.none_left-requires
none_left-requires g c = omega (arith, c.self.invariant.within, c.places.ensures)

pub returns : goal.returns
returns g c =
    let inside = c.self.inside in
    let index = c.self.invariant in
    let most = inside.capacity in
    let made = vec_len inside.chain.links in
    let items = items_of inside.chain most in
    let long : length (pairs_in items) ≡ length items = length_pairs items in
    let free : vec_len inside.free ≡ length inside.free.items = inside.free.ok.0 in
    let all = length-append (falling (most - made) made) inside.free.items ∙ ap (λ n. n + length inside.free.items) (length-falling (most - made) made) in
    subst (λ o. MatchBool c.none_left.result (o.capacity ≡ length o.pairs) (length o.pairs < o.capacity)) c.self.view_is
    (full c.none_left.result (vec_len inside.free) c.places.result (length (pairs_in items)) most c.none_left.ensures (omega (arith, index.within, c.places.ensures)) (omega (arith, index.kept.room, all, long, free, c.places.ensures)))
