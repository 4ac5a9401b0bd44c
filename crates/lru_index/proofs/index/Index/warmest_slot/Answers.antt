use Rattle.std.proofs.Common.{IfSome, subst}
use Rattle.lru_index.specs.Chain.{items_of}
use Rattle.lru_index.specs.Order.{IsOrder, IsWarmest}
use Rattle.lru_index.proofs.Placed.{warmest_in}
use Rattle.lru_index.proofs.Kept.{kept_order}
use Rattle.lru_index.proofs.index.Index.warmest_slot.Goals as goal

pub returns-clause-warmest : goal.returns-clause-warmest
returns-clause-warmest g c =
    let items = items_of c.self.inside.chain c.self.inside.capacity in
    subst (λ o. IfSome c.slot_for.result (λ slot. IsWarmest o.pairs c.args.key.now slot)) c.self.view_is
    (warmest_in items c.args.key.now c.slot_for.result c.warmest.result (c.warmest.ensures items c.self.invariant.kept.chained) c.slot_for.ensures)

pub returns-clause-valid : goal.returns-clause-valid
returns-clause-valid g c = subst (IsOrder g.K.PartialEq.eq) c.self.view_is (kept_order _ _ _ _ _ _ _ c.self.invariant.kept)
