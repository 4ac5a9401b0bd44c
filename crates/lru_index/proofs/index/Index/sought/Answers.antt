use Rattle.std.proofs.Common.{sym, ap, ◌∙◌, subst}
use Rattle.std.specs.Option.{option_map}
use Rattle.std.specs.Map.{lookup}
use Rattle.lru_index.specs.Chain.{items_of}
use Rattle.lru_index.specs.Order.{IsOrder}
use Rattle.lru_index.proofs.Placed.{agree, slot_found, none_seen}
use Rattle.lru_index.proofs.Kept.{kept_order}
use Rattle.lru_index.proofs.index.Index.sought.Goals as goal

pub returns-in-Some-clause-slot : goal.returns-in-Some-clause-slot
returns-in-Some-clause-slot g c =
    let test = g.K.PartialEq.eq c.args.key in
    let kept = c.self.invariant.kept in
    let items = items_of c.self.inside.chain c.self.inside.capacity in
    let agrees = agree g.met.K.Eq.laws c.args.key c.in-Some.place items kept.distinct kept.chained.distinct (sym (kept.found c.args.key) ∙ sym (c.in-Some.ensures kept.chains kept.filed)) in
    c.slot_in.ensures ∙ ap (option_map (λ pair. pair.1)) (c.item.ensures items kept.chained) ∙ slot_found test c.in-Some.place items agrees ∙ ap (λ o. lookup test o.pairs) c.self.view_is

pub returns-in-Some-clause-valid : goal.returns-in-Some-clause-valid
returns-in-Some-clause-valid g c = subst (IsOrder g.K.PartialEq.eq) c.self.view_is (kept_order _ _ _ _ _ _ _ c.self.invariant.kept)

pub returns-in-None-clause-slot : goal.returns-in-None-clause-slot
returns-in-None-clause-slot g c =
    let test = g.K.PartialEq.eq c.args.key in
    let kept = c.self.invariant.kept in
    let items = items_of c.self.inside.chain c.self.inside.capacity in
    sym (none_seen test items (sym (kept.found c.args.key) ∙ sym (c.in-None.ensures kept.chains kept.filed))) ∙ ap (λ o. lookup test o.pairs) c.self.view_is

pub returns-in-None-clause-valid : goal.returns-in-None-clause-valid
returns-in-None-clause-valid g c = subst (IsOrder g.K.PartialEq.eq) c.self.view_is (kept_order _ _ _ _ _ _ _ c.self.invariant.kept)
