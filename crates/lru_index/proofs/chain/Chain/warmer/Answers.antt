use Rattle.std.proofs.Common.{sym, ap, ◌∙◌}
use Rattle.std.specs.Option.{option_and_then}
use Rattle.lru_index.specs.Chain.{item_at}
use Rattle.lru_index.proofs.Chained.{chain_warmer}
use Rattle.lru_index.proofs.chain.Chain.warmer.Goals as goal

pub returns-in-Some : goal.returns-in-Some
returns-in-Some g c items h =
    let links = c.args.self.now.links.items in
    c.item_of.ensures ∙ ap (λ o. option_and_then (item_at links) (option_and_then (λ u. u.warmer) o)) (sym c.in-Some.is ∙ c.link.ensures.value) ∙ chain_warmer c.args.self.now items h c.args.place

pub returns-in-None : goal.returns-in-None
returns-in-None g c items h =
    let links = c.args.self.now.links.items in
    ap (λ o. option_and_then (item_at links) (option_and_then (λ u. u.warmer) o)) (sym c.in-None.is ∙ c.link.ensures.value) ∙ chain_warmer c.args.self.now items h c.args.place
