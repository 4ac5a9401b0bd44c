use Rattle.std.proofs.Common.{sym, ap, ◌∙◌}
use Rattle.std.specs.Option.{option_map}
use Rattle.lru_index.proofs.Chained.{chain_item}
use Rattle.lru_index.proofs.chain.Chain.item.Goals as goal

pub returns-in-Some : goal.returns-in-Some
returns-in-Some g c items h = ap (option_map (λ u. u.item)) (sym c.in-Some.is ∙ c.link.ensures.value) ∙ sym (chain_item c.args.self.now items h c.args.place)

pub returns-in-None : goal.returns-in-None
returns-in-None g c items h = ap (option_map (λ u. u.item)) (sym c.in-None.is ∙ c.link.ensures.value) ∙ sym (chain_item c.args.self.now items h c.args.place)
