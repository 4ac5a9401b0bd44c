use Rattle.std.proofs.Common.{◌∙◌}
use Rattle.lru_index.proofs.Chained.{chain_warmest}
use Rattle.lru_index.proofs.chain.Chain.warmest.Goals as goal

pub returns : goal.returns
returns g c items h = c.item_of.ensures ∙ chain_warmest c.args.self.now items h
