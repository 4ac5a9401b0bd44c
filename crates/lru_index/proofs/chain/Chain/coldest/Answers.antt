use Rattle.std.proofs.Common.{◌∙◌}
use Rattle.lru_index.proofs.Chained.{chain_coldest}
use Rattle.lru_index.proofs.chain.Chain.coldest.Goals as goal

pub returns : goal.returns
returns g c items h = c.item_of.ensures ∙ chain_coldest c.args.self.now items h
