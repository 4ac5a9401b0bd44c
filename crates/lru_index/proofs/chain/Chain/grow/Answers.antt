use Rattle.std.proofs.Common.{ap, ◌∙◌, refl}
use Rattle.lru_index.specs.Chain.{link_at}
use Rattle.lru_index.proofs.Table.{none_more}
use Rattle.lru_index.proofs.Chained.{chain_same}
use Rattle.lru_index.proofs.chain.Chain.grow.Goals as goal

pub returns-clause-kept : goal.returns-clause-kept
returns-clause-kept g c items h = chain_same c.args.self.now _ items (λ place. ap (λ links. link_at links place) c.push_reserved.ensures.items ∙ none_more c.args.self.now.links.items place) refl refl h
