use Rattle.std.proofs.Common.{ap, refl}
use Rattle.lru_index.specs.Chain.{link_at}
use Rattle.lru_index.proofs.Chained.{chain_empty}
use Rattle.lru_index.proofs.chain.Chain.boot.Goals as goal

pub returns-clause-empty : goal.returns-clause-empty
returns-clause-empty g c = chain_empty _ (λ place. ap (λ links. link_at links place) c.in_ok-links.ensures.items) refl refl
