use Rattle.posix_defs.proofs.PriceLemmas.{most}
use Rattle.kern_laws.proofs.prices.no_bound_is_above_39040.Goals as goal

pub returns : goal.returns
returns c = most
