use Rattle.posix_defs.proofs.PriceLemmas.{write_falls, write_rests}
use Rattle.kern_laws.proofs.prices.a_write_costs_less_as_it_goes_on.Goals as goal

pub returns-clause-falls : goal.returns-clause-falls
returns-clause-falls c = write_falls

pub returns-clause-rest : goal.returns-clause-rest
returns-clause-rest c = write_rests
