use Rattle.posix_defs.proofs.PriceLemmas.{wrong_needs, wrong_costs}
use Rattle.kern_laws.proofs.prices.a_wrong_operand_costs_nothing.Goals as goal

pub returns-clause-need : goal.returns-clause-need
returns-clause-need c = wrong_needs

pub returns-clause-bound : goal.returns-clause-bound
returns-clause-bound c = wrong_costs
