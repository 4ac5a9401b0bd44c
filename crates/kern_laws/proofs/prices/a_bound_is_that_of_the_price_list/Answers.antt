use Rattle.posix_defs.proofs.PriceLemmas.{right_costs, plain_costs}
use Rattle.kern_laws.proofs.prices.a_bound_is_that_of_the_price_list.Goals as goal

pub returns-clause-listed : goal.returns-clause-listed
returns-clause-listed c = right_costs

pub returns-clause-plain : goal.returns-clause-plain
returns-clause-plain c = plain_costs
