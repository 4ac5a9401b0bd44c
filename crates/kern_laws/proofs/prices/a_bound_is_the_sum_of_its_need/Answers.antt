use Rattle.posix_defs.proofs.PriceLemmas.{sums, write_is_greater, pwrite_is_greater}
use Rattle.kern_laws.proofs.prices.a_bound_is_the_sum_of_its_need.Goals as goal

pub returns-clause-sum : goal.returns-clause-sum
returns-clause-sum c = sums

pub returns-clause-write : goal.returns-clause-write
returns-clause-write c = write_is_greater

pub returns-clause-pwrite : goal.returns-clause-pwrite
returns-clause-pwrite c = pwrite_is_greater
