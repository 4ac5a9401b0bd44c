use Rattle.kheap_laws.proofs.PaidLemmas.{CanPay-kept}
use Rattle.part_trials.proofs.caches.names.let_go.Goals as goal

pub returns-clause-pays : goal.returns-clause-pays
returns-clause-pays g c = CanPay-kept c.args.heap.now c.let_go.new.heap c.args.paid.now c.let_go.new.purse c.let_go.ensures.paid c.requires.pays
