use Rattle.kheap_laws.proofs.PaidLemmas.{CanPay-kept}
use Rattle.part_trials.proofs.caches.names.fill.Goals as goal

pub returns-clause-pays : goal.returns-clause-pays
returns-clause-pays g c = CanPay-kept c.args.heap.now c.fill.new.heap c.args.purse.now c.fill.new.purse c.fill.ensures.paid c.requires.pays
