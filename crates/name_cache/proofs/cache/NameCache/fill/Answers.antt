use Rattle.kheap_laws.proofs.PaidLemmas.{IsPaid-trans, CanPay-kept}
use Rattle.name_cache.proofs.cache.NameCache.fill.Goals as goal

pub returns-clause-paid : goal.returns-clause-paid
returns-clause-paid c = IsPaid-trans c.args.heap.now c.args.purse.now c.make_room.new.heap c.make_room.new.purse c.add.new.heap c.add.new.purse c.make_room.ensures.paid c.add.ensures.paid

pub add-requires-clause-pays : goal.add-requires-clause-pays
add-requires-clause-pays c = CanPay-kept c.args.heap.now c.make_room.new.heap c.args.purse.now c.make_room.new.purse c.make_room.ensures.paid c.requires.pays
