use Rattle.kheap_laws.proofs.PaidLemmas.{IsPaid-trans}
use Rattle.block_cache.proofs.cache.BlockCache.fill.Goals as goal

pub returns-clause-paid : goal.returns-clause-paid
returns-clause-paid c = IsPaid-trans c.args.heap.now c.args.purse.now c.make_room.new.heap c.make_room.new.purse c.add.new.heap c.add.new.purse c.make_room.ensures.paid c.add.ensures.paid
