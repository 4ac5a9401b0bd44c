use Rattle.kheap_laws.proofs.PaidLemmas.{IsPaid-trans, CanPay-kept}
use Rattle.vnode_cache.proofs.HeldLemmas.{held_then}
use Rattle.vnode_cache.proofs.cache.VnodeCache.fill.Goals as goal

pub returns-clause-paid : goal.returns-clause-paid
returns-clause-paid c = IsPaid-trans c.args.heap.now c.args.purse.now c.make_room.new.heap c.make_room.new.purse c.add.new.heap c.add.new.purse c.make_room.ensures.paid c.add.ensures.paid

pub returns-clause-held : goal.returns-clause-held
returns-clause-held c other = held_then other c.args.heap.now.vnodes c.make_room.new.heap.vnodes c.add.new.heap.vnodes (c.make_room.ensures.held other) (c.add.ensures.held other)

pub add-requires-clause-pays : goal.add-requires-clause-pays
add-requires-clause-pays c = CanPay-kept c.args.heap.now c.make_room.new.heap c.args.purse.now c.make_room.new.purse c.make_room.ensures.paid c.requires.pays
