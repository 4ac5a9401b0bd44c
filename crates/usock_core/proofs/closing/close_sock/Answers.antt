use Rattle.usock_core.proofs.CloseLemmas.{close_stands, waiting_loose_in}
use Rattle.usock_core.proofs.HeldLemmas.{held_closed}
use Rattle.usock_core.proofs.OneTable.{nowhere_in}
use Rattle.usock_core.proofs.closing.close_sock.Goals as goal

pub hang_up_all-requires-clause-there : goal.hang_up_all-requires-clause-there
hang_up_all-requires-clause-there c =
    waiting_loose_in c.args.heap.now c.hang_up.new.heap c.args.key c.get_sock.result.now c.get_sock.ensures c.requires.there c.hang_up.ensures.stands

pub returns-clause-stands : goal.returns-clause-stands
returns-clause-stands c sockets stands =
    let nowhere = nowhere_in c.args.heap.now c.args.key sockets c.requires.there stands in
    close_stands c.args.heap.now c.hang_up.new.heap c.hang_up_all.new.heap c.args.key c.get_sock.result.now sockets c.get_sock.ensures stands nowhere (c.hang_up.ensures.stands sockets stands nowhere) c.hang_up_all.ensures.stands

pub returns-clause-held : goal.returns-clause-held
returns-clause-held c = held_closed c.args.heap.now c.hang_up_all.new.heap c.args.key (returns-clause-stands c)
