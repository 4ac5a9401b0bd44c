use Rattle.std.proofs.Common.{refl}
use Rattle.kheap_laws.proofs.PaidLemmas.{CanPay-kept}
use Rattle.usock_core.proofs.CallLemmas.{nothing_table}
use Rattle.usock_core.proofs.writing.write_to.Goals as goal

pub returns-then-reads_no_more-clause-table : goal.returns-then-reads_no_more-clause-table
returns-then-reads_no_more-clause-table c sockets stands =
    nothing_table c.args.heap.now c.args.peer c.get_sock.result.now c.args.bytes.now 0 sockets c.get_sock.ensures refl stands.table

pub returns-in-Some-clause-pays : goal.returns-in-Some-clause-pays
returns-in-Some-clause-pays c = CanPay-kept c.args.heap.now c.put_in.new.heap c.args.purse.now c.put_in.new.purse c.put_in.ensures.paid c.requires.pays

pub returns-in-None-clause-table : goal.returns-in-None-clause-table
returns-in-None-clause-table c sockets stands =
    nothing_table c.args.heap.now c.args.peer c.get_sock.result.now c.args.bytes.now _ sockets c.get_sock.ensures c.not_now.ensures.nothing stands.table
