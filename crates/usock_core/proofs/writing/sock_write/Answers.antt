use Rattle.std.proofs.Common.{◌≡◌, false}
use Rattle.usock_core.proofs.CallLemmas.{written_stands, unwritten_stands}
use Rattle.usock_core.proofs.HeldLemmas.{held_written}
use Rattle.usock_core.proofs.writing.sock_write.Goals as goal

pub returns-in-Some-clause-stands : goal.returns-in-Some-clause-stands
returns-in-Some-clause-stands c sockets stands =
    written_stands c.args.heap.now c.write_to.new.heap c.args.key c.in-Some.peer c.get_sock-sock.result.now c.in-Connected.shut_read c.args.nonblock c.args.bytes.now c.write_to.result sockets c.get_sock-sock.ensures
    (let open_side : c.in-Connected.shut_write ≡ false = c.if-not-shut_write.true in rw open_side at c.in-Connected.is) c.in-Some.is stands (c.write_to.ensures.answer sockets stands) (c.write_to.ensures.table sockets stands)

pub returns-in_default-peer-clause-stands : goal.returns-in_default-peer-clause-stands
returns-in_default-peer-clause-stands c sockets stands = unwritten_stands c.args.heap.now c.args.key c.args.bytes.now sockets stands

pub returns-in-Some-clause-held : goal.returns-in-Some-clause-held
returns-in-Some-clause-held c = held_written c.args.heap.now c.write_to.new.heap c.args.key c.args.bytes.now _ (returns-in-Some-clause-stands c)
