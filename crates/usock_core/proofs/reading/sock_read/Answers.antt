use Rattle.std.proofs.Common.{sym}
use Rattle.usock_core.proofs.CallLemmas.{read_stands, read_nothing_stands, read_out, read_refused, taken_nothing}
use Rattle.usock_core.proofs.HeldLemmas.{held_read}
use Rattle.usock_core.proofs.reading.sock_read.Goals as goal

pub returns-in_default-clause-answer : goal.returns-in_default-clause-answer
returns-in_default-clause-answer c sockets stands =
    sym (read_refused c.args.heap.now c.args.key c.get_sock-sock.result.now c.args.nonblock _ sockets c.get_sock-sock.ensures c.in_default.not-Connected stands)

pub returns-in_default-clause-stands : goal.returns-in_default-clause-stands
returns-in_default-clause-stands c sockets stands = read_nothing_stands c.args.heap.now c.args.key c.get_sock-sock.result.now sockets c.get_sock-sock.ensures stands

pub returns-in_default-clause-place : goal.returns-in_default-clause-place
returns-in_default-clause-place c = taken_nothing c.args.heap.now c.args.key c.get_sock-sock.result.now c.requires.owned c.get_sock-sock.ensures

pub returns-then-shut_read-clause-stands : goal.returns-then-shut_read-clause-stands
returns-then-shut_read-clause-stands c sockets stands = read_nothing_stands c.args.heap.now c.args.key c.get_sock-sock.result.now sockets c.get_sock-sock.ensures stands

pub returns-then-sock-gt0-clause-out : goal.returns-then-sock-gt0-clause-out
returns-then-sock-gt0-clause-out c sockets stands =
    read_out c.args.heap.now c.args.key c.get_sock-sock.result.now c.take_out.result c.args.out.now c.take_out.new.out sockets c.requires.owned c.get_sock-sock.ensures c.take_out.ensures.out stands

pub returns-then-sock-gt0-clause-stands : goal.returns-then-sock-gt0-clause-stands
returns-then-sock-gt0-clause-stands c sockets stands =
    read_stands c.args.heap.now c.take_out.new.heap c.args.key c.get_sock-sock.result.now c.take_out.result _ sockets c.get_sock-sock.ensures c.take_out.ensures.turns stands

pub returns-then-writes_no_more-clause-stands : goal.returns-then-writes_no_more-clause-stands
returns-then-writes_no_more-clause-stands c sockets stands = read_nothing_stands c.args.heap.now c.args.key c.get_sock-sock.result.now sockets c.get_sock-sock.ensures stands

pub returns-else-writes_no_more-clause-stands : goal.returns-else-writes_no_more-clause-stands
returns-else-writes_no_more-clause-stands c sockets stands =
    rw c.not_now.ensures.nothing (read_nothing_stands c.args.heap.now c.args.key c.get_sock-sock.result.now sockets c.get_sock-sock.ensures stands)

pub returns-then-sock-gt0-clause-held : goal.returns-then-sock-gt0-clause-held
returns-then-sock-gt0-clause-held c = held_read c.args.heap.now c.take_out.new.heap c.args.key c.take_out.result c.requires.there (returns-then-sock-gt0-clause-stands c)
