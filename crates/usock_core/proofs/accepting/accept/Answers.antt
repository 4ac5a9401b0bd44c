use Rattle.usock_core.proofs.CallLemmas.{accept_stands}
use Rattle.usock_core.proofs.HeldLemmas.{held_taken}
use Rattle.usock_core.proofs.accepting.accept.Goals as goal

pub returns-in-Some-clause-stands : goal.returns-in-Some-clause-stands
returns-in-Some-clause-stands c sockets stands =
    accept_stands c.args.heap.now c.replace.new.heap c.args.key c.get_sock.result.now c.behind_first.result sockets c.get_sock.ensures c.in-Listening.is c.behind_first.ensures c.replace.ensures.becomes stands

pub returns-in-Some-clause-held : goal.returns-in-Some-clause-held
returns-in-Some-clause-held c =
    held_taken c.args.heap.now c.replace.new.heap c.args.key c.in-Some.first c.get_sock.result.now c.get_sock.ensures c.in-Listening.is c.in-Some.is (returns-in-Some-clause-stands c)
