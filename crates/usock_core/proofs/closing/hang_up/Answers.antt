use Rattle.usock_core.proofs.StandingLemmas.{LeavesOthers-trans}
use Rattle.usock_core.proofs.CloseLemmas.{gone_stands, gone_stands_alone, none_but}
use Rattle.usock_core.proofs.closing.hang_up.Goals as goal

pub returns-in-Some-clause-stands : goal.returns-in-Some-clause-stands
returns-in-Some-clause-stands c sockets stands nowhere =
    gone_stands c.args.heap.now c.remove.new.heap c.replace.new.heap c.args.key c.in-Some.peer c.get_sock-sock.result.now c.get_sock-left.result.now sockets c.get_sock-sock.ensures c.in-Some.is c.remove.ensures.goes c.get_sock-left.ensures c.replace.ensures.becomes stands nowhere

pub returns-in-Some-clause-others : goal.returns-in-Some-clause-others
returns-in-Some-clause-others c = LeavesOthers-trans c.args.heap.now c.remove.new.heap c.replace.new.heap c.remove.ensures.goes.others c.replace.ensures.becomes.others

pub returns-in_default-clause-stands : goal.returns-in_default-clause-stands
returns-in_default-clause-stands c sockets stands nowhere =
    gone_stands_alone c.args.heap.now c.remove.new.heap c.args.key c.get_sock-sock.result.now sockets c.get_sock-sock.ensures (none_but c.get_sock-sock.result.now.peer c.in_default.not-Some) c.remove.ensures.goes stands nowhere
