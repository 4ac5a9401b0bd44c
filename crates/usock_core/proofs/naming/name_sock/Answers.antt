use Rattle.usock_core.proofs.CallLemmas.{named_stands}
use Rattle.usock_core.proofs.HeldLemmas.{held_named}
use Rattle.usock_core.proofs.naming.name_sock.Goals as goal

pub returns-clause-stands : goal.returns-clause-stands
returns-clause-stands c sockets stands =
    named_stands c.args.heap.now c.replace.new.heap c.args.key c.get_sock-sock.result.now c.args.node sockets c.get_sock-sock.ensures c.replace.ensures.becomes stands

pub returns-clause-held : goal.returns-clause-held
returns-clause-held c = held_named c.args.heap.now c.replace.new.heap c.args.key c.args.node c.requires.there (returns-clause-stands c)
