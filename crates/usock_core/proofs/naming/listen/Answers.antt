use Rattle.std.proofs.Common.{refl}
use Rattle.usock_core.proofs.CallLemmas.{listen_stands, listen_answers}
use Rattle.usock_core.proofs.HeldLemmas.{held_listening}
use Rattle.usock_core.proofs.naming.listen.Goals as goal

pub returns-clause-answer : goal.returns-clause-answer
returns-clause-answer c sockets stands =
    rw (listen_answers c.args.heap.now c.args.key c.get_sock.result.now sockets c.get_sock.ensures c.in_default.not-Connected c.if-is_none.ensures stands) refl

pub returns-clause-stands : goal.returns-clause-stands
returns-clause-stands c sockets stands =
    listen_stands c.args.heap.now c.replace.new.heap c.args.key c.get_sock.result.now sockets c.get_sock.ensures c.in_default.not-Connected c.replace.ensures.becomes stands

pub returns-clause-held : goal.returns-clause-held
returns-clause-held c = held_listening c.args.heap.now c.replace.new.heap c.args.key c.requires.there (returns-clause-stands c)
