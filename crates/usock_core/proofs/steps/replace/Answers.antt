use Rattle.usock_core.proofs.StepLemmas.{becomes_same}
use Rattle.usock_core.proofs.steps.replace.Goals as goal

pub returns-clause-becomes : goal.returns-clause-becomes
returns-clause-becomes c =
    becomes_same c.args.heap.now c.set_sock.new.self c.args.key c.requires.same.before c.args.sock c.requires.owned c.requires.same.there c.requires.same.same c.set_sock.ensures.stored c.set_sock.ensures.kept
