use Rattle.usock_core.proofs.StepLemmas.{comes_by}
use Rattle.usock_core.proofs.steps.add.Goals as goal

pub returns-clause-comes : goal.returns-clause-comes
returns-clause-comes c =
    comes_by c.args.heap.now c.insert_sock.new.self c.insert_sock.result c.args.sock c.requires.owned c.insert_sock.ensures.vacant c.insert_sock.ensures.stored c.requires.empty c.insert_sock.ensures.kept
