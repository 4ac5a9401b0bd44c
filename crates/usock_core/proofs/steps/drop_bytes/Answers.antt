use Rattle.std.proofs.Common.{[], refl, ap, ◌∙◌}
use Rattle.kheap_laws.proofs.PaidLemmas.{TakesNothing-trans}
use Rattle.posix_defs.specs.QueuePlace.{at_front}
use Rattle.chunk_queue.specs.Chained.{place_of}
use Rattle.chunk_queue.proofs.HeldLemmas.{sock_queue_in}
use Rattle.usock_core.proofs.StepLemmas.{turns_by, all_taken}
use Rattle.usock_core.proofs.steps.drop_bytes.Goals as goal

pub clear-requires : goal.clear-requires
clear-requires c =
    rw (c.of-queue.ensures, c.requires.same.same) (sock_queue_in c.args.heap.now c.args.key c.requires.same.before c.requires.same.there c.requires.owned)

pub returns-clause-turns : goal.returns-clause-turns
returns-clause-turns c =
    let turns = rw (c.of-queue.ensures, c.requires.same.same, ← c.parts.ensures) at c.clear.ensures.bytes in
    let place = ap place_of c.parts.ensures ∙ c.clear.ensures.place ∙ all_taken c.of-queue.result in
    turns_by c.args.heap.now c.clear.new.heap c.set_sock.new.self c.args.key c.requires.same.before c.args.sock c.parts.result (λ had. []) at_front c.requires.owned c.requires.same.there c.clear.ensures.others turns place (λ bytes len. refl) c.set_sock.ensures.stored c.set_sock.ensures.kept

pub returns-clause-takes : goal.returns-clause-takes
returns-clause-takes c = TakesNothing-trans c.args.heap.now c.clear.new.heap c.set_sock.new.self c.clear.ensures.takes c.set_sock.ensures.takes
