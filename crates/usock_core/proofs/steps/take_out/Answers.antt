use Rattle.std.proofs.Common.{drop, ap, ◌∙◌, arith, length-drop}
use Rattle.kheap_laws.proofs.PaidLemmas.{TakesNothing-trans}
use Rattle.posix_defs.specs.QueuePlace.{after_take}
use Rattle.chunk_queue.specs.Chained.{place_of}
use Rattle.chunk_queue.proofs.HeldLemmas.{sock_queue_in}
use Rattle.chunk_queue.proofs.StepLemmas.{len_taken}
use Rattle.usock_core.proofs.StepLemmas.{turns_by}
use Rattle.usock_core.proofs.steps.take_out.Goals as goal

pub take-count-requires : goal.take-count-requires
take-count-requires c = rw c.of-queue.ensures (sock_queue_in c.args.heap.now c.args.key c.args.sock c.requires.there c.requires.owned)

pub returns-clause-out : goal.returns-clause-out
returns-clause-out c = rw c.of-queue.ensures at c.take-count.ensures.out

pub returns-clause-turns : goal.returns-clause-turns
returns-clause-turns c =
    let turns = rw (c.of-queue.ensures, ← c.parts.ensures) at c.take-count.ensures.bytes in
    let place = ap place_of c.parts.ensures ∙ rw c.of-queue.ensures at c.take-count.ensures.place in
    turns_by c.args.heap.now c.take-count.new.heap c.set_sock.new.self c.args.key c.args.sock c.args.sock c.parts.result (drop c.take-count.result) (after_take (place_of c.args.sock.queue) c.take-count.result) c.requires.owned c.requires.there c.take-count.ensures.others turns place
    (λ bytes len. len_taken (place_of c.args.sock.queue) c.take-count.result ∙ rw length-drop (omega (arith, len)))
    c.set_sock.ensures.stored c.set_sock.ensures.kept

pub returns-clause-takes : goal.returns-clause-takes
returns-clause-takes c = TakesNothing-trans c.args.heap.now c.take-count.new.heap c.set_sock.new.self c.take-count.ensures.takes c.set_sock.ensures.takes
