use Rattle.std.proofs.Common.{◌++◌, length, refl, ap, ◌∙◌, arith, length-append}
use Rattle.kheap_laws.proofs.PaidLemmas.{IsPaid-trans, IsPaid-nothing}
use Rattle.posix_defs.specs.QueuePlace.{after_put}
use Rattle.chunk_queue.specs.Chained.{place_of}
use Rattle.chunk_queue.proofs.HeldLemmas.{sock_queue_in}
use Rattle.usock_core.proofs.StepLemmas.{turns_by}
use Rattle.usock_core.proofs.steps.put_in.Goals as goal

pub put-requires-clause-owned : goal.put-requires-clause-owned
put-requires-clause-owned c = rw c.of-queue.ensures (sock_queue_in c.args.heap.now c.args.key c.args.sock c.requires.there c.requires.owned)

pub returns-clause-turns : goal.returns-clause-turns
returns-clause-turns c =
    let turns = rw (c.of-queue.ensures, ← c.parts.ensures) at c.put.ensures.bytes in
    let place = ap place_of c.parts.ensures ∙ rw c.of-queue.ensures at c.put.ensures.place in
    turns_by c.args.heap.now c.put.new.heap c.set_sock.new.self c.args.key c.args.sock c.args.sock c.parts.result (λ had. had ++ c.args.bytes.now) (after_put (place_of c.args.sock.queue) (length c.args.bytes.now)) c.requires.owned c.requires.there c.put.ensures.others turns place
    (λ bytes len. rw length-append (omega (arith, len)))
    c.set_sock.ensures.stored c.set_sock.ensures.kept

pub returns-clause-paid : goal.returns-clause-paid
returns-clause-paid c =
    IsPaid-trans c.args.heap.now c.args.purse.now c.put.new.heap c.put.new.purse c.set_sock.new.self c.put.new.purse c.put.ensures.paid (IsPaid-nothing c.put.new.heap c.set_sock.new.self c.put.new.purse c.put.new.purse c.set_sock.ensures.takes refl refl)
