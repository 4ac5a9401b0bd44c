use Rattle.std.proofs.Common.{◌++◌, length, ap, ◌∙◌, refl}
use Rattle.kheap_laws.proofs.PaidLemmas.{IsPaid-trans, IsPaid-nothing}
use Rattle.posix_defs.specs.QueuePlace.{after_put}
use Rattle.chunk_queue.specs.Chained.{place_of}
use Rattle.chunk_queue.proofs.HeldLemmas.{pipe_queue_in}
use Rattle.pipe_ends.proofs.StandingLemmas.{turned_by}
use Rattle.pipe_ends.proofs.writing.put_in.Goals as goal

pub put-requires-clause-owned : goal.put-requires-clause-owned
put-requires-clause-owned c = rw c.of-queue.ensures (pipe_queue_in c.args.heap.now c.args.key c.args.pipe c.requires.there c.requires.owned)

pub returns-clause-turned : goal.returns-clause-turned
returns-clause-turned c =
    let turns = rw (c.of-queue.ensures, ← c.parts.ensures) at c.put.ensures.bytes in
    let place = ap place_of c.parts.ensures ∙ rw c.of-queue.ensures at c.put.ensures.place in
    turned_by c.args.heap.now c.put.new.heap c.set_pipe.new.self c.args.key c.args.pipe (record c.args.pipe { queue = c.parts.result }) (λ old. old ++ c.args.bytes.now) (after_put (place_of c.args.pipe.queue) (length c.args.bytes.now)) c.requires.owned c.requires.there c.put.ensures.others turns place c.set_pipe.ensures.stored c.set_pipe.ensures.kept refl

pub returns-clause-paid : goal.returns-clause-paid
returns-clause-paid c =
    IsPaid-trans c.args.heap.now c.args.purse.now c.put.new.heap c.put.new.purse c.set_pipe.new.self c.put.new.purse c.put.ensures.paid (IsPaid-nothing c.put.new.heap c.set_pipe.new.self c.put.new.purse c.put.new.purse c.set_pipe.ensures.takes refl refl)
