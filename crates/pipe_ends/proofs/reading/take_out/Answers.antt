use Rattle.std.proofs.Common.{drop, ap, ◌∙◌, refl}
use Rattle.kheap_laws.proofs.PaidLemmas.{TakesNothing-trans}
use Rattle.posix_defs.specs.QueuePlace.{after_take}
use Rattle.chunk_queue.specs.Chained.{place_of}
use Rattle.chunk_queue.proofs.HeldLemmas.{pipe_queue_in}
use Rattle.pipe_ends.proofs.StandingLemmas.{turned_by}
use Rattle.pipe_ends.proofs.reading.take_out.Goals as goal

pub take-count-requires : goal.take-count-requires
take-count-requires c = rw c.of-queue.ensures (pipe_queue_in c.args.heap.now c.args.key c.args.pipe c.requires.there c.requires.owned)

pub returns-clause-out : goal.returns-clause-out
returns-clause-out c = rw c.of-queue.ensures at c.take-count.ensures.out

pub returns-clause-turned : goal.returns-clause-turned
returns-clause-turned c =
    let turns = rw (c.of-queue.ensures, ← c.parts.ensures) at c.take-count.ensures.bytes in
    let place = ap place_of c.parts.ensures ∙ rw c.of-queue.ensures at c.take-count.ensures.place in
    turned_by c.args.heap.now c.take-count.new.heap c.set_pipe.new.self c.args.key c.args.pipe (record c.args.pipe { queue = c.parts.result }) (drop c.take-count.result) (after_take (place_of c.args.pipe.queue) c.take-count.result) c.requires.owned c.requires.there c.take-count.ensures.others turns place c.set_pipe.ensures.stored c.set_pipe.ensures.kept refl

pub returns-clause-takes : goal.returns-clause-takes
returns-clause-takes c = TakesNothing-trans c.args.heap.now c.take-count.new.heap c.set_pipe.new.self c.take-count.ensures.takes c.set_pipe.ensures.takes
