use Rattle.std.proofs.Common.{[], ap, ◌∙◌, arith, refl}
use Rattle.kheap_laws.proofs.PaidLemmas.{TakesNothing-trans}
use Rattle.posix_defs.specs.QueuePlace.{at_front}
use Rattle.chunk_queue.specs.Chained.{place_of}
use Rattle.chunk_queue.proofs.HeldLemmas.{pipe_queue_in}
use Rattle.chunk_queue.proofs.StepLemmas.{taken_all}
use Rattle.pipe_ends.proofs.StandingLemmas.{turned_by}
use Rattle.pipe_ends.proofs.closing.drop_bytes.Goals as goal

pub clear-requires : goal.clear-requires
clear-requires c = rw c.of-queue.ensures (pipe_queue_in c.args.heap.now c.args.key c.args.pipe c.requires.there c.requires.owned)

pub returns-clause-turned : goal.returns-clause-turned
returns-clause-turned c =
    let turns = rw (c.of-queue.ensures, ← c.parts.ensures) at c.clear.ensures.bytes in
    let place = ap place_of c.parts.ensures ∙ c.clear.ensures.place ∙ taken_all (place_of c.of-queue.result) c.of-queue.result.len (omega arith) in
    turned_by c.args.heap.now c.clear.new.heap c.set_pipe.new.self c.args.key c.args.pipe (record c.args.pipe { queue = c.parts.result; readers = 0; writers = c.args.writers }) (λ old. []) at_front c.requires.owned c.requires.there c.clear.ensures.others turns place c.set_pipe.ensures.stored c.set_pipe.ensures.kept refl

pub returns-clause-takes : goal.returns-clause-takes
returns-clause-takes c = TakesNothing-trans c.args.heap.now c.clear.new.heap c.set_pipe.new.self c.clear.ensures.takes c.set_pipe.ensures.takes
