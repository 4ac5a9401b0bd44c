use Rattle.std.proofs.Common.{refl, arith}
use Rattle.chunk_queue.specs.Chained.{place_of}
use Rattle.pipe_ends.proofs.StandingLemmas.{held_readers, held_writers, turned_by, Turns-same}
use Rattle.pipe_ends.proofs.closing.close_end.Goals as goal

pub overflow_sub-readers : goal.overflow_sub-readers
overflow_sub-readers c =
    let there = c.requires.end in
    let some = rw c.if-writing.false at there.3 in
    let same = held_readers c.args.heap.now c.args.key c.get_pipe-pipe.result.now there.0 there.1 c.get_pipe-pipe.ensures there.2 in
    omega (arith, some, same)

pub overflow_sub-writers : goal.overflow_sub-writers
overflow_sub-writers c =
    let there = c.requires.end in
    let some = rw c.if-writing-2.true at there.3 in
    let same = held_writers c.args.heap.now c.args.key c.get_pipe-pipe.result.now there.0 there.1 c.get_pipe-pipe.ensures there.2 in
    omega (arith, some, same)

pub returns-else-readers-eq0-2-clause-owned : goal.returns-else-readers-eq0-2-clause-owned
returns-else-readers-eq0-2-clause-owned c =
    let held = c.get_pipe-pipe.result.now in
    let turned = turned_by c.args.heap.now c.args.heap.now c.set_pipe.new.self c.args.key held (record held { readers = c.if-writing.readers; writers = c.if-writing-2.writers }) (λ bytes. bytes) (place_of held.queue) c.requires.owned c.get_pipe-pipe.ensures refl (Turns-same c.args.heap.now held.queue) refl c.set_pipe.ensures.stored c.set_pipe.ensures.kept refl in
    turned.turns.owns
