use Rattle.std.proofs.Common.{drop}
use Rattle.posix_defs.specs.QueuePlace.{after_take}
use Rattle.chunk_queue.specs.Chained.{place_of}
use Rattle.pipe_ends.proofs.LinkLemmas.{links_turned}
use Rattle.pipe_ends.proofs.StandingLemmas.{stands_read, read_out}
use Rattle.pipe_ends.proofs.reading.pipe_read.Goals as goal

pub returns-then-pipe-gt0-clause-out : goal.returns-then-pipe-gt0-clause-out
returns-then-pipe-gt0-clause-out c pipe at stands =
    read_out c.args.heap.now c.args.key c.get_pipe-pipe.result.now pipe at c.take_out.result c.args.out.now c.take_out.new.out c.requires.owned c.get_pipe-pipe.ensures stands c.take_out.ensures.out

pub returns-then-pipe-gt0-clause-stands : goal.returns-then-pipe-gt0-clause-stands
returns-then-pipe-gt0-clause-stands c pipe at stands =
    stands_read c.args.heap.now c.take_out.new.heap c.args.key c.get_pipe-pipe.result.now pipe at c.take_out.result c.get_pipe-pipe.ensures stands c.take_out.ensures.turned

pub returns-then-pipe-gt0-clause-there : goal.returns-then-pipe-gt0-clause-there
returns-then-pipe-gt0-clause-there c =
    let was = c.requires.there in
    (_, _, stands_read c.args.heap.now c.take_out.new.heap c.args.key c.get_pipe-pipe.result.now was.0 was.1 c.take_out.result c.get_pipe-pipe.ensures was.2 c.take_out.ensures.turned)

pub returns-then-pipe-gt0-clause-links : goal.returns-then-pipe-gt0-clause-links
returns-then-pipe-gt0-clause-links c =
    links_turned c.args.heap.now c.take_out.new.heap c.args.key c.get_pipe-pipe.result.now (drop c.take_out.result) (after_take (place_of c.get_pipe-pipe.result.now.queue) c.take_out.result) c.get_pipe-pipe.ensures c.take_out.ensures.turned
