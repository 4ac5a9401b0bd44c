use Rattle.std.proofs.Common.{◌≡◌, ℕ, ◌≤◌, ◌++◌, length, take, arith}
use Rattle.std.proofs.lemmas.List.{length-take-le}
use Rattle.kheap_laws.proofs.PaidLemmas.{CanPay-kept}
use Rattle.posix_defs.specs.Pipe.{Pipe, after_write}
use Rattle.posix_defs.specs.QueuePlace.{after_put}
use Rattle.chunk_queue.specs.Chained.{place_of}
use Rattle.pipe_ends.specs.Standing.{StandsFor}
use Rattle.pipe_ends.proofs.LinkLemmas.{links_turned}
use Rattle.pipe_ends.proofs.StandingLemmas.{held_len, stands_written, others_turned}
use Rattle.pipe_ends.proofs.writing.pipe_write.Goals as goal

-- the pipe has the bytes behind its own
stands : (c : goal.After-put_in) (pipe : Pipe) (at : ℕ) → StandsFor c.args.heap.now c.args.key pipe at → StandsFor c.put_in.new.heap c.args.key (after_write pipe c.args.bytes.now c.in-Some.count) at
stands c pipe at was =
    let held = c.get_pipe.result.now in
    let bytes = c.args.bytes.now in
    let len = held_len c.args.heap.now c.args.key held pipe at c.get_pipe.ensures was in
    let fits = c.in-Some.ensures.within in
    let all : c.in-Some.count ≤ length bytes = fits.0 in
    let some : length (take c.in-Some.count bytes) ≡ c.in-Some.count = length-take-le c.in-Some.count bytes all in
    stands_written c.args.heap.now c.put_in.new.heap c.args.key held pipe at (take c.in-Some.count bytes) c.get_pipe.ensures was c.put_in.ensures.turned (omega (arith, was.within, fits.1, len, some))

pub returns-in-Some-clause-stands : goal.returns-in-Some-clause-stands
returns-in-Some-clause-stands c = stands c

pub returns-in-Some-clause-there : goal.returns-in-Some-clause-there
returns-in-Some-clause-there c = let was = c.requires.there in (_, _, stands c was.0 was.1 was.2)

pub returns-in-Some-clause-pays : goal.returns-in-Some-clause-pays
returns-in-Some-clause-pays c = CanPay-kept c.args.heap.now c.put_in.new.heap c.args.purse.now c.put_in.new.purse c.put_in.ensures.paid c.requires.pays

pub returns-in-Some-clause-others : goal.returns-in-Some-clause-others
returns-in-Some-clause-others c =
    others_turned c.args.heap.now c.put_in.new.heap c.args.key c.get_pipe.result.now (λ old. old ++ take c.in-Some.count c.args.bytes.now) (after_put (place_of c.get_pipe.result.now.queue) (length (take c.in-Some.count c.args.bytes.now))) c.get_pipe.result.now.readers c.get_pipe.result.now.writers c.get_pipe.ensures c.put_in.ensures.turned

pub returns-in-Some-clause-links : goal.returns-in-Some-clause-links
returns-in-Some-clause-links c =
    links_turned c.args.heap.now c.put_in.new.heap c.args.key c.get_pipe.result.now (λ old. old ++ take c.in-Some.count c.args.bytes.now) (after_put (place_of c.get_pipe.result.now.queue) (length (take c.in-Some.count c.args.bytes.now))) c.get_pipe.ensures c.put_in.ensures.turned
