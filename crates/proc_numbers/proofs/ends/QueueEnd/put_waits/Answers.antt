use Rattle.std.proofs.Common.{◌≡◌, subst, sym}
use Rattle.chunk_queue.specs.Moving.{would_wait}
use Rattle.proc_numbers.specs.QueueEnds.{Behind, IsEndIn, StandsBehind, write_of}
use Rattle.proc_numbers.proofs.ends.QueueEnd.put_waits.Goals as goal

pub pipe_write_waits-requires-clause-there : goal.pipe_write_waits-requires-clause-there
pipe_write_waits-requires-clause-there c = subst (IsEndIn c.args.heap.now) c.in-Pipe.is c.requires.there

pub returns-in-Pipe : goal.returns-in-Pipe
returns-in-Pipe c =
    subst (λ on. (behind : Behind on) → StandsBehind c.args.heap.now on behind → c.pipe_write_waits.result ≡ would_wait (write_of on behind c.args.nonblock c.args.n c.args.left)) (sym c.in-Pipe.is)
    (λ behind stands. c.pipe_write_waits.ensures behind.0 behind.1 stands)

pub sock_write_waits-requires : goal.sock_write_waits-requires
sock_write_waits-requires c = subst (IsEndIn c.args.heap.now) c.in-Sock.is c.requires.there

pub returns-in-Sock : goal.returns-in-Sock
returns-in-Sock c =
    subst (λ on. (behind : Behind on) → StandsBehind c.args.heap.now on behind → c.sock_write_waits.result ≡ would_wait (write_of on behind c.args.nonblock c.args.n c.args.left)) (sym c.in-Sock.is)
    (λ behind stands. c.sock_write_waits.ensures behind stands)
