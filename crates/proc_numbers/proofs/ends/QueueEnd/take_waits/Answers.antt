use Rattle.std.proofs.Common.{◌≡◌, ℕ, subst, sym}
use Rattle.chunk_queue.specs.Moving.{would_wait}
use Rattle.proc_numbers.specs.QueueEnds.{Behind, IsEndIn, StandsBehind, read_of}
use Rattle.proc_numbers.proofs.ends.QueueEnd.take_waits.Goals as goal

pub pipe_read_waits-requires : goal.pipe_read_waits-requires
pipe_read_waits-requires c = subst (IsEndIn c.args.heap.now) c.in-Pipe.is c.requires

pub returns-in-Pipe : goal.returns-in-Pipe
returns-in-Pipe c =
    subst (λ on. (behind : Behind on) (n : ℕ) → StandsBehind c.args.heap.now on behind → c.pipe_read_waits.result ≡ would_wait (read_of on behind c.args.nonblock n)) (sym c.in-Pipe.is)
    (λ behind n stands. c.pipe_read_waits.ensures behind.0 behind.1 n stands)

pub sock_read_waits-requires : goal.sock_read_waits-requires
sock_read_waits-requires c = subst (IsEndIn c.args.heap.now) c.in-Sock.is c.requires

pub returns-in-Sock : goal.returns-in-Sock
returns-in-Sock c =
    subst (λ on. (behind : Behind on) (n : ℕ) → StandsBehind c.args.heap.now on behind → c.sock_read_waits.result ≡ would_wait (read_of on behind c.args.nonblock n)) (sym c.in-Sock.is)
    (λ behind n stands. c.sock_read_waits.ensures behind n stands)
