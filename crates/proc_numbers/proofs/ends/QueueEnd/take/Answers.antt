use Rattle.std.proofs.Common.{ap, ◌≡◌, ◌++◌, drop, length, subst, sym, take}
use Rattle.chunk_queue.specs.Moving.{moved_by, moving_of}
use Rattle.kheap_slabs.specs.Heap.{Heap}
use Rattle.pipe_ends.proofs.LinkLemmas.{links_same}
use Rattle.proc_numbers.specs.QueueEnds.{Behind, IsEndIn, LeavesBut, StandsBehind, TakesOut, read_of, unread}
use Rattle.proc_numbers.proofs.ends.QueueEnd.take.Goals as goal

pub pipe_read-requires-clause-there : goal.pipe_read-requires-clause-there
pipe_read-requires-clause-there c = subst (IsEndIn c.args.heap.now) c.in-Pipe.is c.requires.there

pub returns-in-Pipe-clause-answer : goal.returns-in-Pipe-clause-answer
returns-in-Pipe-clause-answer c =
    subst (λ on. (behind : Behind on) → StandsBehind c.args.heap.now on behind → moving_of c.pipe_read.result ≡ read_of on behind c.args.nonblock (length c.args.out.now)) (sym c.in-Pipe.is)
    (λ behind stands. c.pipe_read.ensures.answer behind.0 behind.1 stands)

pub returns-in-Pipe-clause-out : goal.returns-in-Pipe-clause-out
returns-in-Pipe-clause-out c =
    subst (λ on. (behind : Behind on) → StandsBehind c.args.heap.now on behind → c.pipe_read.new.out ≡ take (moved_by c.pipe_read.result) (unread on behind) ++ drop (moved_by c.pipe_read.result) c.args.out.now) (sym c.in-Pipe.is)
    (λ behind stands. c.pipe_read.ensures.out behind.0 behind.1 stands)

pub returns-in-Pipe-clause-taken : goal.returns-in-Pipe-clause-taken
returns-in-Pipe-clause-taken c =
    subst (λ on. (behind : Behind on) → StandsBehind c.args.heap.now on behind → TakesOut c.args.heap.now c.pipe_read.new.heap on behind (moved_by c.pipe_read.result)) (sym c.in-Pipe.is)
    (λ behind stands. c.pipe_read.ensures.stands behind.0 behind.1 stands)

pub returns-in-Pipe-clause-leaves : goal.returns-in-Pipe-clause-leaves
returns-in-Pipe-clause-leaves c = subst (LeavesBut c.args.heap.now c.pipe_read.new.heap) (sym c.in-Pipe.is) (c.pipe_read.ensures.others, c.pipe_read.ensures.owned)

pub sock_read-requires-clause-there : goal.sock_read-requires-clause-there
sock_read-requires-clause-there c = subst (IsEndIn c.args.heap.now) c.in-Sock.is c.requires.there

pub returns-in-Sock-clause-answer : goal.returns-in-Sock-clause-answer
returns-in-Sock-clause-answer c =
    subst (λ on. (behind : Behind on) → StandsBehind c.args.heap.now on behind → moving_of c.sock_read.result ≡ read_of on behind c.args.nonblock (length c.args.out.now)) (sym c.in-Sock.is)
    (λ behind stands. c.sock_read.ensures.answer behind stands)

pub returns-in-Sock-clause-out : goal.returns-in-Sock-clause-out
returns-in-Sock-clause-out c =
    subst (λ on. (behind : Behind on) → StandsBehind c.args.heap.now on behind → c.sock_read.new.out ≡ take (moved_by c.sock_read.result) (unread on behind) ++ drop (moved_by c.sock_read.result) c.args.out.now) (sym c.in-Sock.is)
    (λ behind stands. c.sock_read.ensures.out behind stands)

pub returns-in-Sock-clause-taken : goal.returns-in-Sock-clause-taken
returns-in-Sock-clause-taken c =
    subst (λ on. (behind : Behind on) → StandsBehind c.args.heap.now on behind → TakesOut c.args.heap.now c.sock_read.new.heap on behind (moved_by c.sock_read.result)) (sym c.in-Sock.is)
    (λ behind stands. (c.sock_read.ensures.stands behind stands, c.sock_read.ensures.place, c.sock_read.ensures.queues))

pub returns-in-Sock-clause-leaves : goal.returns-in-Sock-clause-leaves
returns-in-Sock-clause-leaves c = subst (LeavesBut c.args.heap.now c.sock_read.new.heap) (sym c.in-Sock.is) (record { others = c.sock_read.ensures.others; objects = c.sock_read.ensures.owned; held = c.sock_read.ensures.held })

pub returns-in-Pipe-clause-links : goal.returns-in-Pipe-clause-links
returns-in-Pipe-clause-links c = c.pipe_read.ensures.links

pub returns-in-Sock-clause-links : goal.returns-in-Sock-clause-links
returns-in-Sock-clause-links c = links_same c.args.heap.now c.sock_read.new.heap (ap (λ (h : Heap). h.pipes) c.sock_read.ensures.others.kept)
