use Rattle.std.proofs.Common.{ap, ◌≡◌, length, subst, sym}
use Rattle.chunk_queue.specs.Moving.{moved_by, moving_of}
use Rattle.kheap_slabs.specs.Heap.{Heap}
use Rattle.pipe_ends.proofs.LinkLemmas.{links_same}
use Rattle.proc_numbers.proofs.SocketWrites.{sent_queues}
use Rattle.proc_numbers.specs.QueueEnds.{Behind, IsEndIn, LeavesBut, PutsIn, StandsBehind, write_of}
use Rattle.proc_numbers.proofs.ends.QueueEnd.put.Goals as goal

pub pipe_write-requires-clause-there : goal.pipe_write-requires-clause-there
pipe_write-requires-clause-there c = subst (IsEndIn c.args.heap.now) c.in-Pipe.is c.requires.there

pub returns-in-Pipe-clause-answer : goal.returns-in-Pipe-clause-answer
returns-in-Pipe-clause-answer c =
    subst (λ on. (behind : Behind on) → StandsBehind c.args.heap.now on behind → moving_of c.pipe_write.result ≡ write_of on behind c.args.nonblock c.args.n (length c.args.bytes.now)) (sym c.in-Pipe.is)
    (λ behind stands. c.pipe_write.ensures.answer behind.0 behind.1 stands)

pub returns-in-Pipe-clause-puts : goal.returns-in-Pipe-clause-puts
returns-in-Pipe-clause-puts c =
    subst (λ on. (behind : Behind on) → StandsBehind c.args.heap.now on behind → PutsIn c.args.heap.now c.pipe_write.new.heap on behind c.args.bytes.now (moved_by c.pipe_write.result)) (sym c.in-Pipe.is)
    (λ behind stands. c.pipe_write.ensures.stands behind.0 behind.1 stands)

pub returns-in-Pipe-clause-leaves : goal.returns-in-Pipe-clause-leaves
returns-in-Pipe-clause-leaves c = subst (LeavesBut c.args.heap.now c.pipe_write.new.heap) (sym c.in-Pipe.is) (c.pipe_write.ensures.others, c.pipe_write.ensures.owned)

pub sock_write-requires-clause-there : goal.sock_write-requires-clause-there
sock_write-requires-clause-there c = subst (IsEndIn c.args.heap.now) c.in-Sock.is c.requires.there

pub returns-in-Sock-clause-answer : goal.returns-in-Sock-clause-answer
returns-in-Sock-clause-answer c =
    subst (λ on. (behind : Behind on) → StandsBehind c.args.heap.now on behind → moving_of c.sock_write.result ≡ write_of on behind c.args.nonblock c.args.n (length c.args.bytes.now)) (sym c.in-Sock.is)
    (λ behind stands. c.sock_write.ensures.answer behind stands)

pub returns-in-Sock-clause-puts : goal.returns-in-Sock-clause-puts
returns-in-Sock-clause-puts c =
    subst (λ on. (behind : Behind on) → StandsBehind c.args.heap.now on behind → PutsIn c.args.heap.now c.sock_write.new.heap on behind c.args.bytes.now (moved_by c.sock_write.result)) (sym c.in-Sock.is)
    (λ behind stands. record {
      stands = c.sock_write.ensures.stands behind stands;
      queues = sent_queues c.args.heap.now c.args.purse.now c.sock_write.new.heap c.sock_write.new.purse _ _ (c.sock_write.ensures.sends behind stands);
    })

pub returns-in-Sock-clause-leaves : goal.returns-in-Sock-clause-leaves
returns-in-Sock-clause-leaves c = subst (LeavesBut c.args.heap.now c.sock_write.new.heap) (sym c.in-Sock.is) (record { others = c.sock_write.ensures.others; objects = c.sock_write.ensures.owned; held = c.sock_write.ensures.held })

pub returns-in-Pipe-clause-links : goal.returns-in-Pipe-clause-links
returns-in-Pipe-clause-links c = c.pipe_write.ensures.links

pub returns-in-Sock-clause-links : goal.returns-in-Sock-clause-links
returns-in-Sock-clause-links c = links_same c.args.heap.now c.sock_write.new.heap (ap (λ (h : Heap). h.pipes) c.sock_write.ensures.others.kept)
