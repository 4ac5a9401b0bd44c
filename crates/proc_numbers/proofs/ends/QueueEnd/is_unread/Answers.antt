use Rattle.std.proofs.Common.{◌≡◌, subst, sym}
use Rattle.proc_numbers.specs.QueueEnds.{Behind, IsEndIn, StandsBehind, is_unread_behind}
use Rattle.proc_numbers.proofs.ends.QueueEnd.is_unread.Goals as goal

pub pipe_is_unread-requires : goal.pipe_is_unread-requires
pipe_is_unread-requires c = subst (IsEndIn c.args.heap.now) c.in-Pipe.is c.requires

pub returns-in-Pipe : goal.returns-in-Pipe
returns-in-Pipe c =
    subst (λ on. (behind : Behind on) → StandsBehind c.args.heap.now on behind → c.pipe_is_unread.result ≡ is_unread_behind on behind) (sym c.in-Pipe.is)
    (λ behind stands. c.pipe_is_unread.ensures behind.0 behind.1 stands)

pub sock_is_unread-requires : goal.sock_is_unread-requires
sock_is_unread-requires c = subst (IsEndIn c.args.heap.now) c.in-Sock.is c.requires

pub returns-in-Sock : goal.returns-in-Sock
returns-in-Sock c =
    subst (λ on. (behind : Behind on) → StandsBehind c.args.heap.now on behind → c.sock_is_unread.result ≡ is_unread_behind on behind) (sym c.in-Sock.is)
    (λ behind stands. c.sock_is_unread.ensures behind stands)
