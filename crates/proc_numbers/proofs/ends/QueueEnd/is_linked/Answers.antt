use Rattle.std.proofs.Common.{◌≡◌, refl, subst, sym, true}
use Rattle.proc_numbers.specs.QueueEnds.{Behind, IsEndIn, StandsBehind, is_linked}
use Rattle.proc_numbers.proofs.ends.QueueEnd.is_linked.Goals as goal

pub returns-in-Pipe : goal.returns-in-Pipe
returns-in-Pipe c = subst (λ on. (behind : Behind on) → StandsBehind c.args.heap.now on behind → true ≡ is_linked on behind) (sym c.in-Pipe.is) (λ behind stands. refl)

pub is_connected-requires : goal.is_connected-requires
is_connected-requires c = subst (IsEndIn c.args.heap.now) c.in-Sock.is c.requires

pub returns-in-Sock : goal.returns-in-Sock
returns-in-Sock c =
    subst (λ on. (behind : Behind on) → StandsBehind c.args.heap.now on behind → c.is_connected.result ≡ is_linked on behind) (sym c.in-Sock.is)
    (λ behind stands. c.is_connected.ensures behind stands)
