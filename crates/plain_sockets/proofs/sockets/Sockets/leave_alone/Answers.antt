use Rattle.std.proofs.Common.{ap}
use Rattle.posix_defs.specs.Socket.{Socket, without_peer}
use Rattle.plain_bytes.proofs.KeptLemmas.{kept_same}
use Rattle.plain_sockets.specs.Held.{queue_of, socket_of}
use Rattle.plain_sockets.proofs.TurnLemmas.{fades_put, sockets_turned}
use Rattle.plain_sockets.proofs.sockets.Sockets.leave_alone.Goals as goal

pub invariant_of-self : goal.invariant_of-self
invariant_of-self c =
    kept_same queue_of c.self.inside.places c.args.place c.get_mut-socket.result.now c.get_mut-socket.ensures.value c.self.inside.chunks c.leave_alone.new.self c.self.invariant (ap queue_of c.leave_alone.ensures)

pub returns-clause-sockets : goal.returns-clause-sockets
returns-clause-sockets c =
    rw (← c.self.view_is) (sockets_turned c.self.inside.places c.args.place c.get_mut-socket.result.now c.get_mut-socket.ensures.value (λ (s : Socket). record s { stage = without_peer s.stage }) c.leave_alone.new.self (ap socket_of c.leave_alone.ensures))

pub returns-clause-fades : goal.returns-clause-fades
returns-clause-fades c = rw (← c.self.view_is) (fades_put c.self.inside.places c.args.place c.get_mut-socket.result.now c.get_mut-socket.ensures.value c.self.inside.chunks c.leave_alone.new.self c.self.invariant (ap queue_of c.leave_alone.ensures))
