use Rattle.std.proofs.Common.{false, Some, ap}
use Rattle.posix_defs.specs.Socket.{Connected, Socket}
use Rattle.plain_bytes.proofs.KeptLemmas.{kept_same}
use Rattle.plain_sockets.specs.Held.{queue_of, socket_of}
use Rattle.plain_sockets.proofs.TurnLemmas.{fades_put, sockets_turned}
use Rattle.plain_sockets.proofs.sockets.Sockets.connect_to.Goals as goal

pub invariant_of-self : goal.invariant_of-self
invariant_of-self c =
    kept_same queue_of c.self.inside.places c.args.place c.get_mut-socket.result.now c.get_mut-socket.ensures.value c.self.inside.chunks c.connect.new.self c.self.invariant (ap queue_of c.connect.ensures)

pub returns-clause-sockets : goal.returns-clause-sockets
returns-clause-sockets c =
    rw (← c.self.view_is) (sockets_turned c.self.inside.places c.args.place c.get_mut-socket.result.now c.get_mut-socket.ensures.value (λ (s : Socket). record s { stage = Connected (Some c.args.peer) false false }) c.connect.new.self (ap socket_of c.connect.ensures))

pub returns-clause-fades : goal.returns-clause-fades
returns-clause-fades c = rw (← c.self.view_is) (fades_put c.self.inside.places c.args.place c.get_mut-socket.result.now c.get_mut-socket.ensures.value c.self.inside.chunks c.connect.new.self c.self.invariant (ap queue_of c.connect.ensures))
