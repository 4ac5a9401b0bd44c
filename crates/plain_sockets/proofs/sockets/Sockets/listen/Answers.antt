use Rattle.std.proofs.Common.{ap}
use Rattle.kept_places.specs.Places.{put}
use Rattle.posix_defs.specs.Socket.{Socket, listening}
use Rattle.plain_bytes.proofs.KeptLemmas.{kept_same}
use Rattle.plain_sockets.specs.Held.{queue_of, socket_of}
use Rattle.plain_sockets.proofs.TurnLemmas.{fades_follow, fades_put, sockets_turned}
use Rattle.plain_sockets.proofs.sockets.Sockets.listen.Goals as goal

pub invariant_of-self : goal.invariant_of-self
invariant_of-self c =
    kept_same queue_of c.self.inside.places c.args.place c.get_mut-socket.result.now c.get_mut-socket.ensures.value c.self.inside.chunks c.listen.new.self c.self.invariant (ap queue_of c.listen.ensures)

pub returns-clause-sockets : goal.returns-clause-sockets
returns-clause-sockets c =
    rw (← c.self.view_is) (sockets_turned c.self.inside.places c.args.place c.get_mut-socket.result.now c.get_mut-socket.ensures.value (λ (s : Socket). record s { stage = listening s.stage }) c.listen.new.self (ap socket_of c.listen.ensures))

pub returns-clause-fronts : goal.returns-clause-fronts
returns-clause-fronts c = rw (← c.self.view_is) (fades_follow c.self.inside.places (put c.self.inside.places c.args.place c.listen.new.self) (fades_put c.self.inside.places c.args.place c.get_mut-socket.result.now c.get_mut-socket.ensures.value c.self.inside.chunks c.listen.new.self c.self.invariant (ap queue_of c.listen.ensures)))
