use Rattle.std.proofs.Common.{◌≡◌, ◌++◌, ◌∷◌, [], ap}
use Rattle.std.proofs.lemmas.Result.{on_ok_weaker}
use Rattle.posix_defs.specs.Socket.{Listening, Socket, waiting_of}
use Rattle.plain_bytes.proofs.KeptLemmas.{kept_same}
use Rattle.plain_sockets.specs.Held.{in_stage, queue_of, socket_of}
use Rattle.plain_sockets.proofs.TurnLemmas.{fades_put, sockets_turned}
use Rattle.plain_sockets.proofs.sockets.Sockets.wait_at.Goals as goal

pub invariant_of-self : goal.invariant_of-self
invariant_of-self c =
    kept_same queue_of c.self.inside.places c.args.place c.get_mut-socket.result.now c.get_mut-socket.ensures.value c.self.inside.chunks c.wait.new.self c.self.invariant c.wait.ensures.queue

pub returns-clause-sockets : goal.returns-clause-sockets
returns-clause-sockets c =
    rw (← c.self.view_is)
    (on_ok_weaker c.wait.result
    (λ (is : c.wait.new.self ≡ in_stage c.get_mut-socket.result.now (Listening (waiting_of c.get_mut-socket.result.now.socket.stage ++ c.args.waiting ∷ []))).
    sockets_turned c.self.inside.places c.args.place c.get_mut-socket.result.now c.get_mut-socket.ensures.value (λ (s : Socket). record s { stage = Listening (waiting_of s.stage ++ c.args.waiting ∷ []) }) c.wait.new.self (ap socket_of is))
    c.wait.ensures.waits)

pub returns-clause-fades : goal.returns-clause-fades
returns-clause-fades c = rw (← c.self.view_is) (fades_put c.self.inside.places c.args.place c.get_mut-socket.result.now c.get_mut-socket.ensures.value c.self.inside.chunks c.wait.new.self c.self.invariant c.wait.ensures.queue)
