use Rattle.std.proofs.Common.{◌++◌, take, ap, arith}
use Rattle.posix_defs.specs.Socket.{Socket}
use Rattle.plain_bytes.proofs.KeptLemmas.{chunks_fit, has_chunks, kept_turned}
use Rattle.plain_sockets.specs.Held.{queue_of, socket_of}
use Rattle.plain_sockets.proofs.TurnLemmas.{fronts_unread, sockets_turned}
use Rattle.plain_sockets.proofs.sockets.Sockets.put_at.Goals as goal

pub overflow_sub-self : goal.overflow_sub-self
overflow_sub-self c =
    let has = has_chunks queue_of c.self.inside.places c.args.place c.get_mut-socket.result.now c.get_mut-socket.ensures.value c.self.inside.chunks c.self.invariant in
    omega (arith, has, c.chunks-before.ensures.value)

pub overflow_add-self : goal.overflow_add-self
overflow_add-self c =
    let room = chunks_fit queue_of c.self.inside.places c.self.inside.chunks c.self.invariant in
    record { fits = omega (arith, room, c.chunks.ensures.few) }

pub invariant_of-self-2 : goal.invariant_of-self-2
invariant_of-self-2 c =
    kept_turned queue_of c.self.inside.places c.args.place c.get_mut-socket.result.now c.get_mut-socket.ensures.value c.put.new.self c.self.inside.chunks c.chunks-before.result c.chunks.result
    c.self.invariant c.put.ensures.queue c.chunks-before.ensures.value c.chunks.ensures.value

pub returns-clause-sockets : goal.returns-clause-sockets
returns-clause-sockets c = rw (← c.self.view_is) (sockets_turned c.self.inside.places c.args.place c.get_mut-socket.result.now c.get_mut-socket.ensures.value (λ (s : Socket). record s { bytes = s.bytes ++ take c.args.count c.args.bytes.now }) c.put.new.self (ap socket_of c.in_ok-put.ensures.written))

pub returns-clause-fronts : goal.returns-clause-fronts
returns-clause-fronts c = rw (← c.self.view_is) (fronts_unread c.self.inside.places c.args.place c.get_mut-socket.result.now c.get_mut-socket.ensures.value c.self.inside.chunks (c.get_mut-socket.result.now.socket.bytes ++ take c.args.count c.args.bytes.now) c.put.new.self c.self.invariant c.in_ok-put.ensures.written)
