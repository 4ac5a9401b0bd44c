use Rattle.std.proofs.Common.{◌≡◌, sym, ◌∙◌, ap, arith, rules, w64}
use Rattle.std.proofs.lemmas.Int.{to_z-of_z}
use mir.Val.{of_z, to_z}
use Rattle.posix_defs.specs.Socket.{Socket, after_shutdown}
use Rattle.plain_bytes.proofs.KeptLemmas.{chunks_fit, has_chunks, kept_turned}
use Rattle.plain_sockets.specs.Held.{queue_of, with_unread}
use Rattle.plain_sockets.proofs.TurnLemmas.{fronts_put, sockets_turned}
use Rattle.plain_sockets.proofs.sockets.Sockets.shut.Goals as goal

pub overflow_sub-self : goal.overflow_sub-self
overflow_sub-self c =
    let has = has_chunks queue_of c.self.inside.places c.args.place c.get_mut-socket.result.now c.get_mut-socket.ensures.value c.self.inside.chunks c.self.invariant in
    omega (arith, has, c.chunks-before.ensures.value)

pub overflow_add-self : goal.overflow_add-self
overflow_add-self c =
    let room = chunks_fit queue_of c.self.inside.places c.self.inside.chunks c.self.invariant in
    record { fits = omega (arith, room, c.chunks.ensures.few) }

pub invariant_of-self : goal.invariant_of-self
invariant_of-self c =
    kept_turned queue_of c.self.inside.places c.args.place c.get_mut-socket.result.now c.get_mut-socket.ensures.value c.shut.new.self c.self.inside.chunks c.chunks-before.result c.chunks.result
    c.self.invariant c.shut.ensures.queue c.chunks-before.ensures.value c.chunks.ensures.value

pub returns-clause-sockets : goal.returns-clause-sockets
returns-clause-sockets c =
    let signed : to_z w64 (of_z w64 c.args.how) ≡ c.args.how = search (rules, to_z-of_z) in
    rw (← c.self.view_is) (sockets_turned c.self.inside.places c.args.place c.get_mut-socket.result.now c.get_mut-socket.ensures.value (λ (s : Socket). after_shutdown s c.args.how) c.shut.new.self
    (c.shut.ensures.shut ∙ ap (after_shutdown c.get_mut-socket.result.now.socket) signed))

pub returns-clause-fronts : goal.returns-clause-fronts
returns-clause-fronts c = rw (← c.self.view_is) (fronts_put c.self.inside.places c.args.place c.get_mut-socket.result.now c.get_mut-socket.ensures.value c.self.inside.chunks c.shut.new.self c.self.invariant (c.shut.ensures.front ∙ ap (λ (s : Socket). (with_unread c.get_mut-socket.result.now s.bytes).front) (sym c.shut.ensures.shut)))
