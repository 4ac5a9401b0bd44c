use Rattle.std.proofs.Common.{◌-◌, ap, sym, ◌∙◌, subst, arith}
use Rattle.plain_bytes.specs.Many.{AreKept}
use Rattle.plain_bytes.proofs.KeptLemmas.{has_chunks, kept_gone}
use Rattle.plain_sockets.specs.Held.{OnlyFades, queue_of, sockets_in}
use Rattle.plain_sockets.proofs.PlaceLemmas.{socket_is}
use Rattle.plain_sockets.proofs.TurnLemmas.{fades_gone, sockets_gone}
use Rattle.plain_sockets.proofs.sockets.Sockets.remove.Goals as goal

pub overflow_sub-self : goal.overflow_sub-self
overflow_sub-self c =
    let has = has_chunks queue_of c.self.inside.places c.args.place c.in-Some.socket (sym c.in-Some.ensures.taken) c.self.inside.chunks c.self.invariant in
    omega (arith, has, c.chunks.ensures.value)

pub invariant_of-self : goal.invariant_of-self
invariant_of-self c =
    subst (λ l. AreKept queue_of l (c.self.inside.chunks - c.chunks.result)) (sym c.in-Some.ensures.left)
    (rw c.chunks.ensures.value (kept_gone queue_of c.self.inside.places c.args.place c.in-Some.socket (sym c.in-Some.ensures.taken) c.self.inside.chunks c.self.invariant))

pub returns-clause-socket : goal.returns-clause-socket
returns-clause-socket c = rw (← c.self.view_is) (sym (socket_is c.self.inside.places c.args.place c.in-Some.socket (sym c.in-Some.ensures.taken)))

pub returns-clause-sockets : goal.returns-clause-sockets
returns-clause-sockets c =
    rw (← c.self.view_is) (ap sockets_in c.in-Some.ensures.left ∙ sockets_gone c.self.inside.places c.args.place c.in-Some.socket (sym c.in-Some.ensures.taken))

pub returns-clause-fades : goal.returns-clause-fades
returns-clause-fades c =
    rw (← c.self.view_is)
    (subst (OnlyFades c.self.inside.places) (sym c.in-Some.ensures.left)
    (fades_gone c.self.inside.places c.args.place c.in-Some.socket (sym c.in-Some.ensures.taken) c.self.inside.chunks c.self.invariant))
