use Rattle.std.proofs.Common.{◌≡◌, ◌+◌, ◌<◌, ◌^◌, ◌++◌, ◌∷◌, [], length, Some, ap, ◌∙◌, subst, sym, arith}
use Rattle.std.specs.Option.{option_map}
use Rattle.std.proofs.lemmas.List.{length-map}
use Rattle.std.proofs.lemmas.Result.{on_ok_weaker}
use Rattle.plain_bytes.proofs.KeptLemmas.{kept_pushed}
use Rattle.plain_sockets.specs.Held.{OnlyFades, queue_of, socket_of, sockets_in}
use Rattle.plain_sockets.proofs.TurnLemmas.{fades_added, sockets_added}
use Rattle.plain_sockets.proofs.sockets.Sockets.add.Goals as goal

pub invariant_of-self : goal.invariant_of-self
invariant_of-self c =
    let same : length (sockets_in c.self.inside.places) ≡ length (sockets_in c.args.self.now) = ap (λ l. length (sockets_in l)) c.self.view_is in
    let few : length c.self.inside.places + 1 < 2 ^ 32 = omega (arith, c.requires.room, same, length-map c.self.inside.places (option_map socket_of)) in
    kept_pushed queue_of c.self.inside.places c.args.socket c.requires.empty c.push.result c.push.new.self c.self.inside.chunks c.push.ensures.pushed
    c.push.ensures.kept c.self.invariant few

pub returns-clause-sockets : goal.returns-clause-sockets
returns-clause-sockets c =
    rw (← c.self.view_is)
    (on_ok_weaker c.push.result (λ (is : c.push.new.self ≡ c.self.inside.places ++ Some c.args.socket ∷ []).
    ap sockets_in is ∙ sockets_added c.self.inside.places c.args.socket) c.push.ensures.pushed)

pub returns-clause-fades : goal.returns-clause-fades
returns-clause-fades c =
    rw (← c.self.view_is)
    (on_ok_weaker c.push.result (λ (is : c.push.new.self ≡ c.self.inside.places ++ Some c.args.socket ∷ []).
    subst (OnlyFades c.self.inside.places) (sym is)
    (fades_added c.self.inside.places c.args.socket c.self.inside.chunks c.requires.empty c.self.invariant)) c.push.ensures.pushed)
