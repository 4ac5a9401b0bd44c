use Rattle.std.proofs.Common.{◌≡◌, ◌++◌, ◌∷◌, [], Some, ap, sym, subst}
use Rattle.std.proofs.lemmas.Result.{on_ok_weaker}
use Rattle.plain_pipes.specs.Held.{FrontsFollow, queue_of}
use Rattle.plain_pipes.proofs.TurnLemmas.{fronts_added}
use Rattle.plain_pipes.proofs.pipes.Pipes.make.Goals as goal

pub returns-clause-fronts : goal.returns-clause-fronts
returns-clause-fronts c =
    rw (← c.self.view_is)
    (on_ok_weaker c.push.result (λ (is : c.push.new.self ≡ c.self.inside.places ++ Some c.new.result ∷ []).
    subst (FrontsFollow c.self.inside.places) (sym is)
    (fronts_added c.self.inside.places c.new.result c.self.inside.chunks (ap queue_of c.new.ensures) c.self.invariant)) c.push.ensures.pushed)
