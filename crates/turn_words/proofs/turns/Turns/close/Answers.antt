use Rattle.std.proofs.Common.{rules, subst}
use Rattle.turn_words.specs.Items.{heard}
use Rattle.turn_words.specs.Rule.{AreIn, Told}
use Rattle.turn_words.proofs.Ends.{closes, closes_in}
use Rattle.turn_words.proofs.turns.Turns.close.Goals as goal

pub unwrap-requires : goal.unwrap-requires
unwrap-requires g c =
    let end = closes g.T.Chronicle.stands _ _ _ _ _ c.close_with-closed.ensures.values.2 c.take-value.ensures.value c.seat.invariant.in_use (search rules) (search rules) (search rules) in
    end.0

pub returns-clause-value : goal.returns-clause-value
returns-clause-value g c =
    let end = closes g.T.Chronicle.stands _ _ _ _ _ c.close_with-closed.ensures.values.2 c.take-value.ensures.value c.seat.invariant.in_use (search rules) (search rules) (search rules) in
    subst (λ s. g.T.Chronicle.stands c.unwrap.result (heard s.known.seen)) c.seat.view_is
    (subst (λ o. Told g.T.Chronicle.stands o (heard c.seat.inside.seat.me.0.seen)) c.unwrap.ensures end.1)

pub returns-clause-mine : goal.returns-clause-mine
returns-clause-mine g c = subst (λ s. AreIn s.known.mine s.known.seen) c.seat.view_is (closes_in g.T.Chronicle.stands _ _ _ _ c.close_with-closed.ensures.values.2)
