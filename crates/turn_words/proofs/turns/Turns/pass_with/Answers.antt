use Rattle.std.proofs.Common.{rules, ◌≡◌, true}
use Rattle.turn_words.proofs.Seated.{put_not_out}
use Rattle.turn_words.proofs.Turning.{passes_on}
use Rattle.turn_words.proofs.turns.Turns.pass_with.Goals as goal

pub fetch_add-requires : goal.fetch_add-requires
fetch_add-requires g c =
    let put : c.seat.inside.seat.me.0.has_put ≡ true = search rules in (
      search rules,
      search rules,
      passes_on g.T.Chronicle.stands g.J.Passed.item _ _ _ c.seat.invariant.in_use (put_not_out _ c.seat.inside.seat.me c.seat.invariant put) put (search rules) (search rules) (search rules),
    )
