use Rattle.std.proofs.Common.{rules, ◌≡◌, false}
use Rattle.turn_words.proofs.Joining.{joins}
use Rattle.turn_words.proofs.Keeps.{compares}
use Rattle.turn_words.proofs.Seated.{no_slot}
use Rattle.turn_words.proofs.turns.Turns.join.Goals as goal

pub join_seat-requires : goal.join_seat-requires
join_seat-requires g c =
    let free : c.from.inside.seat.me.0.has_ticket ≡ false = search rules in (
      search rules,
      search rules,
      no_slot _ c.from.inside.seat.me c.from.invariant free,
      search rules,
      joins g.T.Chronicle.stands _ _ _ _ c.into.invariant.in_use (search rules) c.from.invariant.in_use free,
    )

pub load-requires : goal.load-requires
load-requires g c = (search rules, search rules, compares g.T.Chronicle.stands _ _ _ (search rules))
