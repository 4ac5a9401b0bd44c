use Rattle.std.proofs.Common.{rules}
use Rattle.turn_words.proofs.Keeps.{looks}
use Rattle.turn_words.proofs.Seated.{looks_on}
use Rattle.turn_words.proofs.turns.Turns.look.Goals as goal

pub load-serving-requires : goal.load-serving-requires
load-serving-requires g c = (
  search rules,
  search rules,
  looks g.T.Chronicle.stands _ _ _ c.seat.invariant.in_use (search rules),
)

pub invariant_of-seat : goal.invariant_of-seat
invariant_of-seat g c =
    let told = c.load-serving.ensures.2 in
    looks_on _ c.seat.inside.seat.me _ _ c.seat.invariant (search rules) told.0 told.1.4
