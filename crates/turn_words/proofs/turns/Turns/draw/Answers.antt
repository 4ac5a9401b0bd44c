use Rattle.std.proofs.Common.{rules}
use Rattle.turn_words.proofs.Keeps.{draws}
use Rattle.turn_words.proofs.turns.Turns.draw.Goals as goal

pub fetch_add-ticket-requires : goal.fetch_add-ticket-requires
fetch_add-ticket-requires g c = (
  search rules,
  search rules,
  draws g.T.Chronicle.stands _ _ _ c.seat.invariant.in_use (search rules),
)
