use Rattle.std.proofs.Common.{rules}
use Rattle.turn_words.proofs.Joining.{splits}
use Rattle.turn_words.proofs.turns.Turns.split.Goals as goal

pub split_seat-new-requires : goal.split_seat-new-requires
split_seat-new-requires g c = (search rules, search rules, splits g.T.Chronicle.stands _ _ c.seat.invariant.in_use (search rules) (search rules))
