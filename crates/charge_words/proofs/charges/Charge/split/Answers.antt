use Rattle.std.proofs.Common.{rules}
use Rattle.charge_words.proofs.Steps.{splits}
use Rattle.charge_words.proofs.charges.Charge.split.Goals as goal

pub split_seat-new-requires : goal.split_seat-new-requires
split_seat-new-requires c = (search rules, search rules, splits _ _ _ c.seat.invariant.1 (search rules))
