use Rattle.std.proofs.Common.{rules}
use Rattle.charge_words.proofs.Steps.{loads}
use Rattle.charge_words.proofs.charges.Charge.charged.Goals as goal

pub load-requires : goal.load-requires
load-requires c = (search rules, search rules, loads _ _ _ _ c.seat.invariant.1)
