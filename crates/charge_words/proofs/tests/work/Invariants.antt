use Rattle.std.proofs.Common.{◌≡◌}
use Rattle.charge_words.proofs.tests.work.Given as goal

abbrev pub invariant-loop : goal.invariant-loop
invariant-loop l = l.seat.charge ≡ l.charge
