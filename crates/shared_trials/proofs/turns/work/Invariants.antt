use Rattle.std.proofs.Common.{◌≡◌, false}
use Rattle.shared_trials.proofs.turns.work.Given as goal

abbrev pub invariant-loop-number : goal.invariant-loop-number
invariant-loop-number g l = (l.seat.turns ≡ l.turns) × (l.seat.known.has_ticket ≡ false)
